-- `bytes::read_u64` meets its contract.
use mathlib.Core.Path.{◌≡◌}
use borrow.Author.Rules.{rules}
use Rattle.layers.proofs.State.{eight_read}
use Rattle.layers.proofs.bytes.read_u64.Goals as goal

pub returns : goal.returns
returns c =
    let same : c.unwrap.result ≡ c.args.bytes.now = search rules in
    eight_read c.args.bytes.now c.requires (λ i. (c.type_inv.bytes i).fits) c.from_be_bytes.type_inv (rw same at c.from_be_bytes.ensures)
