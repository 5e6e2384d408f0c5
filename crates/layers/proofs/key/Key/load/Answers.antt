-- `Key::load` meets its contract: ten bytes are the two parts.
use mathlib.Core.Path.{◌≡◌, sym, ap, ap₂, ◌∙◌}
use mathlib.Core.List.{List}
use Prim.Native.Nat.{ℕ, ◌+◌, ◌*◌, ◌^◌}
use borrow.Author.Rules.{rules}
use lib.ListN.{drop}
use lib.Seq.{get_or-drop}
use Rattle.steps.specs.Bytes.{from_bytes}
use Rattle.layers.proofs.State.{from_parts, two_read}
use Rattle.layers.proofs.key.Key.load.Goals as goal

pub returns : goal.returns
returns c =
    let rest : List ℕ = drop 8 c.args.bytes.now in
    let same : c.unwrap.result ≡ rest = search rules in
    ap₂ (λ (t u : ℕ). t * 2 ^ 16 + u) (c.read_u64.ensures ∙ ap from_bytes c.split_at.ensures.front)
    (two_read rest (search rules) (λ i. rw get_or-drop (c.type_inv.bytes (8 + i)).fits) c.from_be_bytes.type_inv (rw same at c.from_be_bytes.ensures))
    ∙ sym (from_parts 8 2 c.args.bytes.now c.requires)
