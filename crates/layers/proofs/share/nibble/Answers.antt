-- `share::nibble` meets its contract.
use mathlib.Core.Path.{sym}
use native.Mathlib.Omega.{arith}
use Rattle.layers.proofs.State.{nibble_byte}
use borrow.Author.Rules.{rules}
use Rattle.layers.proofs.share.nibble.Goals as goal

pub returns : goal.returns
returns c =
    sym (nibble_byte c.args.w c.args.l.now (λ j. omega (arith, c.type_inv.l j)) c.args.i c.args.k (search rules))
