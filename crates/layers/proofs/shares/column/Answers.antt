-- `shares::column` meets its contract: the places of the shares are filled.
use mathlib.Core.Path.{◌≡◌, sym, ◌∙◌}
use native.Mathlib.Omega.{arith}
use Rattle.present.specs.Present as present
use Rattle.present.proofs.Numbers.{nibble_linear}
use Rattle.steps.specs.ShareBytes.{share_at, shares_of, sharing}
use Rattle.steps.proofs.Past.{share_before}
use Rattle.steps.proofs.View.{map_given, fill_given}
use borrow.Author.Rules.{rules}
use Rattle.layers.proofs.shares.column.Goals as goal

pub returns : goal.returns
unfolding sharing shares_of
returns c =
    let few = c.args.s.few in
    c.filled.ensures (λ i. present.nibble c.args.k (share_at c.args.w c.args.l.now i)) (λ p v h r. search rules)
    ∙ fill_given c.args.s.count few _
    ∙ sym (map_given c.args.s.count few (nibble_linear 0 c.args.k) (share_at c.args.w c.args.l.now))
