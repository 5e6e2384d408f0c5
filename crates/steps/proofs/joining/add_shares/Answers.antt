-- `add_shares` meets its contract. The invariant: the first j bytes are those of the value.
use mathlib.Core.Path.{refl}
use borrow.Author.Rules.{rules}
use Rattle.steps.proofs.Fill.{filled}
use Rattle.steps.specs.Operations.{join_shares}
use Rattle.steps.proofs.joining.add_shares.Goals as goal

pub returns : goal.returns
unfolding join_shares
returns c = filled _ _ c.loop-j.invariant refl (search rules)
