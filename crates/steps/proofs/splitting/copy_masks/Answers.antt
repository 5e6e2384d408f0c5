-- `copy_masks` meets its contract: filled with the bytes of the masks, it is the masks.
use mathlib.Core.Path.{◌∙◌}
use borrow.Author.Rules.{rules}
use lib.ListN.{get_or}
use Rattle.steps.proofs.Fill.{filled, tabulate_get_or}
use Rattle.steps.proofs.splitting.copy_masks.Goals as goal

pub returns : goal.returns
returns c = filled (λ i. get_or c.args.masks.now i 0) _ c.loop-j.invariant (search rules) (search rules) ∙ tabulate_get_or c.args.masks.now 0
