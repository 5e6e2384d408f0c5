-- `copy_masks` meets its contract. The invariant: the first j bytes are those of the masks.
use mathlib.Core.Path.{◌≡◌}
use lib.ListN.{get_or}
use Rattle.steps.specs.Fill.{fill}
use Rattle.steps.proofs.splitting.copy_masks.Given as goal

abbrev pub invariant-loop-j : goal.invariant-loop-j
invariant-loop-j l = l.out ≡ fill l.j (λ i. get_or l.masks i 0) l.initial.out
