-- `first_share` meets its contract. The invariant: the first j bytes are those of share 0.
use mathlib.Core.Path.{◌≡◌}
use Rattle.steps.specs.Fill.{fill}
use Rattle.steps.specs.Operations.{masked_byte}
use Rattle.steps.proofs.splitting.first_share.Given as goal

abbrev pub invariant-loop-j : goal.invariant-loop-j
invariant-loop-j l = l.out ≡ fill l.j (masked_byte l.value l.k l.masks) l.initial.out
