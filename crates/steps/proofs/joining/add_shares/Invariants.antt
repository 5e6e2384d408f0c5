-- `add_shares` meets its contract. The invariant: the first j bytes are those of the value.
use mathlib.Core.Path.{◌≡◌}
use Rattle.steps.specs.Fill.{fill}
use Rattle.steps.specs.Operations.{joined_byte}
use Rattle.steps.proofs.joining.add_shares.Given as goal

abbrev pub invariant-loop-j : goal.invariant-loop-j
invariant-loop-j l = l.out ≡ fill l.j (joined_byte l.n l.s.count l.shares) l.initial.out
