-- `filled` meets its contract: the places before p are filled.
use mathlib.Core.Path.{◌≡◌}
use Prim.Native.Nat.{ℕ}
use Rattle.steps.specs.Fill.{fill, Gives}
use Rattle.steps.proofs.filling.filled.Given as goal

abbrev pub invariant-loop-p : goal.invariant-loop-p
invariant-loop-p g l = (f : ℕ → ℕ) → Gives (goal.F-post g l.byte) l.fn.count f → l.array ≡ fill l.p f l.initial.array
