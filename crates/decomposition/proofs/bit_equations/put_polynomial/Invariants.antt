-- `bit_equations::put_polynomial` meets its contract. The invariant: the columns of j unknowns are written.
use mathlib.Core.Path.{◌≡◌}
use Prim.Native.Nat.{ℕ, ◌*◌, ◌+◌, ◌<◌}
use Rattle.field.specs.Mul.{mul}
use Rattle.decomposition.specs.Equations.{BitsWritten}
use Rattle.decomposition.specs.Form.{monomial}
use Rattle.decomposition.proofs.bit_equations.put_polynomial.Given as goal

abbrev pub invariant-loop-j : goal.invariant-loop-j
invariant-loop-j l =
    (r : ℕ → ℕ) → ((k : ℕ) → k < l.layout.exponents → r (l.i * l.layout.exponents + k) ≡ mul l.layout.width l.f (monomial l.layout.width l.input.powers.x k))
    → BitsWritten l.layout l.initial.work l.work l.row (l.i * l.layout.exponents * l.layout.width) (l.j * l.layout.width) r
