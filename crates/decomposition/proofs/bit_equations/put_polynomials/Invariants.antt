-- `bit_equations::put_polynomials` meets its contract. The invariant: the columns of i polynomials are written.
use Prim.Native.Nat.{◌*◌}
use Rattle.decomposition.specs.Equations.{BitsWritten}
use Rattle.decomposition.specs.Form.{unknown_column}
use Rattle.decomposition.proofs.bit_equations.put_polynomials.Given as goal

abbrev pub invariant-loop-i : goal.invariant-loop-i
invariant-loop-i l =
    BitsWritten l.input.problem.layout l.initial.work l.work l.row 0 (l.i * l.input.problem.layout.exponents * l.input.problem.layout.width)
    (unknown_column l.input.problem.layout l.input.problem.basis.now l.input.powers.x)
