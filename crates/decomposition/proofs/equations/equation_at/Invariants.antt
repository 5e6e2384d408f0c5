-- `equations::equation_at` meets its contract. The invariant: the columns of i polynomials are written.
use Prim.Native.Nat.{◌*◌}
use Rattle.linear.specs.Buffer.{Overwritten}
use Rattle.decomposition.specs.Form.{unknown_column}
use Rattle.decomposition.proofs.equations.equation_at.Given as goal

abbrev pub invariant-loop-i : goal.invariant-loop-i
invariant-loop-i l = Overwritten l.initial.work l.work l.a (l.i * l.input.problem.layout.exponents) (unknown_column l.input.problem.layout l.input.problem.basis.now l.input.powers.x)
