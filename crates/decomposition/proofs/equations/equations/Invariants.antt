-- `equations::equations` meets its contract. The invariant: the rows of the inputs passed are written.
use Rattle.decomposition.specs.Equations.{Rows}
use Rattle.decomposition.proofs.equations.equations.Given as goal

abbrev pub invariant-loop-x : goal.invariant-loop-x
invariant-loop-x l = Rows l.problem.layout l.problem.table.now l.problem.basis.now l.x l.work
