-- `bit_equations::bit_equations` meets its contract. The invariant: the rows of the inputs passed are written.
use Prim.Native.Nat.{◌*◌}
use Rattle.decomposition.specs.Equations.{BitRows}
use Rattle.decomposition.proofs.bit_equations.bit_equations.Given as goal

abbrev pub invariant-loop-x : goal.invariant-loop-x
invariant-loop-x l = BitRows l.problem.layout l.problem.table.now l.problem.basis.now (l.x * l.problem.layout.outputs) l.work
