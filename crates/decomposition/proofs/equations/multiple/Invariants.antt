-- `equations::multiple` meets its contract. The invariant: the first j products are written.
use Rattle.linear.specs.Buffer.{Overwritten}
use Rattle.linear.specs.Row.{times}
use Rattle.linear.specs.Scalars.{scalars}
use Rattle.decomposition.specs.Form.{monomial}
use Rattle.decomposition.proofs.equations.multiple.Given as goal

abbrev pub invariant-loop-j : goal.invariant-loop-j
invariant-loop-j l = Overwritten l.initial.work l.work l.a l.j (times (scalars l.powers.layout.width) l.f (monomial l.powers.layout.width l.powers.x))
