-- `product::rows` meets its contract: a loop over the rows of pairs.
use Rattle.steps.specs.Loop.{Going}
use Rattle.product.specs.Product as spec
use Rattle.product.proofs.rows.Given as goal

abbrev pub invariant-loop-i : goal.invariant-loop-i
invariant-loop-i g l = Going (spec.row g.F.Field.WIDTH l.fn.s.count l.a l.b) 0 l.fn.s.count l.initial.c (g.M.Machine.state l.initial.machine) l.i l.c (g.M.Machine.state l.machine)
