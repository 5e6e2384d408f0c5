-- `product::row` meets its contract: a loop over the pairs of share i.
use Prim.Native.Nat.{◌+◌}
use Rattle.steps.specs.Loop.{Going}
use Rattle.product.specs.Product as spec
use Rattle.product.proofs.row.Given as goal

abbrev pub invariant-loop-j : goal.invariant-loop-j
invariant-loop-j g l = Going (spec.pair g.F.Field.WIDTH l.a l.b l.i) (l.i + 1) l.fn.s.count l.initial.c (g.M.Machine.state l.initial.machine) l.j l.c (g.M.Machine.state l.machine)
