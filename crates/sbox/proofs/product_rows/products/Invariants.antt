-- `products` meets its contract: a loop over the products.
use Rattle.steps.specs.Loop.{Going}
use Rattle.sbox.specs.TableSteps as spec
use Rattle.sbox.proofs.product_rows.products.Given as goal

abbrev pub invariant-loop-j : goal.invariant-loop-j
invariant-loop-j g l = Going (spec.product_row g.F.Field.WIDTH l.fn.s.count l.fn.q) 0 l.fn.h l.initial.p (g.M.Machine.state l.initial.machine) l.j l.p (g.M.Machine.state l.machine)
