-- `total_share` meets its contract: a loop over the sharings that are added.
use Rattle.steps.specs.Loop.{Going}
use Rattle.sbox.specs.TableSteps as spec
use Rattle.sbox.proofs.product_rows.total_share.Given as goal

abbrev pub invariant-loop-j : goal.invariant-loop-j
invariant-loop-j g l = Going (spec.add_next l.terms l.i) 0 l.fn.h l.initial.sum (g.M.Machine.state l.initial.machine) l.j l.sum (g.M.Machine.state l.machine)
