-- `square_rows` meets its contract: a loop over the rows.
use Rattle.steps.specs.Loop.{Going}
use Rattle.sbox.specs.TableSteps as spec
use Rattle.sbox.proofs.power_rows.square_rows.Given as goal

abbrev pub invariant-loop-r : goal.invariant-loop-r
invariant-loop-r g l = Going (spec.square_row g.F.Field.WIDTH l.fn.s.count) l.fn.first l.fn.last l.initial.t (g.M.Machine.state l.initial.machine) l.r l.t (g.M.Machine.state l.machine)
