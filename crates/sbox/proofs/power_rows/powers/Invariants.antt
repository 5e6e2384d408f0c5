-- `powers` meets its contract: a loop over the classes.
use lib.ListN.{length}
use Rattle.steps.specs.Loop.{Going}
use Rattle.sbox.specs.Sbox.{factors}
use Rattle.sbox.specs.TableSteps as spec
use Rattle.sbox.proofs.power_rows.powers.Given as goal

abbrev pub invariant-loop-k : goal.invariant-loop-k
invariant-loop-k g l =
    Going (spec.power_class g.F.Field.WIDTH l.fn.s.count) 0 (length (factors g.F.Field.WIDTH)) l.initial.t (g.M.Machine.state l.initial.machine) l.k l.t (g.M.Machine.state l.machine)
