-- `square_rows` meets its contract: a loop over the rows.
use lib.ListN.{set}
use Prim.Native.Nat.{◌+◌}
use Rattle.steps.proofs.Loop.{going_ready, going_on, gone}
use Rattle.steps.proofs.Parts.{ready_first, went_map}
use Rattle.sbox.specs.TableSteps as spec
use Rattle.sbox.proofs.power_rows.square_rows.Goals as goal

pub square-requires : goal.square-requires
unfolding spec.square_row
square-requires g c = ready_first _ _ (going_ready c.loop-r.invariant c.requires.ready c.loop-r-test.true)

pub loop-r-preserved : goal.loop-r-preserved
unfolding spec.square_row
loop-r-preserved g c =
    going_on c.loop-r.invariant c.requires.ready c.loop-r-test.true (went_map (λ row. set c.loop-r.t (c.loop-r.r + 1) row) c.square.ensures)

pub returns : goal.returns
returns g c = gone c.loop-r.invariant c.loop-r-test.false
