-- `powers` meets its contract: the class of x, and the others.
use Rattle.steps.proofs.Loop.{going_ready, going_on, gone}
use Rattle.steps.proofs.Parts.{ready_first, ready_next, went_then}
use Rattle.sbox.specs.TableSteps as spec
use Rattle.sbox.proofs.power_rows.powers.Goals as goal

pub square_rows-requires-clause-ready : goal.square_rows-requires-clause-ready
unfolding spec.power_rows
square_rows-requires-clause-ready g c = rw c.WIDTH-width.ensures (ready_first _ _ c.requires)

pub power_class-requires-clause-ready : goal.power_class-requires-clause-ready
unfolding spec.power_rows
power_class-requires-clause-ready g c =
    let next = ready_next _ c.requires (rw c.WIDTH-width.ensures at c.square_rows.ensures) in
    going_ready c.loop-k.invariant next (rw c.factors-x-items.ensures at c.loop-k-test.true)

pub loop-k-preserved : goal.loop-k-preserved
unfolding spec.power_rows
loop-k-preserved g c =
    let next = ready_next _ c.requires (rw c.WIDTH-width.ensures at c.square_rows.ensures) in
    going_on c.loop-k.invariant next (rw c.factors-x-items.ensures at c.loop-k-test.true) c.power_class.ensures

pub returns : goal.returns
unfolding spec.power_rows
returns g c =
    went_then _ (rw c.WIDTH-width.ensures at c.square_rows.ensures)
    (gone c.loop-k.invariant (rw c.factors-x-items.ensures at c.loop-k-test.false))
