-- `product::pair` meets its contract: its steps are those of the definition.
use native.Mathlib.Omega.{arith}
use Rattle.product.proofs.Runs.{pair_runs, pair_room}
use Rattle.product.proofs.pair.Goals as goal

pub draw-r-requires : goal.draw-r-requires
draw-r-requires g c =
    let room = pair_room _ _ _ _ _ _ c.requires.ready in
    (omega (arith, room.enough), room.draws_fit)

pub record_all-requires : goal.record_all-requires
record_all-requires g c =
    let room = pair_room _ _ _ _ _ _ c.requires.ready in
    rw c.draw-r.ensures.after (room.steps_fit, room.places)

pub returns : goal.returns
returns g c =
    pair_runs _ _ _ _ _ _ _ _ _ _ c.draw-r.ensures.element c.multiply-x.ensures c.multiply-z.ensures c.draw-r.ensures.after c.record_all.ensures
