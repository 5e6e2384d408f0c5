-- `product::start` meets its contract: its step is that of the definition.
use Rattle.product.proofs.Runs.{start_runs, start_room}
use Rattle.product.proofs.start.Goals as goal

pub record-requires : goal.record-requires
record-requires g c = let room = start_room _ _ _ _ _ c.requires.ready in (room.steps_fit, room.places)

pub returns : goal.returns
returns g c = start_runs _ _ _ _ _ _ _ c.multiply-v.ensures c.record.ensures
