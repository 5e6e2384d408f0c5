-- `total_share` meets its contract: a loop over the sharings that are added.
use Rattle.steps.proofs.Loop.{going_ready, going_on, gone}
use Rattle.sbox.proofs.TableRuns.{add_runs, add_room}
use Rattle.sbox.proofs.product_rows.total_share.Goals as goal

pub record-requires : goal.record-requires
record-requires g c =
    let room = add_room _ _ _ _ (going_ready c.loop-j.invariant c.requires.ready c.loop-j-test.true) in
    (room.fit, room.places)

pub loop-j-preserved : goal.loop-j-preserved
loop-j-preserved g c = going_on c.loop-j.invariant c.requires.ready c.loop-j-test.true (add_runs _ _ _ _ _ c.record.ensures)

pub returns : goal.returns
returns g c = gone c.loop-j.invariant c.loop-j-test.false
