-- `polynomial_share` meets its contract: a loop over the powers, with the two steps of a term in each turn.
use Rattle.steps.proofs.Loop.{going_ready, going_on, gone}
use Rattle.sbox.proofs.TableRuns.{term_runs, term_room}
use Rattle.sbox.proofs.polynomial_rows.polynomial_share.Goals as goal

pub record_all-requires : goal.record_all-requires
record_all-requires g c =
    let room = term_room _ _ _ _ _ _ (going_ready c.loop-r.invariant (rw c.constant-u.ensures c.requires.ready) (rw c.POWERS-r-end.ensures at c.loop-r-test.true)) in
    (room.fit, room.places)

pub loop-r-preserved : goal.loop-r-preserved
loop-r-preserved g c =
    going_on c.loop-r.invariant (rw c.constant-u.ensures c.requires.ready) (rw c.POWERS-r-end.ensures at c.loop-r-test.true)
    (term_runs _ _ _ _ _ _ _ _ c.multiply-v.ensures c.record_all.ensures)

pub returns : goal.returns
returns g c = rw (← c.constant-u.ensures) (gone c.loop-r.invariant (rw c.POWERS-r-end.ensures at c.loop-r-test.false))
