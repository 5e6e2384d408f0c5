-- `recording::record_shares` meets its contract: a loop over the shares.
use Rattle.steps.proofs.Loop.{going_ready, going_on, gone}
use Rattle.steps.proofs.View.{share_sharing}
use Rattle.present.specs.Masked.{note_shares}
use Rattle.cipher.proofs.recording.record_shares.Goals as goal

pub record_nibbles-requires-clause-ready : goal.record_nibbles-requires-clause-ready
unfolding note_shares
record_nibbles-requires-clause-ready g c =
    rw (share_sharing c.args.w c.args.s.count c.args.l.now c.loop-i.i c.args.s.few c.loop-i-test.true)
    at (going_ready c.loop-i.invariant c.requires.ready c.loop-i-test.true)

pub loop-i-preserved : goal.loop-i-preserved
unfolding note_shares
loop-i-preserved g c =
    going_on c.loop-i.invariant c.requires.ready c.loop-i-test.true
    (rw (← share_sharing c.args.w c.args.s.count c.args.l.now c.loop-i.i c.args.s.few c.loop-i-test.true) at c.record_nibbles.ensures)

pub returns : goal.returns
unfolding note_shares
returns g c = gone c.loop-i.invariant c.loop-i-test.false
