-- `recording::record_nibbles` meets its contract: a loop over the nibbles.
use Rattle.steps.specs.Program.{◌>>◌}
use Rattle.steps.proofs.Loop.{going_ready, going_on, gone}
use Rattle.steps.proofs.Parts.{ready_first, went_map}
use Rattle.present.specs.Masked.{note_nibbles}
use Rattle.cipher.proofs.recording.record_nibbles.Goals as goal

pub record_nibble-requires-clause-ready : goal.record_nibble-requires-clause-ready
unfolding note_nibbles ◌>>◌
record_nibble-requires-clause-ready g c = ready_first _ _ (going_ready c.loop-k.invariant c.requires.ready c.loop-k-test.true)

pub loop-k-preserved : goal.loop-k-preserved
unfolding note_nibbles ◌>>◌
loop-k-preserved g c = going_on c.loop-k.invariant c.requires.ready c.loop-k-test.true (went_map (λ v. tt) c.record_nibble.ensures)

pub returns : goal.returns
unfolding note_nibbles
returns g c = gone c.loop-k.invariant c.loop-k-test.false
