-- `recording::record_nibble` meets its contract.
use Rattle.cipher.proofs.Runs.{note_went, note_room}
use Rattle.cipher.proofs.recording.record_nibble.Goals as goal

pub record-requires : goal.record-requires
record-requires g c = note_room _ _ c.requires.ready

pub returns : goal.returns
returns g c = note_went _ _ _ c.nibble-v.ensures c.record.ensures
