-- `recording::record_nibbles` meets its contract: a loop over the nibbles.
use Rattle.steps.specs.Loop.{Going}
use Rattle.steps.specs.ShareBytes.{share_at}
use Rattle.cipher.proofs.Runs.{nibble_turn}
use Rattle.cipher.proofs.recording.record_nibbles.Given as goal

abbrev pub invariant-loop-k : goal.invariant-loop-k
invariant-loop-k g l = Going (nibble_turn l.i (share_at l.w l.l l.i)) l.start l.end tt (g.M.Machine.state l.initial.machine) l.k tt (g.M.Machine.state l.machine)
