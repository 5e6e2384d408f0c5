-- `recording::record_shares` meets its contract: a loop over the shares.
use Prim.Native.Nat.{◌*◌}
use Rattle.steps.specs.Loop.{Going}
use Rattle.steps.specs.ShareBytes.{sharing}
use Rattle.cipher.proofs.Runs.{share_turn}
use Rattle.cipher.proofs.recording.record_shares.Given as goal

abbrev pub invariant-loop-i : goal.invariant-loop-i
invariant-loop-i g l = Going (share_turn (2 * l.w) (sharing l.w l.fn.s.count l.l)) 0 l.fn.s.count tt (g.M.Machine.state l.initial.machine) l.i tt (g.M.Machine.state l.machine)
