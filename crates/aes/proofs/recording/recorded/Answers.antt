-- `recording::recorded` meets its contract: the machine is handed the places of the shares.
use native.Mathlib.Omega.{arith}
use Rattle.aes.proofs.Bounds.{few}
use Rattle.aes.proofs.Runs.{string_room, string_went}
use Rattle.aes.proofs.recording.recorded.Goals as goal

pub record_all-requires : goal.record_all-requires
record_all-requires g c = string_room _ _ _ (omega (arith, few g.row.N c.args.s.few, c.well_formed)) c.requires

pub returns : goal.returns
returns g c = string_went _ _ _ (omega (arith, few g.row.N c.args.s.few, c.well_formed)) c.record_all.ensures
