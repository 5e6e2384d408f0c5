-- `linear_parts::linear_map` meets its contract.
use Rattle.cipher.proofs.Runs.{recorded_ready, recorded_went}
use Rattle.cipher.proofs.linear_parts.linear_map.Goals as goal

pub record_shares-requires-clause-ready : goal.record_shares-requires-clause-ready
record_shares-requires-clause-ready g c = rw c.BYTES.ensures (recorded_ready _ _ _ _ c.requires.ready c.map_shares.ensures.l_after)

pub returns-clause-went : goal.returns-clause-went
returns-clause-went g c = recorded_went _ _ _ _ (rw c.BYTES.ensures at c.record_shares.ensures) c.map_shares.ensures.l_after
