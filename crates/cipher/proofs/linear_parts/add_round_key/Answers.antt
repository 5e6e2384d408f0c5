-- `linear_parts::add_round_key` meets its contract.
use Rattle.present.specs.Masked.{masked_add_round_key}
use Rattle.cipher.proofs.Runs.{recorded_ready, recorded_went}
use Rattle.cipher.proofs.linear_parts.add_round_key.Goals as goal

pub record_shares-requires-clause-ready : goal.record_shares-requires-clause-ready
unfolding masked_add_round_key
record_shares-requires-clause-ready g c = recorded_ready 16 _ _ _ c.requires c.add_round_keys.ensures.block_after

pub returns-clause-went : goal.returns-clause-went
unfolding masked_add_round_key
returns-clause-went g c = recorded_went 16 _ _ _ c.record_shares.ensures c.add_round_keys.ensures.block_after
