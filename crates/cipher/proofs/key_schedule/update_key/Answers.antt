-- `key_schedule::update_key` meets its contract: the rotation, the S-box on the top nibble, and the round number.
use Rattle.steps.proofs.Parts.{went_then}
use Rattle.steps.proofs.Past.{kept_then}
use Rattle.present.specs.Masked.{masked_update, masked_rotate}
use Rattle.cipher.proofs.Prepared.{prepared_first, prepared_next}
use Rattle.cipher.proofs.Runs.{top_nibble_lem}
use Rattle.cipher.proofs.key_schedule.update_key.Goals as goal

pub linear_map-requires-clause-ready : goal.linear_map-requires-clause-ready
unfolding masked_update masked_rotate
linear_map-requires-clause-ready g c = (prepared_first _ _ c.requires).ready

pub substitute-requires-clause-prepared : goal.substitute-requires-clause-prepared
unfolding masked_update masked_rotate
substitute-requires-clause-prepared g c =
    rw (top_nibble_lem _ _) at (prepared_first _ _ (prepared_next _ c.requires c.linear_map.ensures.went))

pub round_number-requires : goal.round_number-requires
unfolding masked_update masked_rotate
round_number-requires g c =
    (prepared_next _ (prepared_next _ c.requires c.linear_map.ensures.went) (rw (← top_nibble_lem _ _) at c.substitute.ensures.went)).ready

pub returns : goal.returns
unfolding masked_update masked_rotate
returns g c = record {
  went = went_then _ c.linear_map.ensures.went (went_then _ (rw (← top_nibble_lem _ _) at c.substitute.ensures.went) c.round_number.ensures.went);
  kept_past = kept_then c.linear_map.ensures.kept_past (kept_then c.substitute.ensures.kept_past c.round_number.ensures.kept_past);
}
