-- `key_schedule::undo_update` meets its contract: the round number, the inverse S-box on the top nibble, and the rotation back.
use Rattle.steps.proofs.Parts.{went_then}
use Rattle.steps.proofs.Past.{kept_then}
use Rattle.present.specs.Opening.{masked_undo_update, masked_unrotate}
use Rattle.cipher.proofs.Prepared.{prepared_first, prepared_next}
use Rattle.cipher.proofs.Runs.{back_top_nibble}
use Rattle.cipher.proofs.key_schedule.undo_update.Goals as goal

pub round_number-requires : goal.round_number-requires
unfolding masked_undo_update masked_unrotate
round_number-requires g c = (prepared_first _ _ c.requires).ready

pub substitute-requires-clause-prepared : goal.substitute-requires-clause-prepared
unfolding masked_undo_update masked_unrotate
substitute-requires-clause-prepared g c =
    rw (back_top_nibble _ _) at (prepared_first _ _ (prepared_next _ c.requires c.round_number.ensures.went))

pub linear_map-requires-clause-ready : goal.linear_map-requires-clause-ready
unfolding masked_undo_update masked_unrotate
linear_map-requires-clause-ready g c =
    (prepared_next _ (prepared_next _ c.requires c.round_number.ensures.went) (rw (← back_top_nibble _ _) at c.substitute.ensures.went)).ready

pub returns : goal.returns
unfolding masked_undo_update masked_unrotate
returns g c = record {
  went = went_then _ c.round_number.ensures.went (went_then _ (rw (← back_top_nibble _ _) at c.substitute.ensures.went) c.linear_map.ensures.went);
  kept_past = kept_then c.round_number.ensures.kept_past (kept_then c.substitute.ensures.kept_past c.linear_map.ensures.kept_past);
}
