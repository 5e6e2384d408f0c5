-- `RoundState::undo_round` meets its contract: the inverse permutation, the inverse S-box layer, the key update undone and the key addition.
use Rattle.steps.proofs.Parts.{went_then, went_map}
use Rattle.present.specs.Opening.{masked_undo_round, masked_unpermute}
use Rattle.cipher.proofs.Prepared.{prepared_first, prepared_next}
use Rattle.cipher.proofs.rounds.RoundState.undo_round.Goals as goal

pub linear_map-requires-clause-ready : goal.linear_map-requires-clause-ready
unfolding masked_undo_round masked_unpermute
linear_map-requires-clause-ready g c = (prepared_first _ _ c.requires).ready

pub substitute_block-requires : goal.substitute_block-requires
unfolding masked_undo_round masked_unpermute
substitute_block-requires g c = prepared_first _ _ (prepared_next _ c.requires c.linear_map.ensures.went)

pub undo_update-requires : goal.undo_update-requires
unfolding masked_undo_round masked_unpermute
undo_update-requires g c =
    let layer = prepared_next _ c.requires c.linear_map.ensures.went in
    prepared_first _ _ (prepared_next _ layer c.substitute_block.ensures.went)

pub add_round_key-requires : goal.add_round_key-requires
unfolding masked_undo_round masked_unpermute
add_round_key-requires g c =
    let layer = prepared_next _ c.requires c.linear_map.ensures.went in
    let update = prepared_next _ layer c.substitute_block.ensures.went in
    (prepared_first _ _ (prepared_next _ update c.undo_update.ensures.went)).ready

pub returns-clause-went : goal.returns-clause-went
unfolding masked_undo_round masked_unpermute
returns-clause-went g c =
    went_then _ c.linear_map.ensures.went
    (went_then _ c.substitute_block.ensures.went (went_then _ c.undo_update.ensures.went (went_map _ c.add_round_key.ensures.went)))
