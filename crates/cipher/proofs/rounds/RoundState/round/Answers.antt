-- `RoundState::round` meets its contract: the key addition, the S-box layer, the permutation and the key update.
use Rattle.steps.proofs.Parts.{went_then, went_map}
use Rattle.present.specs.Masked.{masked_round, masked_permute}
use Rattle.cipher.proofs.Prepared.{prepared_first, prepared_next}
use Rattle.cipher.proofs.rounds.RoundState.round.Goals as goal

pub add_round_key-requires : goal.add_round_key-requires
unfolding masked_round
add_round_key-requires g c = (prepared_first _ _ c.requires).ready

pub substitute_block-requires : goal.substitute_block-requires
unfolding masked_round
substitute_block-requires g c = prepared_first _ _ (prepared_next _ c.requires c.add_round_key.ensures.went)

pub linear_map-requires-clause-ready : goal.linear_map-requires-clause-ready
unfolding masked_round masked_permute
linear_map-requires-clause-ready g c =
    let layer = prepared_next _ c.requires c.add_round_key.ensures.went in
    (prepared_first _ _ (prepared_next _ layer c.substitute_block.ensures.went)).ready

pub update_key-requires : goal.update_key-requires
unfolding masked_round masked_permute
update_key-requires g c =
    let layer = prepared_next _ c.requires c.add_round_key.ensures.went in
    let permutation = prepared_next _ layer c.substitute_block.ensures.went in
    prepared_first _ _ (prepared_next _ permutation c.linear_map.ensures.went)

pub returns-clause-went : goal.returns-clause-went
unfolding masked_round masked_permute
returns-clause-went g c =
    went_then _ c.add_round_key.ensures.went
    (went_then _ c.substitute_block.ensures.went (went_then _ c.linear_map.ensures.went (went_map _ c.update_key.ensures.went)))
