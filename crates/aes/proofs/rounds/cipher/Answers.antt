-- `rounds::cipher` meets its contract: AddRoundKey, rounds 1 to 9, and round 10.
use Rattle.steps.proofs.Parts.{ready_first, ready_next, went_then}
use Rattle.rijndael.specs.Masked.{masked_cipher as program}
use Rattle.aes.proofs.rounds.cipher.Goals as goal

pub add_round_key-state-requires-clause-ready : goal.add_round_key-state-requires-clause-ready
unfolding program
add_round_key-state-requires-clause-ready g c = ready_first _ _ c.requires

pub rounds-requires : goal.rounds-requires
unfolding program
rounds-requires g c = ready_first _ _ (ready_next _ c.requires c.add_round_key-state.ensures)

pub last_round-requires : goal.last_round-requires
unfolding program
last_round-requires g c = ready_next _ (ready_next _ c.requires c.add_round_key-state.ensures) c.rounds.ensures

pub returns : goal.returns
unfolding program
returns g c = went_then _ c.add_round_key-state.ensures (went_then _ c.rounds.ensures c.last_round.ensures)
