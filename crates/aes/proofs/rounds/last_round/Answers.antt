-- `rounds::last_round` meets its contract: SubBytes, ShiftRows and AddRoundKey.
use native.Mathlib.Omega.{arith}
use Rattle.steps.proofs.Parts.{ready_first, ready_next, went_then}
use Rattle.rijndael.specs.Masked.{masked_last_round as program}
use Rattle.aes.proofs.rounds.last_round.Goals as goal

pub sub_bytes-requires : goal.sub_bytes-requires
unfolding program
sub_bytes-requires g c = (omega arith, ready_first _ _ c.requires)

pub shift_rows-shifted-requires : goal.shift_rows-shifted-requires
unfolding program
shift_rows-shifted-requires g c = ready_first _ _ (ready_next _ c.requires c.sub_bytes.ensures)

pub add_round_key-requires-clause-ready : goal.add_round_key-requires-clause-ready
unfolding program
add_round_key-requires-clause-ready g c = ready_next _ (ready_next _ c.requires c.sub_bytes.ensures) c.shift_rows-shifted.ensures

pub returns : goal.returns
unfolding program
returns g c = went_then _ c.sub_bytes.ensures (went_then _ c.shift_rows-shifted.ensures c.add_round_key.ensures)
