-- `key_expansion::next_key` meets its contract: RotWord, SubWord, Rcon and the four words.
use native.Mathlib.Omega.{arith}
use Rattle.steps.proofs.Parts.{ready_first, ready_next, went_then, went_map}
use Rattle.rijndael.specs.Masked.{masked_next_key as program}
use Rattle.aes.proofs.key_expansion.next_key.Goals as goal

pub rot_word-temp-requires : goal.rot_word-temp-requires
unfolding program
rot_word-temp-requires g c = ready_first _ _ c.requires

pub sub_bytes-requires : goal.sub_bytes-requires
unfolding program
sub_bytes-requires g c = (omega arith, ready_first _ _ (ready_next _ c.requires c.rot_word-temp.ensures))

pub add_rcon-requires : goal.add_rcon-requires
unfolding program
add_rcon-requires g c = ready_first _ _ (ready_next _ (ready_next _ c.requires c.rot_word-temp.ensures) c.sub_bytes.ensures)

pub new_words-requires : goal.new_words-requires
unfolding program
new_words-requires g c =
    ready_first _ _ (ready_next _ (ready_next _ (ready_next _ c.requires c.rot_word-temp.ensures) c.sub_bytes.ensures) c.add_rcon.ensures)

pub returns : goal.returns
unfolding program
returns g c =
    went_then _ c.rot_word-temp.ensures
    (went_then _ c.sub_bytes.ensures
    (went_then _ c.add_rcon.ensures
    (went_map _ c.new_words.ensures)))
