-- `key_expansion::new_word` meets its contract: the word is made, recorded, and put in its place.
use Rattle.steps.proofs.Parts.{ready_first, went_map}
use Rattle.rijndael.specs.Masked.{masked_new_word}
use Rattle.aes.proofs.key_expansion.new_word.Goals as goal

pub add_word-word-requires-clause-ready : goal.add_word-word-requires-clause-ready
unfolding masked_new_word
add_word-word-requires-clause-ready g c = ready_first _ _ c.requires.ready

pub returns : goal.returns
unfolding masked_new_word
returns g c = rw c.put_shares.ensures (went_map _ c.add_word-word.ensures)
