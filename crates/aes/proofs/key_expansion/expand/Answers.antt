-- `key_expansion::expand` meets its contract: the key is put in place, and the round keys are made.
use Rattle.rijndael.specs.Masked.{masked_key_expansion}
use Rattle.aes.proofs.key_expansion.expand.Goals as goal

pub next_keys-requires : goal.next_keys-requires
unfolding masked_key_expansion
next_keys-requires g c = rw c.put_shares.ensures c.requires

pub returns : goal.returns
unfolding masked_key_expansion
returns g c = rw c.put_shares.ensures at c.next_keys.ensures
