-- `substitution::sub_byte` meets its contract: the byte is taken, and what the S-box gives is put in its place.
use Rattle.aes.proofs.Runs.{byte_ready, byte_went}
use Rattle.aes.proofs.substitution.sub_byte.Goals as goal

pub sbox-y-requires : goal.sbox-y-requires
sbox-y-requires g c = byte_ready _ _ _ _ _ _ c.requires.ready c.take_byte-x.ensures

pub returns : goal.returns
returns g c = byte_went _ _ _ _ _ _ _ _ c.sbox-y.ensures c.take_byte-x.ensures c.put_shares.ensures
