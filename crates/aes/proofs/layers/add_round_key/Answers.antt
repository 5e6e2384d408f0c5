-- `layers::add_round_key` meets its contract: it is made place by place, and recorded.
use native.Mathlib.Omega.{arith}
use Rattle.rijndael.specs.Strings.{place_of, make_shares}
use Rattle.rijndael.specs.Rijndael.{key_byte}
use Rattle.rijndael.specs.Masked.{masked_add_round_key}
use Rattle.aes.proofs.layers.add_round_key.Goals as goal

pub recorded-requires : goal.recorded-requires
unfolding masked_add_round_key make_shares
recorded-requires g c = (omega arith, rw (c.make_shares.ensures (place_of 16 176 16 (key_byte c.args.r) c.args.a.now c.args.w.now) (λ p v h r. r)) c.requires.ready)

pub returns : goal.returns
unfolding masked_add_round_key make_shares
returns g c = rw (c.make_shares.ensures (place_of 16 176 16 (key_byte c.args.r) c.args.a.now c.args.w.now) (λ p v h r. r)) at c.recorded.ensures
