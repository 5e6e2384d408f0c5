-- `layers::rot_word` meets its contract: it is made place by place, and recorded.
use mathlib.Core.List.{[]}
use native.Mathlib.Omega.{arith}
use Rattle.rijndael.specs.Strings.{place_of, make_shares}
use Rattle.rijndael.specs.Rijndael.{rot_byte}
use Rattle.rijndael.specs.Masked.{masked_rot_word}
use Rattle.aes.proofs.layers.rot_word.Goals as goal

pub recorded-requires : goal.recorded-requires
unfolding masked_rot_word make_shares
recorded-requires g c = (omega arith, rw (c.make_shares.ensures (place_of 176 0 4 (rot_byte c.args.r.number) c.args.w.now []) (λ p v h r. r)) c.requires)

pub returns : goal.returns
unfolding masked_rot_word make_shares
returns g c = rw (c.make_shares.ensures (place_of 176 0 4 (rot_byte c.args.r.number) c.args.w.now []) (λ p v h r. r)) at c.recorded.ensures
