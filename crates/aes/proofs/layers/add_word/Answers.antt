-- `layers::add_word` meets its contract: it is made place by place, and recorded.
use native.Mathlib.Omega.{arith}
use Rattle.rijndael.specs.Strings.{place_of, make_shares}
use Rattle.rijndael.specs.Rijndael.{word_byte}
use Rattle.aes.proofs.layers.add_word.Goals as goal

pub recorded-requires : goal.recorded-requires
unfolding make_shares
recorded-requires g c = (omega arith, rw (c.make_shares.ensures (place_of 176 4 4 (word_byte c.args.i) c.args.w.now c.args.temp.now) (λ p v h r. r)) c.requires.ready)

pub returns : goal.returns
unfolding make_shares
returns g c = rw (c.make_shares.ensures (place_of 176 4 4 (word_byte c.args.i) c.args.w.now c.args.temp.now) (λ p v h r. r)) at c.recorded.ensures
