-- `layers::shift_rows` meets its contract: it is made place by place, and recorded.
use mathlib.Core.List.{[]}
use native.Mathlib.Omega.{arith}
use Rattle.rijndael.specs.Strings.{place_of, make_shares}
use Rattle.rijndael.specs.Rijndael.{shift_byte}
use Rattle.rijndael.specs.Masked.{masked_shift_rows}
use Rattle.aes.proofs.layers.shift_rows.Goals as goal

pub recorded-requires : goal.recorded-requires
unfolding masked_shift_rows make_shares
recorded-requires g c = (omega arith, rw (c.make_shares.ensures (place_of 16 0 16 shift_byte c.args.a.now []) (λ p v h r. r)) c.requires)

pub returns : goal.returns
unfolding masked_shift_rows make_shares
returns g c = rw (c.make_shares.ensures (place_of 16 0 16 shift_byte c.args.a.now []) (λ p v h r. r)) at c.recorded.ensures
