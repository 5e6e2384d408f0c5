-- For proofs only: the reductions of the three widths, as numbers.
use Rattle.std.specs.Prelude.{◌≡◌, refl}
use Rattle.field.specs.Mul.{reduction}

pub reduction_4 : 3 ≡ reduction 4
unfolding reduction
reduction_4 = refl

pub reduction_6 : 3 ≡ reduction 6
unfolding reduction
reduction_6 = refl

pub reduction_8 : 27 ≡ reduction 8
unfolding reduction
reduction_8 = refl
