-- FIPS 197's examples of products at width 8 (4.2, 4.2.1), by computation. The standard's x is the library's y.
use mathlib.Core.Path.{◌≡◌, refl}
use mathlib.Core.List.{[], ◌∷◌, map}
use Prim.Native.Nat.{◌%◌, ◌^◌}
use Rattle.field.specs.Mul.{mul, plain_mul}
use Rattle.field.specs.Loop.{doubled}
use Rattle.field.proofs.Inverses.{products}

-- 4.2: {57} times {83} as polynomials, and reduced
pub plain_example : plain_mul 8 0x57 0x83 ≡ 0x2b79
unfolding products plain_mul
plain_example = refl

pub product_example : mul 8 0x57 0x83 ≡ 0xc1
unfolding products
product_example = refl

-- 4.2.1: {57} times {02}, {04}, {08} and {10}, each the xtime of the one before
pub doubled_example : map (λ k. doubled 8 k 0x57) (1 ∷ 2 ∷ 3 ∷ 4 ∷ []) ≡ 0xae ∷ 0x47 ∷ 0x8e ∷ 0x07 ∷ []
unfolding products doubled
doubled_example = refl

-- 4.2.1: {57} times {13}, the sum of {57}, {ae} and {07}; here after 0 to 8 bits of {13}, the last of them set being bit 4
pub sums_example : map (λ k. mul 8 0x57 (0x13 % 2 ^ k)) (0 ∷ 1 ∷ 2 ∷ 3 ∷ 4 ∷ 5 ∷ 6 ∷ 7 ∷ 8 ∷ [])
    ≡ 0 ∷ 0x57 ∷ 0xf9 ∷ 0xf9 ∷ 0xf9 ∷ 0xfe ∷ 0xfe ∷ 0xfe ∷ 0xfe ∷ []
unfolding products
sums_example = refl
