-- Powers, squares and inverses at a width n.
use Rattle.std.specs.Prelude.{◌≡◌, ℕ, zero, suc, ◌-◌, ◌^◌, ◌<◌}
use Rattle.field.specs.Mul.{mul, Ring}

-- a to the power k; the power 0 is 1, at element 0 too
unfoldable pub pow : ℕ → ℕ → ℕ → ℕ
pow n a zero = 1
pow n a (suc k) = mul n a (pow n a k)

-- the square of a
unfoldable pub square : ℕ → ℕ → ℕ
square n a = mul n a a

-- the inverse of an element but 0
unfoldable pub inverse : ℕ → ℕ → ℕ
inverse n a = pow n a (2 ^ n - 2)

-- what the laws of a field ask of a width besides
pub record Field (n : ℕ) : Type 0 where
  pub ring : Ring n
  pub inverts : (a : ℕ) → 0 < a → a < 2 ^ n → mul n a (inverse n a) ≡ 1
