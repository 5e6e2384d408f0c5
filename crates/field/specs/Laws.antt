-- The laws that make the elements of a width the field of the polynomials over two elements modulo the width's modulus.
use Rattle.std.specs.Prelude.{◌≡◌, ℕ, ◌^◌, ◌<◌}
use Rattle.xor.specs.Xor.{◌⊕◌}
use Rattle.field.specs.Mul.{reduction, modulus, mul, plain_mul}
use Rattle.field.specs.Power.{pow, square, inverse}

-- the laws at width n
pub record Laws (n : ℕ) : Type 0 where
  -- sums and products of elements are elements
  pub add_closed : (a b : ℕ) → a < 2 ^ n → b < 2 ^ n → a ⊕ b < 2 ^ n
  pub mul_closed : (a b : ℕ) → a < 2 ^ n → b < 2 ^ n → mul n a b < 2 ^ n
  -- a commutative ring, in which each element is its own opposite
  pub add_associates : (a b c : ℕ) → (a ⊕ b) ⊕ c ≡ a ⊕ (b ⊕ c)
  pub add_commutes : (a b : ℕ) → a ⊕ b ≡ b ⊕ a
  pub add_zero : (a : ℕ) → a ⊕ 0 ≡ a
  pub add_self : (a : ℕ) → a ⊕ a ≡ 0
  pub mul_associates : (a b c : ℕ) → a < 2 ^ n → b < 2 ^ n → c < 2 ^ n → mul n (mul n a b) c ≡ mul n a (mul n b c)
  pub mul_commutes : (a b : ℕ) → a < 2 ^ n → b < 2 ^ n → mul n a b ≡ mul n b a
  pub mul_one : (a : ℕ) → a < 2 ^ n → mul n 1 a ≡ a
  pub distributes_left : (a b c : ℕ) → mul n a (b ⊕ c) ≡ mul n a b ⊕ mul n a c
  pub distributes_right : (a b c : ℕ) → mul n (a ⊕ b) c ≡ mul n a c ⊕ mul n b c
  -- a field
  pub inverse_closed : (a : ℕ) → a < 2 ^ n → inverse n a < 2 ^ n
  pub inverts : (a : ℕ) → 0 < a → a < 2 ^ n → mul n a (inverse n a) ≡ 1
  pub inverse_zero : inverse n 0 ≡ 0
  -- element 2 is y: element 2 ^ i is y ^ i below the width, and y ^ n is reduced
  pub powers_of_y : (i : ℕ) → i < n → pow n 2 i ≡ 2 ^ i
  pub reduced : pow n 2 n ≡ reduction n
  -- the product is the remainder of the product of polynomials by the modulus: it differs from it by a multiple, and no other element does
  pub remainder : (a b : ℕ) → a < 2 ^ n → (q : ℕ) × (plain_mul n a b ≡ mul n a b ⊕ plain_mul n (modulus n) q)
  pub remainder_unique : (a b r q : ℕ) → a < 2 ^ n → r < 2 ^ n → plain_mul n a b ≡ r ⊕ plain_mul n (modulus n) q → r ≡ mul n a b
  -- squaring is additive
  pub square_additive : (a b : ℕ) → a < 2 ^ n → b < 2 ^ n → square n (a ⊕ b) ≡ square n a ⊕ square n b
