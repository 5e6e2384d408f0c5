-- The field of 2 ^ n elements, for a width n left open: doubling and the product.
-- An element is a number below 2 ^ n, bit i the coefficient of y ^ i. Addition is `◌⊕◌` of the crate xor.
use Rattle.std.specs.Prelude.{cond, ◌⊎◌, ◌≡◌, ℕ, zero, suc, ◌+◌, ◌*◌, ◌/◌, ◌%◌, ◌^◌, ◌<◌, eqb}
use Rattle.xor.specs.Xor.{◌⊕◌}

-- the widths at which there is a field in the library
abbrev pub Width : ℕ → Type 0
Width n = (n ≡ 4) ⊎ ((n ≡ 6) ⊎ (n ≡ 8))

-- those of them that have a decomposition: the widths of `mul` and what is built on it in the code, where 8 would cost time
abbrev pub Narrow : ℕ → Type 0
Narrow n = (n ≡ 4) ⊎ (n ≡ 6)

-- what y ^ n is reduced to, by width: y + 1 at 4 and at 6, y ^ 4 + y ^ 3 + y + 1 at 8
unfoldable pub reduction : ℕ → ℕ
reduction n = cond (eqb n 4) 3 (cond (eqb n 6) 3 (cond (eqb n 8) 27 0))

-- the polynomial by which products are reduced: y ^ 4 + y + 1, y ^ 6 + y + 1, y ^ 8 + y ^ 4 + y ^ 3 + y + 1
unfoldable pub modulus : ℕ → ℕ
modulus n = 2 ^ n + reduction n

-- y times a: twice a without its bit n and, if that bit is set, what y ^ n is reduced to
unfoldable pub double : ℕ → ℕ → ℕ
double n a = 2 * a % 2 ^ n ⊕ 2 * a / 2 ^ n % 2 * reduction n

-- a times the k low bits of b: for each of these bits, lowest first, a is added if the bit is set, and then doubled, which is what d does
unfoldable pub double_and_add : (ℕ → ℕ) → ℕ → ℕ → ℕ → ℕ
double_and_add d zero a b = 0
double_and_add d (suc k) a b = b % 2 * a ⊕ double_and_add d k (d a) (b / 2)

-- the product of a and b at width n
unfoldable pub mul : ℕ → ℕ → ℕ → ℕ
mul n a b = double_and_add (double n) n a b

-- the product of two polynomials over the field of two elements, not reduced; b has k bits
unfoldable pub plain_mul : ℕ → ℕ → ℕ → ℕ
plain_mul k a b = double_and_add (λ x. 2 * x) k a b

-- what the laws of a commutative ring ask of a width: y is an element, and so is what y ^ n is reduced to
pub record Ring (n : ℕ) : Type 0 where
  pub wide : 1 < n
  pub reduces : reduction n < 2 ^ n
