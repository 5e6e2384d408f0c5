-- Inverses: the widths of the library are fields, each by one computed test; and what follows in every field.
use mathlib.Core.Logic.{inl, inr}
use mathlib.Core.Path.{◌≡◌, refl, sym, ap, ap₂, ◌∙◌, subst}
use Prim.Native.Nat.{ℕ, zero, suc, ◌+◌, ◌-◌, ◌*◌, ◌^◌, ◌<◌}
use native.Mathlib.Nat.{not-suc-le-zero}
use native.Mathlib.Omega.{arith}
use lib.Dec.{T, eqb}
use lib.Pow.{pow_pos}
use Rattle.xor.specs.Xor.{◌⊕◌}
use Rattle.field.specs.Mul.{Width, reduction, modulus, double, double_and_add, mul, Ring}
use Rattle.field.specs.Power.{pow, square, inverse, Field}
use Rattle.field.proofs.Bilinear.{mul_zero}
use Rattle.field.proofs.Ring.{ring_4, ring_6, ring_8, mul_comm, mul_one, one_lt, two_lt}
use Rattle.field.proofs.Power.{pow_suc, pow_add, pow_twice, pow_small, pow_one}
use Rattle.field.proofs.Tests.{all, same_below}

-- `unfolding products` opens all that a product needs to compute
unfoldable pub products : Unit {0}
unfolding reduction modulus double double_and_add mul ◌⊕◌ pow square
products = tt

-- ---- the inverse by squaring: a ^ 2 · a ^ 4 · a ^ 8 ..

-- t, r, and then k times: t squared, and r times that
unfoldable pub chain : ℕ → ℕ → ℕ → ℕ → ℕ
chain n zero t r = r
chain n (suc k) t r = let s = square n t in chain n k s (mul n r s)

module _ {n : ℕ} (ring : Ring n) (a : ℕ) (h : a < 2 ^ n) where
  pub chain_is : (k j : ℕ) → 0 < j → chain n k (pow n a (2 ^ j)) (pow n a (2 ^ suc j - 2)) ≡ pow n a (2 ^ suc (j + k) - 2)
  unfolding chain
  chain_is zero j p = let e : j ≡ j + 0 = omega arith in ap (λ (m : ℕ). pow n a (2 ^ suc m - 2)) e
  chain_is (suc k) j p =
      ap₂ (chain n k) next (ap (mul n (pow n a (2 ^ suc j - 2))) next ∙ sym (pow_add ring a (2 ^ suc j - 2) (2 ^ suc j) h) ∙ ap (pow n a) both)
      ∙ chain_is k (suc j) (omega arith)
      ∙ ap (λ (m : ℕ). pow n a (2 ^ suc m - 2)) more
    where
      twice : 2 ^ suc j ≡ 2 * 2 ^ j
      twice = omega arith

      next : square n (pow n a (2 ^ j)) ≡ pow n a (2 ^ suc j)
      next = sym (pow_twice ring a (2 ^ j) h) ∙ ap (pow n a) (sym twice)

      both : 2 ^ suc j - 2 + 2 ^ suc j ≡ 2 ^ suc (suc j) - 2
      both = omega (arith, pow_pos j)

      more : suc j + k ≡ j + suc k
      more = omega arith

  pub inverse_chain : inverse n a ≡ chain n (n - 2) (square n a) (square n a)
  unfolding inverse
  inverse_chain = sym (ap₂ (chain n (n - 2)) first first ∙ chain_is (n - 2) 1 (omega arith) ∙ ap (λ (m : ℕ). pow n a (2 ^ m - 2)) whole)
    where
      first : square n a ≡ pow n a 2
      first = ap (square n) (sym (pow_one ring a)) ∙ sym (pow_twice ring a 1 h)

      whole : suc (1 + (n - 2)) ≡ n
      whole = omega (arith, ring.wide)

-- a width is a field if the test passes at each element but 0, here by its predecessor
field_by : {n : ℕ} → Ring n → T (all (2 ^ n - 1) (λ i. eqb (mul n (suc i) (chain n (n - 2) (square n (suc i)) (square n (suc i)))) 1)) → Field n
field_by {n} ring t = record { ring = ring; inverts = inverts }
  where
    inverts : (a : ℕ) → 0 < a → a < 2 ^ n → mul n a (inverse n a) ≡ 1
    inverts zero p h = absurd (not-suc-le-zero p)
    inverts (suc i) p h =
        ap (mul n (suc i)) (inverse_chain ring (suc i) h)
        ∙ same_below (2 ^ n - 1) (λ i. mul n (suc i) (chain n (n - 2) (square n (suc i)) (square n (suc i)))) (λ i. 1) t i (omega arith)

pub field_4 : Field 4
unfolding products chain
field_4 = field_by ring_4 tt

pub field_6 : Field 6
unfolding products chain
field_6 = field_by ring_6 tt

pub field_8 : Field 8
unfolding products chain
field_8 = field_by ring_8 tt

pub field_of : (n : ℕ) → Width n → Field n
field_of n (inl e) = subst Field (sym e) field_4
field_of n (inr (inl e)) = subst Field (sym e) field_6
field_of n (inr (inr e)) = subst Field (sym e) field_8

-- at width 8 the inverse is the power 254
pub inverse_254 : (a : ℕ) → inverse 8 a ≡ pow 8 a 254
unfolding inverse
inverse_254 a = refl

-- ---- what follows in every field

module _ {n : ℕ} (field : Field n) where
  pub inverse_small : (a : ℕ) → a < 2 ^ n → inverse n a < 2 ^ n
  unfolding inverse
  inverse_small a h = pow_small field.ring a (2 ^ n - 2) h

  -- the powers of 0 but power 0 are 0
  power_of_zero : (k : ℕ) → 0 < k → pow n 0 k ≡ 0
  power_of_zero zero p = absurd (not-suc-le-zero p)
  power_of_zero (suc k) p =
      pow_suc n 0 k ∙ mul_comm n 0 (pow n 0 k) (pow_pos n) (pow_small field.ring 0 k (pow_pos n)) ∙ mul_zero n (pow n 0 k)

  -- so the inverse, as a power, is 0 at 0
  pub inverse_zero : inverse n 0 ≡ 0
  unfolding inverse
  inverse_zero = power_of_zero (2 ^ n - 2) (omega (arith, two_lt field.ring))

  -- x to the power 2 ^ n is x, at 0 too
  pub fermat : (x : ℕ) → x < 2 ^ n → pow n x (2 ^ n) ≡ x
  unfolding inverse
  fermat zero h = power_of_zero (2 ^ n) (pow_pos n)
  fermat (suc i) h =
      ap (pow n (suc i)) whole ∙ pow_suc n (suc i) (suc (2 ^ n - 2)) ∙ ap (mul n (suc i)) (pow_suc n (suc i) (2 ^ n - 2) ∙ inverts)
      ∙ mul_one field.ring (suc i)
    where
      whole : 2 ^ n ≡ suc (suc (2 ^ n - 2))
      whole = omega (arith, one_lt field.ring)

      inverts : mul n (suc i) (pow n (suc i) (2 ^ n - 2)) ≡ 1
      inverts = field.inverts (suc i) (omega arith) h

  -- so exponents wrap round at 2 ^ n - 1, but for the exponent 0
  pub pow_wrap : (x e : ℕ) → x < 2 ^ n → 0 < e → pow n x (e + (2 ^ n - 1)) ≡ pow n x e
  pow_wrap x zero h p = absurd (not-suc-le-zero p)
  pow_wrap x (suc e) h p =
      ap (pow n x) shift ∙ pow_add field.ring x (2 ^ n) e h ∙ ap (λ (y : ℕ). mul n y (pow n x e)) (fermat x h) ∙ sym (pow_suc n x e)
    where
      shift : suc e + (2 ^ n - 1) ≡ 2 ^ n + e
      shift = omega (arith, pow_pos n)
