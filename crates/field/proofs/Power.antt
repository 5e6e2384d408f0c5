-- Powers and squares, at every width.
use mathlib.Core.Path.{◌≡◌, refl, sym, ap, ◌∙◌}
use Prim.Native.Nat.{ℕ, zero, suc, ◌+◌, ◌*◌, ◌^◌, ◌<◌}
use native.Mathlib.Nat.{zero-add, suc-add, add-zero, add-suc, mul-suc, add_comm}
use native.Mathlib.Nat as N
use native.Mathlib.Omega.{arith}
use Rattle.std.specs.List.{fold, range_with_len}
use Rattle.xor.specs.Xor.{◌⊕◌}
use Rattle.xor.specs.Sum.{AdditiveBelow}
use Rattle.xor.proofs.Xor.{xor}
use Rattle.field.specs.Mul.{reduction, double, mul, Ring}
use Rattle.field.specs.Power.{pow, square}
use Rattle.field.proofs.Bilinear.{mul_⊕, ⊕-mul}
use Rattle.field.proofs.Ring.{mul_comm, mul_assoc, mul_left_comm, mul_one, mul_one_left, one_lt, two_lt, mul_small, mul_y, double_next, double_last}

pub pow_zero : (n a : ℕ) → pow n a 0 ≡ 1
unfolding pow
pow_zero n a = refl

pub pow_suc : (n a k : ℕ) → pow n a (suc k) ≡ mul n a (pow n a k)
unfolding pow
pow_suc n a k = refl

-- e products make a power of it
powers_more : (n a j i e : ℕ) → fold (λ p _. mul n a p) (pow n a j) (range_with_len i e) ≡ pow n a (j + e)
powers_more n a j i zero = ap (pow n a) (sym (add-zero j))
powers_more n a j i (suc e) =
    ap (λ (p : ℕ). fold (λ p _. mul n a p) p (range_with_len (i + 1) e)) (sym (pow_suc n a j)) ∙ powers_more n a (suc j) (i + 1) e
    ∙ ap (pow n a) (suc-add j e ∙ sym (add-suc j e))

pub fold_pow : (n a e : ℕ) → fold (λ p _. mul n a p) 1 (range_with_len 0 e) ≡ pow n a e
fold_pow n a e = ap (λ (p : ℕ). fold (λ p _. mul n a p) p (range_with_len 0 e)) (sym (pow_zero n a)) ∙ powers_more n a 0 0 e ∙ ap (pow n a) (zero-add e)

module _ {n : ℕ} (ring : Ring n) where
  pub pow_one : (a : ℕ) → pow n a 1 ≡ a
  unfolding pow
  pow_one a = mul_one ring a

  pub pow_small : (a k : ℕ) → a < 2 ^ n → pow n a k < 2 ^ n
  unfolding pow
  pow_small a zero h = one_lt ring
  pow_small a (suc k) h = mul_small ring a (pow n a k) h

  pub square_small : (a : ℕ) → a < 2 ^ n → square n a < 2 ^ n
  unfolding square
  square_small a h = mul_small ring a a h

  -- exponents add, and multiply
  pub pow_add : (a j k : ℕ) → a < 2 ^ n → pow n a (j + k) ≡ mul n (pow n a j) (pow n a k)
  unfolding pow
  pow_add a zero k h = ap (pow n a) (zero-add k) ∙ sym (mul_one_left ring (pow n a k) (pow_small a k h))
  pow_add a (suc j) k h =
      ap (pow n a) (suc-add j k) ∙ ap (mul n a) (pow_add a j k h)
      ∙ sym (mul_assoc ring a (pow n a j) (pow n a k) h (pow_small a j h) (pow_small a k h))

  pub pow_mul : (a j k : ℕ) → a < 2 ^ n → pow n a (j * k) ≡ pow n (pow n a j) k
  unfolding pow
  pow_mul a j zero h = ap (pow n a) (N.mul-zero j)
  pow_mul a j (suc k) h =
      ap (pow n a) (mul-suc j k ∙ add_comm (j * k) j) ∙ pow_add a j (j * k) h ∙ ap (mul n (pow n a j)) (pow_mul a j k h)

  -- an even power is a square
  pub pow_twice : (a e : ℕ) → a < 2 ^ n → pow n a (2 * e) ≡ square n (pow n a e)
  unfolding square
  pow_twice a e h =
      let two : 2 * e ≡ e + e = omega arith in
      ap (pow n a) two ∙ pow_add a e e h

  -- the power of a product
  pub mul_pow : (a b k : ℕ) → a < 2 ^ n → b < 2 ^ n → pow n (mul n a b) k ≡ mul n (pow n a k) (pow n b k)
  unfolding pow
  mul_pow a b zero ha hb = sym (mul_one ring 1)
  mul_pow a b (suc k) ha hb =
      ap (mul n (mul n a b)) (mul_pow a b k ha hb)
      ∙ mul_assoc ring a b (mul n (pow n a k) (pow n b k)) ha hb (mul_small ring (pow n a k) (pow n b k) (pow_small a k ha))
      ∙ ap (mul n a) (mul_left_comm ring b (pow n a k) (pow n b k) hb (pow_small a k ha) (pow_small b k hb))
      ∙ sym (mul_assoc ring a (pow n a k) (mul n b (pow n b k)) ha (pow_small a k ha) (mul_small ring b (pow n b k) hb))

  -- squaring is additive
  pub square_add : AdditiveBelow n (square n)
  unfolding square
  square_add a b ha hb =
      simp (mul_⊕, ⊕-mul) (ap (λ (x : ℕ). (mul n a a ⊕ x) ⊕ (mul n a b ⊕ mul n b b)) (mul_comm n b a hb ha) ∙ simp xor)

  -- ---- powers of y, which is element 2

  next_power : (i : ℕ) → pow n 2 (suc i) ≡ double n (pow n 2 i)
  next_power i = pow_suc n 2 i ∙ mul_comm n 2 (pow n 2 i) (two_lt ring) (pow_small 2 i (two_lt ring)) ∙ mul_y ring (pow n 2 i)

  -- element 2 ^ i is y ^ i
  pub powers_of_y : (i : ℕ) → i < n → pow n 2 i ≡ 2 ^ i
  powers_of_y zero h = pow_zero n 2
  powers_of_y (suc i) h = next_power i ∙ ap (double n) (powers_of_y i (omega arith)) ∙ double_next n i h

-- y ^ n is reduced
pub reduced : (n : ℕ) → Ring n → pow n 2 n ≡ reduction n
reduced zero ring = absurd (omega (arith, ring.wide))
reduced (suc m) ring = next_power ring m ∙ ap (double (suc m)) (powers_of_y ring m (omega arith)) ∙ double_last m
