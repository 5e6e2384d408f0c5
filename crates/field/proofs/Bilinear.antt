-- Doubling and the product are additive, at every width; the product bit by bit.
use mathlib.Core.Path.{◌≡◌, refl, sym, ap, ap₂, ◌∙◌}
use mathlib.Core.Logic.{◌⊎◌, inl, inr}
use Prim.Native.Nat.{ℕ, zero, suc, ◌*◌, ◌/◌, ◌%◌, ◌^◌, ◌≤◌, ◌<◌}
use native.Mathlib.Nat.{mod-lt, zero-lt-suc, mod-one, one-mul, zero-mul, le_of_suc-le-suc}
use native.Mathlib.Numerals.{add-one}
use native.Mathlib.Omega.{arith}
use lib.Pow.{pow_pos, field, mod-mod-pow}
use Rattle.xor.specs.Xor.{◌⊕◌}
use Rattle.xor.specs.Sum.{Additive}
use Rattle.xor.proofs.Xor.{bit_cases, ⊕-zero, ⊕-self, ⊕-lt, ⊕-exchange, ⊕-shr, ⊕-mod, ⊕-half, ⊕-odd, ⊕-twice, xor}
use Rattle.xor.proofs.Sum.{additive_zero}
use Rattle.field.specs.Mul.{reduction, double, double_and_add, mul}

-- ---- a bit times a number

pub odd_lt : (a : ℕ) → a % 2 < 2
odd_lt a = mod-lt a (zero-lt-suc 1)

pub bit_lt : (n d a : ℕ) → d < 2 → a < 2 ^ n → d * a < 2 ^ n
bit_lt n d a hd h = go (bit_cases d hd)
  where
    go : (d ≡ 0) ⊎ (d ≡ 1) → d * a < 2 ^ n
    go (inl p) = rw (p, zero-mul a) (pow_pos n)
    go (inr p) = rw (p, one-mul a) h

bit_⊕ : (d a b : ℕ) → d < 2 → d * (a ⊕ b) ≡ d * a ⊕ d * b
bit_⊕ d a b hd = go (bit_cases d hd)
  where
    go : (d ≡ 0) ⊎ (d ≡ 1) → d * (a ⊕ b) ≡ d * a ⊕ d * b
    go (inl p) = rw (p, zero-mul (a ⊕ b), zero-mul a, zero-mul b) (sym (⊕-zero 0))
    go (inr p) = rw (p, one-mul (a ⊕ b), one-mul a, one-mul b) refl

pub ⊕-bit : (d e a : ℕ) → d < 2 → e < 2 → (d ⊕ e) * a ≡ d * a ⊕ e * a
unfolding ◌⊕◌
⊕-bit d e a hd he = go (bit_cases d hd) (bit_cases e he)
  where
    go : (d ≡ 0) ⊎ (d ≡ 1) → (e ≡ 0) ⊎ (e ≡ 1) → (d ⊕ e) * a ≡ d * a ⊕ e * a
    go (inl p) (inl q) = rw (p, q, zero-mul a) refl
    go (inl p) (inr q) = rw (p, q, zero-mul a) refl
    go (inr p) (inl q) = rw (p, q, zero-mul a) (sym (⊕-zero (1 * a)))
    go (inr p) (inr q) = rw (p, q, zero-mul a) (sym (⊕-self (1 * a)))

-- ---- doubling

pub double_add : (n : ℕ) → Additive (double n)
unfolding double
double_add n a b =
    ap₂ (λ (x y : ℕ). x ⊕ y * reduction n) kept out
    ∙ ap (λ (x : ℕ). (2 * a % 2 ^ n ⊕ 2 * b % 2 ^ n) ⊕ x) (⊕-bit (2 * a / 2 ^ n % 2) (2 * b / 2 ^ n % 2) (reduction n) (odd_lt (2 * a / 2 ^ n)) (odd_lt (2 * b / 2 ^ n)))
    ∙ ⊕-exchange (2 * a % 2 ^ n) (2 * b % 2 ^ n) (2 * a / 2 ^ n % 2 * reduction n) (2 * b / 2 ^ n % 2 * reduction n)
  where
    kept : 2 * (a ⊕ b) % 2 ^ n ≡ 2 * a % 2 ^ n ⊕ 2 * b % 2 ^ n
    kept = ap (λ (x : ℕ). x % 2 ^ n) (⊕-twice a b) ∙ ⊕-mod (2 * a) (2 * b) n

    out : 2 * (a ⊕ b) / 2 ^ n % 2 ≡ 2 * a / 2 ^ n % 2 ⊕ 2 * b / 2 ^ n % 2
    out =
        ap (λ (x : ℕ). x / 2 ^ n % 2) (⊕-twice a b) ∙ ap (λ (x : ℕ). x % 2) (⊕-shr (2 * a) (2 * b) n)
        ∙ ⊕-odd (2 * a / 2 ^ n) (2 * b / 2 ^ n)

-- what doubling gives is an element, whatever it is given
pub double_lt : (n : ℕ) → reduction n < 2 ^ n → (a : ℕ) → double n a < 2 ^ n
unfolding double
double_lt n h a = ⊕-lt n (mod-lt (2 * a) (pow_pos n)) (bit_lt n (2 * a / 2 ^ n % 2) (reduction n) (odd_lt (2 * a / 2 ^ n)) h)

-- ---- double and add

module _ (d : ℕ → ℕ) where
  -- a bound that doubling keeps, the product keeps
  pub double_and_add_lt : (n : ℕ) → ((a : ℕ) → a < 2 ^ n → d a < 2 ^ n) → (k a b : ℕ) → a < 2 ^ n → double_and_add d k a b < 2 ^ n
  unfolding double_and_add
  double_and_add_lt n hd zero a b h = pow_pos n
  double_and_add_lt n hd (suc k) a b h = ⊕-lt n (bit_lt n (b % 2) a (odd_lt b) h) (double_and_add_lt n hd k (d a) (b / 2) (hd a h))

  -- additive in the second factor
  pub double_and_add_right : (k a : ℕ) → Additive (double_and_add d k a)
  unfolding double_and_add
  double_and_add_right zero a b c = sym (⊕-zero 0)
  double_and_add_right (suc k) a b c =
      ap₂ (λ (x y : ℕ). x * a ⊕ double_and_add d k (d a) y) (⊕-odd b c) (⊕-half b c)
      ∙ ap₂ (λ (x y : ℕ). x ⊕ y) (⊕-bit (b % 2) (c % 2) a (odd_lt b) (odd_lt c)) (double_and_add_right k (d a) (b / 2) (c / 2))
      ∙ ⊕-exchange (b % 2 * a) (c % 2 * a) (double_and_add d k (d a) (b / 2)) (double_and_add d k (d a) (c / 2))

  pub double_and_add_zero : (k a : ℕ) → double_and_add d k a 0 ≡ 0
  double_and_add_zero k a = additive_zero (double_and_add d k a) (double_and_add_right k a)

  -- after k of m bits the sum is the first factor times the bits read so far
  pub double_and_add_so_far : (k m a b : ℕ) → k ≤ m → double_and_add d k a b ≡ double_and_add d m a (b % 2 ^ k)
  unfolding double_and_add
  double_and_add_so_far zero m a b l = sym (ap (double_and_add d m a) (mod-one b) ∙ double_and_add_zero m a)
  double_and_add_so_far (suc k) zero a b l = absurd (omega arith)
  double_and_add_so_far (suc k) (suc m) a b l =
      ap₂ (λ (x y : ℕ). x * a ⊕ y) (sym (mod-mod-pow b k 1))
      (double_and_add_so_far k m (d a) (b / 2) (le_of_suc-le-suc l) ∙ ap (double_and_add d m (d a)) (sym (field b k 1)))
      ∙ ap (λ (e : ℕ). b % 2 ^ e % 2 * a ⊕ double_and_add d m (d a) (b % 2 ^ e / 2)) (add-one k)

module _ (d : ℕ → ℕ) (hd : Additive d) where
  -- additive in the first factor
  pub double_and_add_left : (k b : ℕ) → Additive (λ a. double_and_add d k a b)
  unfolding double_and_add
  double_and_add_left zero b a c = sym (⊕-zero 0)
  double_and_add_left (suc k) b a c =
      ap₂ (λ (x y : ℕ). x ⊕ y) (bit_⊕ (b % 2) a c (odd_lt b)) (ap (λ (x : ℕ). double_and_add d k x (b / 2)) (hd a c) ∙ double_and_add_left k (b / 2) (d a) (d c))
      ∙ ⊕-exchange (b % 2 * a) (b % 2 * c) (double_and_add d k (d a) (b / 2)) (double_and_add d k (d c) (b / 2))

  bit_double : (e a : ℕ) → e < 2 → e * d a ≡ d (e * a)
  bit_double e a he = go (bit_cases e he)
    where
      go : (e ≡ 0) ⊎ (e ≡ 1) → e * d a ≡ d (e * a)
      go (inl p) = rw (p, zero-mul (d a), zero-mul a) (sym (additive_zero d hd))
      go (inr p) = rw (p, one-mul (d a), one-mul a) refl

  -- the first factor doubled doubles the product
  pub double_and_add_double : (k a b : ℕ) → double_and_add d k (d a) b ≡ d (double_and_add d k a b)
  unfolding double_and_add
  double_and_add_double zero a b = sym (additive_zero d hd)
  double_and_add_double (suc k) a b =
      ap₂ (λ (x y : ℕ). x ⊕ y) (bit_double (b % 2) a (odd_lt b)) (double_and_add_double k (d a) (b / 2))
      ∙ sym (hd (b % 2 * a) (double_and_add d k (d a) (b / 2)))

-- ---- the product

-- it is an element if the first factor is
pub mul_lt : (n : ℕ) → reduction n < 2 ^ n → {a : ℕ} (b : ℕ) → a < 2 ^ n → mul n a b < 2 ^ n
unfolding mul
mul_lt n h {a} b ha = double_and_add_lt (double n) n (λ x hx. double_lt n h x) n a b ha

pub mul_⊕ : (n a b c : ℕ) → mul n a (b ⊕ c) ≡ mul n a b ⊕ mul n a c
unfolding mul
mul_⊕ n a b c = double_and_add_right (double n) n a b c

pub ⊕-mul : (n a b c : ℕ) → mul n (a ⊕ b) c ≡ mul n a c ⊕ mul n b c
unfolding mul
⊕-mul n a b c = double_and_add_left (double n) (double_add n) n c a b

pub mul_zero : (n a : ℕ) → mul n a 0 ≡ 0
mul_zero n a = additive_zero (mul n a) (mul_⊕ n a)

pub mul_zero_left : (n b : ℕ) → mul n 0 b ≡ 0
mul_zero_left n b = additive_zero (λ a. mul n a b) (λ a c. ⊕-mul n a c b)

-- by `simp distribute` products of sums are multiplied out, and sums of products come to one form
pub ruleset distribute = (mul_⊕, ⊕-mul, mul_zero, mul_zero_left, xor)

-- AFTER EACH BIT: when k bits of b are read, lowest first, the sum is a times the bits read so far
pub sum_so_far : (n k a b : ℕ) → k ≤ n → double_and_add (double n) k a b ≡ mul n a (b % 2 ^ k)
unfolding mul
sum_so_far n k a b h = double_and_add_so_far (double n) k n a b h
