-- What the code's proofs need besides the laws: the width by a test, the bound of a term, and a turn of the inverse's loop.
use mathlib.Core.Logic.{inl, inr, ⊎_elim}
use mathlib.Core.Path.{◌≡◌, refl}
use Prim.Native.Nat.{ℕ, suc, ◌+◌, ◌-◌, ◌*◌, ◌/◌, ◌%◌, ◌^◌, ◌≤◌, ◌<◌}
use native.Mathlib.Nat.{lt_of_le_of_lt, lt_of_lt_of_le, mul-le-mul_left, le_trans, le_of_eq, mul-one}
use native.Mathlib.Omega.{arith}
use mir.Syntax.{w8}
use mir.Val.{Fits}
use Rattle.xor.specs.Xor.{◌⊕◌}
use Rattle.xor.proofs.Xor.{⊕-lt}
use Rattle.field.specs.Mul.{Width, Narrow, reduction, double, mul}
use Rattle.field.specs.Power.{square}
use Rattle.field.proofs.Bilinear.{double_lt}
use Rattle.field.proofs.Ring.{ring_4, ring_6, ring_8}
use Rattle.field.proofs.Inverses.{chain}

pub narrow_width : (n : ℕ) → Narrow n → Width n
narrow_width n w = ⊎_elim inl (λ e. inr (inl e)) w

-- a narrow width other than 4 is 6
pub narrow_6 : (n : ℕ) → Narrow n → (n ≡ 4 → ⊥) → n ≡ 6
narrow_6 n w h = ⊎_elim (λ e. absurd (h e)) (λ e. e) w

-- a width that is neither 8 nor 4 is 6
pub width_6 : (n : ℕ) → Width n → (n ≡ 8 → ⊥) → (n ≡ 4 → ⊥) → n ≡ 6
width_6 n w h k = ⊎_elim (λ e. absurd (k e)) (λ v. ⊎_elim (λ e. e) (λ e. absurd (h e)) v) w

pub width_le : (n : ℕ) → Width n → n ≤ 8
width_le n w = ⊎_elim (λ e. omega arith) (λ v. ⊎_elim (λ e. omega arith) (λ e. omega arith) v) w

-- ---- doubling

-- where t is half of 2 ^ n, bit n of twice a is bit n - 1 of a
pub double_by_top : (n t r a : ℕ) → Width n → 2 * t ≡ 2 ^ n → r ≡ reduction n → (a % t * 2) ⊕ (a / t % 2 * r) ≡ double n a
unfolding double
double_by_top n t r a w ht hr = rw (hr, low n t a w ht, top n t a w ht) refl
  where
    known : (n t a : ℕ) → Width n → 2 * t ≡ 2 ^ n → (P : ℕ → ℕ → Type 0) → P 4 8 → P 6 32 → P 8 128 → P n t
    known n t a w h P at4 at6 at8 =
        ⊎_elim
        (λ (e : n ≡ 4). let half : t ≡ 8 = omega (arith, rw e at h) in rw (e, half) at4)
        (λ v. ⊎_elim
        (λ (e : n ≡ 6). let half : t ≡ 32 = omega (arith, rw e at h) in rw (e, half) at6)
        (λ (e : n ≡ 8). let half : t ≡ 128 = omega (arith, rw e at h) in rw (e, half) at8)
        v)
        w

    low : (n t a : ℕ) → Width n → 2 * t ≡ 2 ^ n → 2 * a % 2 ^ n ≡ a % t * 2
    low n t a w h = known n t a w h (λ n t. 2 * a % 2 ^ n ≡ a % t * 2) (omega arith) (omega arith) (omega arith)

    top : (n t a : ℕ) → Width n → 2 * t ≡ 2 ^ n → 2 * a / 2 ^ n ≡ a / t
    top n t a w h = known n t a w h (λ n t. 2 * a / 2 ^ n ≡ a / t) (omega arith) (omega arith) (omega arith)

-- what doubling gives is a byte
pub double_byte : (n a : ℕ) → Width n → double n a < 2 ^ 8
double_byte n a w =
    ⊎_elim
    (λ (e : n ≡ 4). below n 4 e ring_4.reduces (omega arith))
    (λ v. ⊎_elim (λ (e : n ≡ 6). below n 6 e ring_6.reduces (omega arith)) (λ (e : n ≡ 8). below n 8 e ring_8.reduces (omega arith)) v)
    w
  where
    below : (n k : ℕ) → n ≡ k → reduction k < 2 ^ k → 2 ^ k ≤ 2 ^ 8 → double n a < 2 ^ 8
    below n k e h l = rw e (lt_of_lt_of_le (double_lt k h a) l)

-- ---- the product

-- a byte times a bit is a byte
pub bit_fits : (a b : ℕ) → a < 2 ^ 8 → Fits w8 (a * (b % 2))
bit_fits a b h = record { fits = lt_of_le_of_lt (le_trans (mul-le-mul_left a bit) (le_of_eq (mul-one a))) h }
  where
    bit : b % 2 ≤ 1
    bit = omega arith

-- a byte times a factor 0 or 2 has nine bits, and so has its sum with nine bits
pub term_lt : (a b : ℕ) → a < 2 ^ 8 → a * (b % 2 * 2) < 2 ^ 9
term_lt a b h = lt_of_le_of_lt (mul-le-mul_left a two) (doubled_lt a h)
  where
    two : b % 2 * 2 ≤ 2
    two = omega arith

    doubled_lt : (a : ℕ) → a < 2 ^ 8 → a * 2 < 2 ^ 9
    doubled_lt a h = omega arith

pub sum_lt : (sum a b : ℕ) → sum < 2 ^ 9 → a < 2 ^ 8 → sum ⊕ a * (b % 2 * 2) < 2 ^ 9
sum_lt sum a b h k = ⊕-lt 9 h (term_lt a b k)

-- ---- the inverse: what is left of the chain

pub next_chain : (n k t r s : ℕ) → k < n → s ≡ mul n t t → chain n (n - (k + 1)) s (mul n r s) ≡ chain n (n - k) t r
unfolding chain square
next_chain n k t r s h e =
    let left : n - k ≡ suc (n - (k + 1)) = omega arith in
    rw (left, e) refl
