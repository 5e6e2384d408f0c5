-- The bits of numbers: their sums, and a number put together from bits.
use mathlib.Core.Logic.{◌⊎◌, inl, inr}
use mathlib.Core.Path.{◌≡◌, sym, ap, ap₂, ◌∙◌}
use Prim.Native.Nat.{ℕ, zero, suc, ◌+◌, ◌-◌, ◌*◌, ◌/◌, ◌%◌, ◌^◌, ◌<◌}
use native.Mathlib.Decide.{ℕ_discrete, dec_lt}
use native.Mathlib.Nat.{mod-lt, mod-eq_of_lt, zero-mod, zero-lt-suc, le_refl, div-lt_iff_lt-mul, div-eq_of_lt, lt_of_lt_of_le, zero-mul, one-mul, mul-mod_left}
use native.Mathlib.Omega.{arith}
use lib.Pow.{pow_pos, pow_mono, split, high, low, field, mod-mod-pow, shl_lt, shl-shr}
use Rattle.xor.specs.Xor.{◌⊕◌}
use Rattle.xor.proofs.Xor.{⊕-odd, ⊕-shr, bit_cases}
use Rattle.linear.specs.Bits.{bit, bits}
pub use Rattle.linear.specs.Laws.{bit_laws, bit_lt, bit_zero}
use Rattle.linear.specs.Row.{RowElements}
use Rattle.linear.proofs.Row.{small_shorter}

-- ---- the bits of a number

pub bit_sum : (i a b : ℕ) → bit i (a ⊕ b) ≡ bit i a ⊕ bit i b
unfolding bit
bit_sum i a b = ap (λ (x : ℕ). x % 2) (⊕-shr a b i) ∙ ⊕-odd (a / 2 ^ i) (b / 2 ^ i)

-- the top bit of a number below 2 ^ (k + 1)
bit_top : (k a : ℕ) → a < 2 ^ suc k → bit k a ≡ a / 2 ^ k
unfolding bit
bit_top k a h = mod-eq_of_lt ((div-lt_iff_lt-mul (pow_pos k)).1 (omega arith))

-- the low k bits of a number are its bits below k
pub bit_low : (k i a : ℕ) → i < k → bit i (a % 2 ^ k) ≡ bit i a
unfolding bit
bit_low k i a h =
    let j = k - 1 - i in
    let e : k ≡ (j + 1) + i = omega arith in
    ap (λ (x : ℕ). a % 2 ^ x / 2 ^ i % 2) e ∙ ap (λ (x : ℕ). x % 2) (field a (j + 1) i) ∙ mod-mod-pow (a / 2 ^ i) j 1

-- a bit d moved up by i is bit i, and the others are 0
pub bit_here : (i d : ℕ) → d < 2 → bit i (d * 2 ^ i) ≡ d
unfolding bit
bit_here i d h = ap (λ (x : ℕ). x % 2) (shl-shr d i) ∙ mod-eq_of_lt h

pub bit_elsewhere : (i j d : ℕ) → d < 2 → (j ≡ i → ⊥) → bit j (d * 2 ^ i) ≡ 0
bit_elsewhere i j d h n = elim (dec_lt j i) [
  | yes l ↦ sym (bit_low i j (d * 2 ^ i) l) ∙ ap (bit j) (mul-mod_left d (2 ^ i)) ∙ bit_zero j
  | no g ↦
      let small : d * 2 ^ i < 2 ^ j = lt_of_lt_of_le (shl_lt 1 i h) (pow_mono (omega arith)) in
      unfold bit in (ap (λ (x : ℕ). x % 2) (div-eq_of_lt small) ∙ zero-mod 2)
]

-- two numbers are equal by their bits
pub bits_equal : (n a b : ℕ) → a < 2 ^ n → b < 2 ^ n → ((i : ℕ) → i < n → bit i a ≡ bit i b) → a ≡ b
bits_equal zero a b ha hb h = omega arith
bits_equal (suc k) a b ha hb h =
    let low_part : a % 2 ^ k ≡ b % 2 ^ k =
    bits_equal k (a % 2 ^ k) (b % 2 ^ k) (mod-lt a (pow_pos k)) (mod-lt b (pow_pos k))
    (λ i l. bit_low k i a l ∙ h i (omega arith) ∙ sym (bit_low k i b l)) in
    let top : a / 2 ^ k ≡ b / 2 ^ k = sym (bit_top k a ha) ∙ h k (le_refl (suc k)) ∙ bit_top k b hb in
    sym (split a k) ∙ ap₂ (λ (x y : ℕ). x * 2 ^ k + y) top low_part ∙ split b k

-- ---- a number put together

-- the number whose bits below k are d 0, .. d (k - 1)
unfoldable pub together : ℕ → (ℕ → ℕ) → ℕ
together zero d = 0
together (suc k) d = d k * 2 ^ k + together k d

pub together_lt : (k : ℕ) (d : ℕ → ℕ) → RowElements bits k d → together k d < 2 ^ k
unfolding together
together_lt zero d s = zero-lt-suc 0
together_lt (suc k) d s = go (bit_cases (d k) (s.at k (le_refl (suc k)))) (together_lt k d (small_shorter (omega arith) s))
  where
    go : (d k ≡ 0) ⊎ (d k ≡ 1) → together k d < 2 ^ k → d k * 2 ^ k + together k d < 2 ^ suc k
    go (inl e) r = rw (e, zero-mul (2 ^ k)) (omega arith)
    go (inr e) r = rw (e, one-mul (2 ^ k)) (omega arith)

pub together_bit : (k : ℕ) (d : ℕ → ℕ) → RowElements bits k d → (i : ℕ) → i < k → bit i (together k d) ≡ d i
unfolding together
together_bit zero d s i l = absurd (omega arith)
together_bit (suc k) d s i l =
    let s' : RowElements bits k d = small_shorter (omega arith) s in
    let r = together_lt k d s' in
    elim (ℕ_discrete i k) [
      | yes e ↦ rw e
          (unfold bit in (ap (λ (x : ℕ). x % 2) (high (d k) k r) ∙ mod-eq_of_lt (s.at k (le_refl (suc k)))))
      | no n ↦
          sym (bit_low k i (d k * 2 ^ k + together k d) (omega arith)) ∙ ap (bit i) (low (d k) k r)
          ∙ together_bit k d s' i (omega arith)
    ]
