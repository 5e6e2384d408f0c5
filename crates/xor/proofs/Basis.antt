-- An additive function is settled by its values at the powers of two.
use mathlib.Core.Path.{◌≡◌, sym, ap, ap₂, ◌∙◌}
use mathlib.Core.Logic.{◌⊎◌, inl, inr}
use Prim.Native.Nat.{ℕ, zero, suc, ◌+◌, ◌*◌, ◌/◌, ◌%◌, ◌^◌, ◌≤◌, ◌<◌}
use native.Mathlib.Nat.{mod-lt, div-lt_iff_lt-mul, one-mul, zero-mul, zero-add, lt_of_lt_of_le}
use native.Mathlib.Omega.{arith}
use lib.Arith.{lt-one}
use lib.Pow.{pow_pos, pow_mono, pow-lt, split}
use Rattle.xor.specs.Xor.{◌⊕◌}
use Rattle.xor.specs.Sum.{AdditiveBelow}
use Rattle.xor.proofs.Xor.{bit_cases, top_bit}
use Rattle.xor.proofs.Sum.{additive_below_zero}

-- a number below 2 ^ (k + 1) by its bit k
pub without_bit : (k a : ℕ) → a / 2 ^ k ≡ 0 → a ≡ a % 2 ^ k
without_bit k a e = sym (split a k) ∙ ap (λ (x : ℕ). x * 2 ^ k + a % 2 ^ k) e ∙ ap (λ (x : ℕ). x + a % 2 ^ k) (zero-mul (2 ^ k)) ∙ zero-add (a % 2 ^ k)

pub with_bit : (k a : ℕ) → a / 2 ^ k ≡ 1 → a ≡ 2 ^ k ⊕ a % 2 ^ k
with_bit k a e =
    sym (split a k) ∙ ap (λ (x : ℕ). x * 2 ^ k + a % 2 ^ k) e ∙ ap (λ (x : ℕ). x + a % 2 ^ k) (one-mul (2 ^ k)) ∙ top_bit k (a % 2 ^ k) (mod-lt a (pow_pos k))

-- bit k of such a number is 0 or 1
pub bit_of_lem : (k a : ℕ) → a < 2 ^ suc k → (a / 2 ^ k ≡ 0) ⊎ (a / 2 ^ k ≡ 1)
bit_of_lem k a h = bit_cases (a / 2 ^ k) ((div-lt_iff_lt-mul (pow_pos k)).1 (omega arith))

-- agreement at 1, 2, 4 .. below 2 ^ k is agreement below 2 ^ k
agree_to : (n : ℕ) (f g : ℕ → ℕ) → AdditiveBelow n f → AdditiveBelow n g
    → (k : ℕ) → k ≤ n → ((i : ℕ) → i < k → f (2 ^ i) ≡ g (2 ^ i)) → (a : ℕ) → a < 2 ^ k → f a ≡ g a
agree_to n f g hf hg zero l e a h = rw (lt-one h) (additive_below_zero n f hf ∙ sym (additive_below_zero n g hg))
agree_to n f g hf hg (suc k) l e a h = go (bit_of_lem k a h) (agree_to n f g hf hg k (omega arith) (λ i m. e i (omega arith)) (a % 2 ^ k) (mod-lt a (pow_pos k)))
  where
    low : a % 2 ^ k < 2 ^ n
    low = lt_of_lt_of_le (mod-lt a (pow_pos k)) (pow_mono (omega arith))

    go : (a / 2 ^ k ≡ 0) ⊎ (a / 2 ^ k ≡ 1) → f (a % 2 ^ k) ≡ g (a % 2 ^ k) → f a ≡ g a
    go (inl p) ih = ap f (without_bit k a p) ∙ ih ∙ ap g (sym (without_bit k a p))
    go (inr p) ih =
        ap f (with_bit k a p) ∙ hf (2 ^ k) (a % 2 ^ k) (pow-lt l) low ∙ ap₂ (λ (x y : ℕ). x ⊕ y) (e k (omega arith)) ih
        ∙ sym (hg (2 ^ k) (a % 2 ^ k) (pow-lt l) low) ∙ ap g (sym (with_bit k a p))

-- additive functions that agree at the n powers of two below 2 ^ n agree below 2 ^ n
pub agree : (n : ℕ) (f g : ℕ → ℕ) → AdditiveBelow n f → AdditiveBelow n g
    → ((i : ℕ) → i < n → f (2 ^ i) ≡ g (2 ^ i)) → (a : ℕ) → a < 2 ^ n → f a ≡ g a
agree n f g hf hg e a h = agree_to n f g hf hg n (omega arith) e a h
