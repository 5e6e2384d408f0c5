-- The affine map's linear part is additive, and gives bytes.
use mathlib.Core.Path.{◌≡◌, sym, ap, ap₂, ◌∙◌}
use Prim.Native.Nat.{ℕ, zero, suc, ◌+◌, ◌*◌, ◌/◌, ◌%◌, ◌^◌, ◌≤◌, ◌<◌}
use native.Mathlib.Omega.{arith}
use lib.Pow.{pow_pos, pow-lt}
use Rattle.xor.specs.Xor.{◌⊕◌}
use Rattle.xor.specs.Sum.{Additive}
use Rattle.xor.proofs.Xor.{⊕-zero, ⊕-lt, ⊕-exchange, ⊕-shr, ⊕-odd, xor}
use Rattle.field.proofs.Bilinear.{odd_lt, bit_lt, ⊕-bit}
use Rattle.rijndael.specs.Rijndael.{bit_of, linear_bit, sum_bits, linear_part}

bit_of_add : (i : ℕ) → Additive (λ v. bit_of v i)
unfolding bit_of
bit_of_add i a b = ap (λ (x : ℕ). x % 2) (⊕-shr a b (i % 8)) ∙ ⊕-odd (a / 2 ^ (i % 8)) (b / 2 ^ (i % 8))

bit_of_lt : (v i : ℕ) → bit_of v i < 2 ^ 1
unfolding bit_of
bit_of_lt v i = odd_lt (v / 2 ^ (i % 8))

linear_bit_lt : (v i : ℕ) → linear_bit v i < 2 ^ 1
unfolding linear_bit
linear_bit_lt v i = ⊕-lt 1 (⊕-lt 1 (⊕-lt 1 (⊕-lt 1 (bit_of_lt v i) (bit_of_lt v (i + 4))) (bit_of_lt v (i + 5))) (bit_of_lt v (i + 6))) (bit_of_lt v (i + 7))

linear_bit_add : (i : ℕ) → Additive (λ v. linear_bit v i)
unfolding linear_bit
linear_bit_add i a b =
    rw (bit_of_add i a b, bit_of_add (i + 4) a b, bit_of_add (i + 5) a b, bit_of_add (i + 6) a b, bit_of_add (i + 7) a b)
    (sums (bit_of a i) (bit_of b i) (bit_of a (i + 4)) (bit_of b (i + 4)) (bit_of a (i + 5)) (bit_of b (i + 5)) (bit_of a (i + 6)) (bit_of b (i + 6)) (bit_of a (i + 7)) (bit_of b (i + 7)))
  where
    sums : (a a' b b' c c' d d' e e' : ℕ)
        → (a ⊕ a') ⊕ (b ⊕ b') ⊕ (c ⊕ c') ⊕ (d ⊕ d') ⊕ (e ⊕ e') ≡ a ⊕ b ⊕ c ⊕ d ⊕ e ⊕ (a' ⊕ b' ⊕ c' ⊕ d' ⊕ e')
    sums a a' b b' c c' d d' e e' = simp xor

sum_bits_add : (f g h : ℕ → ℕ) → ((i : ℕ) → f i ≡ g i ⊕ h i) → ((i : ℕ) → g i < 2 ^ 1) → ((i : ℕ) → h i < 2 ^ 1) → (k : ℕ)
    → sum_bits f k ≡ sum_bits g k ⊕ sum_bits h k
unfolding sum_bits
sum_bits_add f g h e lg lh zero = sym (⊕-zero 0)
sum_bits_add f g h e lg lh (suc k) =
    ap₂ ◌⊕◌ (ap (λ (x : ℕ). x * 2 ^ k) (e k) ∙ ⊕-bit (g k) (h k) (2 ^ k) (lg k) (lh k)) (sum_bits_add f g h e lg lh k)
    ∙ ⊕-exchange (g k * 2 ^ k) (h k * 2 ^ k) (sum_bits g k) (sum_bits h k)

sum_bits_lt : (f : ℕ → ℕ) → ((i : ℕ) → f i < 2 ^ 1) → (k : ℕ) → k ≤ 8 → sum_bits f k < 2 ^ 8
unfolding sum_bits
sum_bits_lt f l zero h = pow_pos 8
sum_bits_lt f l (suc k) h = ⊕-lt 8 (bit_lt 8 (f k) (2 ^ k) (l k) (pow-lt {i = k} {j = 8} (omega arith))) (sum_bits_lt f l k (omega arith))

pub linear_part_add : Additive linear_part
unfolding linear_part
linear_part_add a b = sum_bits_add (linear_bit (a ⊕ b)) (linear_bit a) (linear_bit b) (λ i. linear_bit_add i a b) (linear_bit_lt a) (linear_bit_lt b) 8

pub linear_part_lt : (v : ℕ) → linear_part v < 2 ^ 8
unfolding linear_part
linear_part_lt v = sum_bits_lt (linear_bit v) (linear_bit_lt v) 8 (omega arith)
