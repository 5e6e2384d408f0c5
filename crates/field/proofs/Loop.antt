-- AFTER EACH BIT the sum of the product's loop is the first factor times the bits read so far: at every width, for
-- every number of bits. The loops of `Field::multiply` and `Field::multiply_public` start by `no_bits`, turn by `next_bit_higher` and `next_bit` and
-- end by `all_bits`.
use mathlib.Core.Logic.{◌⊎◌, inl, inr}
use mathlib.Core.Path.{◌≡◌, refl, sym, ap, ap₂, ◌∙◌}
use Prim.Native.Nat.{ℕ, ◌+◌, ◌*◌, ◌/◌, ◌%◌, ◌^◌, ◌<◌}
use native.Mathlib.Nat.{zero-mul, one-mul, zero-add, add_comm, mod-lt, mod-one, div-one, mul-one, le_refl}
use native.Mathlib.Nat as N
use native.Mathlib.Numerals.{add-one}
use native.Mathlib.Omega.{arith}
use lib.Pow.{pow_pos, mod-pow-add, shr-shr}
use Rattle.xor.specs.Xor.{◌⊕◌}
use Rattle.xor.proofs.Xor.{bit_cases, ⊕-zero, ⊕-comm, ⊕-half, top_bit}
use Rattle.field.specs.Mul.{double, mul}
use Rattle.field.specs.Loop.{doubled, AfterBits}
use Rattle.field.proofs.Bilinear.{odd_lt, mul_⊕, mul_zero, sum_so_far}
use Rattle.field.proofs.Ring.{doubled_double, mul_doubled}

next_low : (k b : ℕ) → b % 2 ^ (k + 1) ≡ b / 2 ^ k % 2 * 2 ^ k + b % 2 ^ k
next_low k b = ap (λ (e : ℕ). b % 2 ^ e) (add_comm k 1) ∙ mod-pow-add b 1 k

next_sum : (n k a b : ℕ) → k < n → mul n a (b % 2 ^ k) ⊕ doubled n k a * (b / 2 ^ k % 2) ≡ mul n a (b % 2 ^ (k + 1))
next_sum n k a b h = go (bit_cases (b / 2 ^ k % 2) (odd_lt (b / 2 ^ k)))
  where
    go : (b / 2 ^ k % 2 ≡ 0) ⊎ (b / 2 ^ k % 2 ≡ 1) → mul n a (b % 2 ^ k) ⊕ doubled n k a * (b / 2 ^ k % 2) ≡ mul n a (b % 2 ^ (k + 1))
    go (inl p) =
        ap (λ (d : ℕ). mul n a (b % 2 ^ k) ⊕ doubled n k a * d) p
        ∙ ap (λ (x : ℕ). mul n a (b % 2 ^ k) ⊕ x) (N.mul-zero (doubled n k a)) ∙ ⊕-zero (mul n a (b % 2 ^ k))
        ∙ ap (mul n a) (sym (next_low k b ∙ ap (λ (d : ℕ). d * 2 ^ k + b % 2 ^ k) p ∙ ap (λ (x : ℕ). x + b % 2 ^ k) (zero-mul (2 ^ k)) ∙ zero-add (b % 2 ^ k)))
    go (inr p) =
        ap (λ (d : ℕ). mul n a (b % 2 ^ k) ⊕ doubled n k a * d) p
        ∙ ap (λ (x : ℕ). mul n a (b % 2 ^ k) ⊕ x) (mul-one (doubled n k a) ∙ sym (mul_doubled n a k h))
        ∙ ⊕-comm (mul n a (b % 2 ^ k)) (mul n a (2 ^ k)) ∙ sym (mul_⊕ n a (2 ^ k) (b % 2 ^ k))
        ∙ ap (mul n a) (sym (next_low k b ∙ ap (λ (d : ℕ). d * 2 ^ k + b % 2 ^ k) p ∙ ap (λ (x : ℕ). x + b % 2 ^ k) (one-mul (2 ^ k)) ∙ top_bit k (b % 2 ^ k) (mod-lt b (pow_pos k))))

-- before the first bit
pub no_bits : (n a b : ℕ) → AfterBits n a b 0 0 a b
unfolding doubled
no_bits n a b =
    record { sum_so_far = sym (ap (mul n a) (mod-one b) ∙ mul_zero n a); next_term = refl; unread = sym (div-one b) }

-- a turn: a bit is read, the term is added if it is set, and doubled
pub next_bit : {n a b k sum term rest : ℕ} → k < n → AfterBits n a b k sum term rest
    → AfterBits n a b (k + 1) (sum ⊕ term * (rest % 2)) (double n term) (rest / 2)
unfolding doubled
next_bit {n} {a} {b} {k} h was =
    record {
      sum_so_far = ap₂ ◌⊕◌ was.sum_so_far (ap₂ (λ (x r : ℕ). x * (r % 2)) was.next_term was.unread) ∙ next_sum n k a b h;
      next_term = ap (double n) was.next_term ∙ sym (doubled_double n k a) ∙ ap (λ (e : ℕ). doubled n e a) (sym (add-one k));
      unread = ap (λ (r : ℕ). r / 2) was.unread ∙ shr-shr b k 1;
    }

-- the same where the sum and the bits that are left stand one place higher, as they do in the code: the bit read is a factor 0 or 2
pub next_bit_higher : {n a b k term : ℕ} (sum rest : ℕ) → k < n → AfterBits n a b k (sum / 2) term (rest / 2)
    → AfterBits n a b (k + 1) ((sum ⊕ term * (rest / 2 % 2 * 2)) / 2) (double n term) (rest / 2 / 2)
next_bit_higher {term = term} sum rest h was =
    rw (⊕-half sum (term * (rest / 2 % 2 * 2)), half term (rest / 2 % 2)) (next_bit h was)
  where
    half : (t d : ℕ) → t * (d * 2) / 2 ≡ t * d
    half t d = ap (λ (x : ℕ). x / 2) (sym (N.mul_assoc t d 2)) ∙ twice (t * d)
      where
        twice : (x : ℕ) → x * 2 / 2 ≡ x
        twice x = omega arith

-- when all bits are read the sum is the product
pub all_bits : {n a b sum term rest : ℕ} → AfterBits n a b n sum term rest → sum ≡ mul n a b
unfolding mul
all_bits {n} {a} {b} was = was.sum_so_far ∙ sym (sum_so_far n n a b (le_refl n))
