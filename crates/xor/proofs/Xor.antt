-- The laws of addition.
use mathlib.Core.Path.{◌≡◌, refl, sym, ap, ap₂, ◌∙◌}
use mathlib.Core.Logic.{◌⊎◌, inl, inr}
use Prim.Native.Nat.{ℕ, zero, suc, ◌+◌, ◌*◌, ◌/◌, ◌%◌, ◌^◌, ◌<◌}
use native.Mathlib.Nat.{one-mul, zero-lt-suc}
use native.Mathlib.Omega.{arith}
use lib.Arith.{bin_ind}
use lib.Bits.{bit_xor, differ, xor_step, xor_zero_r, xor_self, xor_comm, xor_lt, xor_shr, xor_mod, xor_block, xor_shifted}
use Rattle.xor.specs.Xor.{◌⊕◌}

-- a sum is what the code's `a ^ b` gives
pub ⊕-is : (a b : ℕ) → bit_xor a b ≡ a ⊕ b
unfolding ◌⊕◌
⊕-is a b = refl

-- ---- bit by bit

-- a bit is 0 or 1
pub bit_cases : (d : ℕ) → d < 2 → (d ≡ 0) ⊎ (d ≡ 1)
bit_cases zero h = inl refl
bit_cases (suc d) h = inr (omega arith)

differ_lt : (x y : ℕ) → x < 2 → y < 2 → differ x y < 2
differ_lt zero y hx hy = hy
differ_lt (suc x) zero hx hy = hx
differ_lt (suc x) (suc y) hx hy = differ_lt x y (omega arith) (omega arith)

differ_assoc : (x y z : ℕ) → x < 2 → y < 2 → z < 2 → differ (differ x y) z ≡ differ x (differ y z)
differ_assoc zero y z hx hy hz = refl
differ_assoc (suc x) zero z hx hy hz = refl
differ_assoc (suc x) (suc y) zero hx hy hz = rw differ_zero
  where
    differ_zero : (x : ℕ) → differ x zero ≡ x
    differ_zero zero = refl
    differ_zero (suc x) = refl
differ_assoc (suc x) (suc y) (suc z) hx hy hz =
    let ex : x ≡ 0 = omega arith in
    let ey : y ≡ 0 = omega arith in
    let ez : z ≡ 0 = omega arith in
    rw (ex, ey, ez)

xor_odd : (a b : ℕ) → bit_xor a b % 2 ≡ differ (a % 2) (b % 2)
xor_odd a b = omega (arith, xor_step a b, differ_lt (a % 2) (b % 2) (omega arith) (omega arith))

xor_assoc : (a b c : ℕ) → bit_xor (bit_xor a b) c ≡ bit_xor a (bit_xor b c)
xor_assoc =
    bin_ind (λ (n : ℕ). (b c : ℕ) → bit_xor (bit_xor n b) c ≡ bit_xor n (bit_xor b c)) (λ b c. refl)
    (λ n ih b c. xor_step (bit_xor n b) c
    ∙ ap₂ (λ (x y : ℕ). x * 2 + y)
    (ap (λ (x : ℕ). bit_xor x (c / 2)) (xor_shr n b 1) ∙ ih (b / 2) (c / 2) ∙ ap (λ (x : ℕ). bit_xor (n / 2) x) (sym (xor_shr b c 1)))
    (ap (λ (x : ℕ). differ x (c % 2)) (xor_odd n b)
    ∙ differ_assoc (n % 2) (b % 2) (c % 2) (omega arith) (omega arith) (omega arith)
    ∙ ap (λ (x : ℕ). differ (n % 2) x) (sym (xor_odd b c)))
    ∙ sym (xor_step n (bit_xor b c)))

-- ---- a group in which each element is its own opposite

pub ⊕-assoc : (a b c : ℕ) → (a ⊕ b) ⊕ c ≡ a ⊕ (b ⊕ c)
unfolding ◌⊕◌
⊕-assoc a b c = xor_assoc a b c

pub ⊕-comm : (a b : ℕ) → a ⊕ b ≡ b ⊕ a
unfolding ◌⊕◌
⊕-comm a b = xor_comm a b

pub ⊕-zero : (a : ℕ) → a ⊕ 0 ≡ a
unfolding ◌⊕◌
⊕-zero a = xor_zero_r a

pub zero_⊕ : (a : ℕ) → 0 ⊕ a ≡ a
unfolding ◌⊕◌
zero_⊕ a = refl

pub ⊕-self : (a : ℕ) → a ⊕ a ≡ 0
unfolding ◌⊕◌
⊕-self a = xor_self a

pub ⊕-lt : (k : ℕ) {a b : ℕ} → a < 2 ^ k → b < 2 ^ k → a ⊕ b < 2 ^ k
unfolding ◌⊕◌
⊕-lt k {a} {b} ha hb = xor_lt k a b ha hb

-- a summand cancels itself
pub ⊕-cancel : (a b : ℕ) → a ⊕ (a ⊕ b) ≡ b
⊕-cancel a b = sym (⊕-assoc a a b) ∙ ap (λ (x : ℕ). x ⊕ b) (⊕-self a) ∙ zero_⊕ b

pub ⊕-left-comm : (a b c : ℕ) → a ⊕ (b ⊕ c) ≡ b ⊕ (a ⊕ c)
⊕-left-comm a b c = sym (⊕-assoc a b c) ∙ ap (λ (x : ℕ). x ⊕ c) (⊕-comm a b) ∙ ⊕-assoc b a c

pub ⊕-exchange : (a b c d : ℕ) → (a ⊕ b) ⊕ (c ⊕ d) ≡ (a ⊕ c) ⊕ (b ⊕ d)
⊕-exchange a b c d = ⊕-assoc a b (c ⊕ d) ∙ ap (λ (x : ℕ). a ⊕ x) (⊕-left-comm b c d) ∙ sym (⊕-assoc a c (b ⊕ d))

-- a summand that is on both sides goes
pub ⊕-injective : (a b c : ℕ) → a ⊕ b ≡ a ⊕ c → b ≡ c
⊕-injective a b c p = sym (⊕-cancel a b) ∙ ap (λ (x : ℕ). a ⊕ x) p ∙ ⊕-cancel a c

-- two numbers are equal if their sum is 0
pub ⊕-equal : (a b : ℕ) → a ⊕ b ≡ 0 → a ≡ b
⊕-equal a b p = ⊕-injective b a b (⊕-comm b a ∙ p ∙ sym (⊕-self b))

-- by `simp xor` two sums of the same terms come to one form, and equal terms cancel
pub ruleset xor = (⊕-assoc, ⊕-comm, ⊕-left-comm, ⊕-cancel, ⊕-self, ⊕-zero, zero_⊕)

-- ---- sums and shifts

pub ⊕-shr : (a b k : ℕ) → (a ⊕ b) / 2 ^ k ≡ a / 2 ^ k ⊕ b / 2 ^ k
unfolding ◌⊕◌
⊕-shr a b k = xor_shr a b k

pub ⊕-mod : (a b k : ℕ) → (a ⊕ b) % 2 ^ k ≡ a % 2 ^ k ⊕ b % 2 ^ k
unfolding ◌⊕◌
⊕-mod a b k = xor_mod a b k

pub ⊕-half : (a b : ℕ) → (a ⊕ b) / 2 ≡ a / 2 ⊕ b / 2
⊕-half a b = ⊕-shr a b 1

pub ⊕-odd : (a b : ℕ) → (a ⊕ b) % 2 ≡ a % 2 ⊕ b % 2
⊕-odd a b = ⊕-mod a b 1

pub ⊕-twice : (a b : ℕ) → 2 * (a ⊕ b) ≡ 2 * a ⊕ 2 * b
unfolding ◌⊕◌
⊕-twice a b = to (a ⊕ b) ∙ sym (xor_block 1 a b 0 0 (zero-lt-suc 1) (zero-lt-suc 1)) ∙ ap₂ (λ (x y : ℕ). x ⊕ y) (sym (to a)) (sym (to b))
  where
    to : (x : ℕ) → 2 * x ≡ x * 2 + 0
    to x = omega arith

-- bit k on top of k bits: a sum without carry
pub top_bit : (k b : ℕ) → b < 2 ^ k → 2 ^ k + b ≡ 2 ^ k ⊕ b
unfolding ◌⊕◌
top_bit k b h = rw one-mul at (sym (xor_shifted 1 k b h))
