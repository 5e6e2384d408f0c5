-- The laws of numbers as bytes: the two ways undo each other, and bytes add up as numbers do.
use mathlib.Core.Path.{◌≡◌, refl, sym, ap, ap₂, ◌∙◌}
use mathlib.Core.List.{List, [], ◌∷◌}
use Prim.Native.Nat.{ℕ, zero, suc, ◌+◌, ◌-◌, ◌*◌, ◌/◌, ◌%◌, ◌^◌, ◌≤◌, ◌<◌}
use native.Mathlib.Nat.{mod-eq_of_lt, mod-one}
use native.Mathlib.Omega.{arith}
use lib.Arith.{digits_lt}
use lib.ListN.{length}
use lib.Pow.{pow_pos, pow-add, high, mod-pow-add, field, low, mod-mod-pow}
use lib.Bits.{xor_block}
use Rattle.xor.specs.Xor.{◌⊕◌}
use Rattle.xor.specs.Sum.{add_lists, Small}
use Rattle.xor.proofs.Xor.{⊕-zero}
use Rattle.xor.proofs.Sum.{small_tail, small_cons}
use Rattle.steps.specs.Bytes.{from_bytes, to_bytes}

-- a byte more
-- sums of blocks of bits
pub ⊕-block : (k a b r s : ℕ) → r < 2 ^ k → s < 2 ^ k → (a * 2 ^ k + r) ⊕ (b * 2 ^ k + s) ≡ (a ⊕ b) * 2 ^ k + (r ⊕ s)
unfolding ◌⊕◌
⊕-block k a b r s hr hs = xor_block k a b r s hr hs

eight_more : (k : ℕ) → 8 * suc k ≡ 8 + 8 * k
eight_more k = omega arith

pub length_to_bytes : (k x : ℕ) → length (to_bytes k x) ≡ k
unfolding to_bytes
length_to_bytes zero x = refl
length_to_bytes (suc k) x = ap suc (length_to_bytes k x)

pub to_bytes_small : (k x : ℕ) → Small 8 (to_bytes k x)
unfolding to_bytes
to_bytes_small zero x i = pow_pos 8
to_bytes_small (suc k) x i = small_cons 8 (x / 2 ^ (8 * k) % 256) (to_bytes k x) (omega arith) (to_bytes_small k x) i

pub from_bytes_lt : (l : List ℕ) → Small 8 l → from_bytes l < 2 ^ (8 * length l)
unfolding from_bytes
from_bytes_lt [] h = pow_pos 0
from_bytes_lt (b ∷ l) h = rw (eight_more (length l), pow-add 2 8 (8 * length l)) (digits_lt (h 0) (from_bytes_lt l (small_tail 8 b l h)))

-- k bytes of any number
from_to : (k x : ℕ) → from_bytes (to_bytes k x) ≡ x % 2 ^ (8 * k)
unfolding from_bytes to_bytes
from_to zero x = sym (mod-one x)
from_to (suc k) x = rw (length_to_bytes k x, from_to k x, eight_more k) (sym (mod-pow-add x 8 (8 * k)))

pub from_to_bytes : (k x : ℕ) → x < 2 ^ (8 * k) → from_bytes (to_bytes k x) ≡ x
from_to_bytes k x h = from_to k x ∙ mod-eq_of_lt h

-- k bytes are settled by the remainder at 2 ^ (8 m), for k not above m
to_bytes_low : (k x y m : ℕ) → k ≤ m → x % 2 ^ (8 * m) ≡ y % 2 ^ (8 * m) → to_bytes k x ≡ to_bytes k y
unfolding to_bytes
to_bytes_low zero x y m l e = refl
to_bytes_low (suc k) x y m l e =
    ap₂ (λ (b : ℕ) (r : List ℕ). b ∷ r) (sym (at x) ∙ ap (λ (v : ℕ). v / 2 ^ (8 * k) % 256) e ∙ at y)
    (to_bytes_low k x y m (omega arith) e)
  where
    at : (x : ℕ) → x % 2 ^ (8 * m) / 2 ^ (8 * k) % 256 ≡ x / 2 ^ (8 * k) % 256
    at x =
        let j = 8 * (m - suc k) in
        let e : 8 * m ≡ (j + 8) + 8 * k = omega arith in
        ap (λ (n : ℕ). x % 2 ^ n / 2 ^ (8 * k) % 256) e ∙ ap (λ (v : ℕ). v % 256) (field x (j + 8) (8 * k)) ∙ mod-mod-pow (x / 2 ^ (8 * k)) j 8

pub to_from_bytes : (l : List ℕ) → Small 8 l → to_bytes (length l) (from_bytes l) ≡ l
unfolding from_bytes to_bytes
to_from_bytes [] h = refl
to_from_bytes (b ∷ l) h =
    let r = from_bytes l in
    let h' = small_tail 8 b l h in
    let lt : r < 2 ^ (8 * length l) = from_bytes_lt l h' in
    let low_part = low b (8 * length l) lt ∙ sym (mod-eq_of_lt lt) in
    ap₂ (λ (c : ℕ) (m : List ℕ). c ∷ m) (ap (λ (v : ℕ). v % 256) (high b (8 * length l) lt) ∙ mod-eq_of_lt (h 0))
    (to_bytes_low (length l) (b * 2 ^ (8 * length l) + r) r (length l) (omega arith) low_part ∙ to_from_bytes l h')

length_add_lists : (l m : List ℕ) → length l ≡ length m → length (add_lists l m) ≡ length l
unfolding add_lists
length_add_lists [] m e = refl
length_add_lists (b ∷ l) [] e = absurd (omega arith)
length_add_lists (b ∷ l) (c ∷ m) e = ap suc (length_add_lists l m (omega arith))

-- bytes are added one by one
pub from_bytes_add : (l m : List ℕ) → length l ≡ length m → Small 8 l → Small 8 m → from_bytes (add_lists l m) ≡ from_bytes l ⊕ from_bytes m
unfolding from_bytes add_lists
from_bytes_add [] [] e hl hm = sym (⊕-zero 0)
from_bytes_add [] (c ∷ m) e hl hm = absurd (omega arith)
from_bytes_add (b ∷ l) [] e hl hm = absurd (omega arith)
from_bytes_add (b ∷ l) (c ∷ m) e hl hm =
    let p : length m ≡ length l = omega arith in
    let hl' = small_tail 8 b l hl in
    let hm' = small_tail 8 c m hm in
    rw (length_add_lists l m (sym p), from_bytes_add l m (sym p) hl' hm', p)
    (sym (⊕-block (8 * length l) b c (from_bytes l) (from_bytes m) (from_bytes_lt l hl') (rw p at (from_bytes_lt m hm'))))
