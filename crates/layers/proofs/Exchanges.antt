-- Four exchanges are the permutation, and in the other order its inverse: both are additive, and they agree at each bit.
use mathlib.Core.Path.{◌≡◌, refl, sym, ap, ap₂, ◌∙◌}
use mathlib.Core.List.{List, [], ◌∷◌}
use mathlib.Core.Logic.{◌⊎◌, inl, inr}
use Prim.Native.Nat.{ℕ, ◌*◌, ◌/◌, ◌%◌, ◌^◌, ◌<◌}
use native.Mathlib.Omega.{arith}
use lib.Arith.{bin_ind}
use lib.Bits.{bit_and, and_shr, and_mod}
use Rattle.xor.specs.Xor.{◌⊕◌}
use Rattle.xor.specs.Sum.{Additive}
use Rattle.xor.proofs.Xor.{bit_cases, ⊕-zero, zero_⊕, ⊕-self, ⊕-shr, ⊕-mod, ⊕-exchange}
use Rattle.xor.proofs.Sum.{additive_below}
use Rattle.xor.proofs.Basis.{agree}
use Rattle.field.proofs.Tests.{same_below}
use Rattle.steps.specs.Iterate.{turns, iterate}
use Rattle.steps.specs.Linear.{Linear}
use Rattle.present.specs.Present.{bit, place, send, permute}
use Rattle.present.specs.Decrypt.{fetch, unpermute}
use Rattle.present.proofs.Numbers.{⊕-shl, permute_linear, unpermute_linear}
use Rattle.layers.specs.Swap.{difference, exchange}

-- ---- masks

and_bits : (x y z : ℕ) → x < 2 → y < 2 → bit_and (x ⊕ y) z ≡ bit_and x z ⊕ bit_and y z
and_bits x y z hx hy = go (bit_cases x hx) (bit_cases y hy)
  where
    go : (x ≡ 0) ⊎ (x ≡ 1) → (y ≡ 0) ⊎ (y ≡ 1) → bit_and (x ⊕ y) z ≡ bit_and x z ⊕ bit_and y z
    go (inl p) q = rw (p, zero_⊕ y) (sym (zero_⊕ (bit_and y z)))
    go (inr p) (inl q) = rw (p, q, ⊕-zero 1) (sym (⊕-zero (bit_and 1 z)))
    go (inr p) (inr q) = rw (p, q, ⊕-self 1) (sym (⊕-self (bit_and 1 z)))

-- a number is settled by its half and its lowest bit
by_half : (x y : ℕ) → x / 2 ≡ y / 2 → x % 2 ≡ y % 2 → x ≡ y
by_half x y p q = omega arith

mask_additive : (a b m : ℕ) → bit_and (a ⊕ b) m ≡ bit_and a m ⊕ bit_and b m
mask_additive =
    bin_ind (λ (a : ℕ). (b m : ℕ) → bit_and (a ⊕ b) m ≡ bit_and a m ⊕ bit_and b m)
    (λ b m. ap (λ (x : ℕ). bit_and x m) (zero_⊕ b) ∙ sym (zero_⊕ (bit_and b m)))
    (λ a ih b m. by_half (bit_and (a ⊕ b) m) (bit_and a m ⊕ bit_and b m)
    (and_shr (a ⊕ b) m 1 ∙ ap (λ (x : ℕ). bit_and x (m / 2)) (⊕-shr a b 1) ∙ ih (b / 2) (m / 2)
    ∙ ap₂ ◌⊕◌ (sym (and_shr a m 1)) (sym (and_shr b m 1)) ∙ sym (⊕-shr (bit_and a m) (bit_and b m) 1))
    (and_mod (a ⊕ b) m 1 ∙ ap (λ (x : ℕ). bit_and x (m % 2)) (⊕-mod a b 1)
    ∙ and_bits (a % 2) (b % 2) (m % 2) (omega arith) (omega arith)
    ∙ ap₂ ◌⊕◌ (sym (and_mod a m 1)) (sym (and_mod b m 1)) ∙ sym (⊕-mod (bit_and a m) (bit_and b m) 1)))

-- ---- exchanges

difference_additive : (m k : ℕ) → Additive (difference m k)
unfolding difference
difference_additive m k x y =
    ap (λ (v : ℕ). bit_and v m) (ap (λ (v : ℕ). v ⊕ (x ⊕ y)) (⊕-shr x y k) ∙ ⊕-exchange (x / 2 ^ k) (y / 2 ^ k) x y)
    ∙ mask_additive (x / 2 ^ k ⊕ x) (y / 2 ^ k ⊕ y) m

exchange_additive : (m k : ℕ) → Additive (exchange m k)
unfolding exchange
exchange_additive m k x y =
    let d = difference m k in
    let low : d (x ⊕ y) * 2 ^ k % 2 ^ 64 ≡ d x * 2 ^ k % 2 ^ 64 ⊕ d y * 2 ^ k % 2 ^ 64 =
    ap (λ (v : ℕ). v * 2 ^ k % 2 ^ 64) (difference_additive m k x y) ∙ ap (λ (v : ℕ). v % 2 ^ 64) (⊕-shl (d x) (d y) k)
    ∙ ⊕-mod (d x * 2 ^ k) (d y * 2 ^ k) 64 in
    ap₂ ◌⊕◌ (ap (λ (v : ℕ). (x ⊕ y) ⊕ v) (difference_additive m k x y) ∙ ⊕-exchange x y (d x) (d y)) low
    ∙ ⊕-exchange (x ⊕ d x) (y ⊕ d y) (d x * 2 ^ k % 2 ^ 64) (d y * 2 ^ k % 2 ^ 64)

-- exchanges one after the other, each a mask and a distance
exchanges : List (ℕ × ℕ) → ℕ → ℕ
exchanges [] x = x
exchanges (e ∷ l) x = exchanges l (exchange e.0 e.1 x)

exchanges_additive : (l : List (ℕ × ℕ)) → Additive (exchanges l)
unfolding exchanges
exchanges_additive [] x y = refl
exchanges_additive (e ∷ l) x y = ap (exchanges l) (exchange_additive e.0 e.1 x y) ∙ exchanges_additive l _ _

-- exchanges that send each bit to the place that p sends it to
exchanges_are : (l : List (ℕ × ℕ)) (p : ℕ → ℕ) → Linear 64 64 p → ((i : ℕ) → i < 64 → exchanges l (2 ^ i) ≡ p (2 ^ i))
    → (x : ℕ) → x < 2 ^ 64 → p x ≡ exchanges l x
exchanges_are l p linear same x h = sym (agree 64 (exchanges l) p (additive_below 64 (exchanges l) (exchanges_additive l)) linear.additive same x h)

-- ---- the permutation

-- index bits 0 and 2, 1 and 3, 2 and 4, 3 and 5 are exchanged
abbrev forth : List (ℕ × ℕ)
forth = (0x0A0A0A0A0A0A0A0A, 3) ∷ (0x00CC00CC00CC00CC, 6) ∷ (0x0000F0F00000F0F0, 12) ∷ (0x00000000FF00FF00, 24) ∷ []

-- and in the other order
abbrev back : List (ℕ × ℕ)
back = (0x00000000FF00FF00, 24) ∷ (0x0000F0F00000F0F0, 12) ∷ (0x00CC00CC00CC00CC, 6) ∷ (0x0A0A0A0A0A0A0A0A, 3) ∷ []

forth_bits : (i : ℕ) → i < 64 → exchanges forth (2 ^ i) ≡ permute (2 ^ i)
unfolding exchanges exchange difference permute iterate turns send bit place ◌⊕◌
forth_bits = same_below 64 (λ i. exchanges forth (2 ^ i)) (λ i. permute (2 ^ i)) tt

back_bits : (i : ℕ) → i < 64 → exchanges back (2 ^ i) ≡ unpermute (2 ^ i)
unfolding exchanges exchange difference unpermute iterate turns fetch bit place ◌⊕◌
back_bits = same_below 64 (λ i. exchanges back (2 ^ i)) (λ i. unpermute (2 ^ i)) tt

pub exchanges_permute : (x : ℕ) → x < 2 ^ 64
    → permute x ≡ exchange 0x00000000FF00FF00 24 (exchange 0x0000F0F00000F0F0 12 (exchange 0x00CC00CC00CC00CC 6 (exchange 0x0A0A0A0A0A0A0A0A 3 x)))
unfolding exchanges
exchanges_permute = exchanges_are forth permute permute_linear forth_bits

pub exchanges_unpermute : (x : ℕ) → x < 2 ^ 64
    → unpermute x ≡ exchange 0x0A0A0A0A0A0A0A0A 3 (exchange 0x00CC00CC00CC00CC 6 (exchange 0x0000F0F00000F0F0 12 (exchange 0x00000000FF00FF00 24 x)))
unfolding exchanges
exchanges_unpermute = exchanges_are back unpermute unpermute_linear back_bits
