-- Each layer as the code makes it, at one place.
use mathlib.Core.Path.{◌≡◌, sym, ap, ap₂, ◌∙◌}
use mathlib.Core.List.{List, []}
use Prim.Native.Nat.{ℕ, zero, suc, ◌+◌, ◌-◌, ◌*◌, ◌/◌, ◌%◌, ◌^◌, ◌<◌}
use native.Mathlib.Nat.{div-one, mod-one}
use native.Mathlib.Omega.{arith}
use lib.Bits.{bit_xor}
use lib.Dec.{lit<}
use lib.ListN.{get_or}
use Rattle.std.specs.Int.{w8, rotate_left}
use Rattle.xor.specs.Xor.{◌⊕◌}
use Rattle.field.specs.Mul.{double, mul}
use Rattle.field.proofs.Bilinear.{⊕-mul}
use Rattle.field.proofs.Ring.{ring_8, mul_comm, mul_y, mul_one_left}
use Rattle.field.proofs.Tests.{same_below}
use Rattle.rijndael.specs.Strings.{place_of, take_at}
use Rattle.rijndael.specs.Rijndael.{bit_of, linear_bit, sum_bits, linear_part, shift_byte, mix_byte, key_byte, rot_byte, word_byte}

-- ---- the affine map

-- the linear part by rotations, by one computed test
pub linear_by_rotations : (v : ℕ) → v < 256
    → bit_xor (bit_xor (bit_xor (bit_xor v (rotate_left w8 v 1)) (rotate_left w8 v 2)) (rotate_left w8 v 3)) (rotate_left w8 v 4) ≡ linear_part v
unfolding linear_part sum_bits linear_bit bit_of ◌⊕◌
linear_by_rotations =
    same_below 256
    (λ v. bit_xor (bit_xor (bit_xor (bit_xor v (rotate_left w8 v 1)) (rotate_left w8 v 2)) (rotate_left w8 v 3)) (rotate_left w8 v 4))
    linear_part tt

-- ---- where the bytes come from, by computed tests

shift_index : (p : ℕ) → p < 144
    → p / 16 * 16 + (p % 4 + 4 * ((p / 4 + p % 4) % 4)) ≡ p / 16 * 16 + (p % 16 % 4 + 4 * ((p % 16 / 4 + p % 16 % 4) % 4))
shift_index =
    same_below 144 (λ p. p / 16 * 16 + (p % 4 + 4 * ((p / 4 + p % 4) % 4)))
    (λ p. p / 16 * 16 + (p % 16 % 4 + 4 * ((p % 16 / 4 + p % 16 % 4) % 4))) tt

-- byte p itself, and the byte r further down its column
mix_first : (p : ℕ) → p < 144 → p ≡ p / 16 * 16 + (p % 16 / 4 * 4 + p % 16 % 4)
mix_first = same_below 144 (λ p. p) (λ p. p / 16 * 16 + (p % 16 / 4 * 4 + p % 16 % 4)) tt

mix_further : (r : ℕ) → r < 4 → (p : ℕ) → p < 144 → p / 4 * 4 + (p + r) % 4 ≡ p / 16 * 16 + (p % 16 / 4 * 4 + (p % 16 + r) % 4)
mix_further zero h = same_below 144 (λ p. p / 4 * 4 + (p + 0) % 4) (λ p. p / 16 * 16 + (p % 16 / 4 * 4 + (p % 16 + 0) % 4)) tt
mix_further (suc zero) h = same_below 144 (λ p. p / 4 * 4 + (p + 1) % 4) (λ p. p / 16 * 16 + (p % 16 / 4 * 4 + (p % 16 + 1) % 4)) tt
mix_further (suc (suc zero)) h = same_below 144 (λ p. p / 4 * 4 + (p + 2) % 4) (λ p. p / 16 * 16 + (p % 16 / 4 * 4 + (p % 16 + 2) % 4)) tt
mix_further (suc (suc (suc zero))) h = same_below 144 (λ p. p / 4 * 4 + (p + 3) % 4) (λ p. p / 16 * 16 + (p % 16 / 4 * 4 + (p % 16 + 3) % 4)) tt
mix_further (suc (suc (suc (suc r)))) h = absurd (omega arith)

-- ---- the layers

pub shift_place : (a : List ℕ) (p : ℕ) → p < 144
    → get_or a (p / 16 * 16 + (p % 4 + 4 * ((p / 4 + p % 4) % 4))) 0 ≡ place_of 16 0 16 shift_byte a [] p
unfolding shift_byte
shift_place a p h = ap (λ (q : ℕ). get_or a q 0) (shift_index p h)

-- twice and three times a byte
pub twice : (v : ℕ) → v < 2 ^ 8 → double 8 v ≡ mul 8 2 v
twice v h = sym (mul_comm 8 2 v (lit< tt) h ∙ mul_y ring_8 v)

thrice : (v : ℕ) → v < 2 ^ 8 → double 8 v ⊕ v ≡ mul 8 3 v
unfolding ◌⊕◌
thrice v h = ap₂ ◌⊕◌ (twice v h) (sym (mul_one_left ring_8 v h)) ∙ sym (⊕-mul 8 2 1 v)

pub mixture : (a b c d t u : ℕ) → a < 256 → b < 256 → t ≡ double 8 a → u ≡ double 8 b
    → bit_xor (bit_xor (bit_xor t (bit_xor u b)) c) d ≡ mul 8 2 a ⊕ mul 8 3 b ⊕ c ⊕ d
unfolding ◌⊕◌
mixture a b c d t u ha hb et eu =
    ap₂ (λ (x y : ℕ). x ⊕ y ⊕ c ⊕ d) (et ∙ twice a ha) (ap (λ (v : ℕ). v ⊕ b) eu ∙ thrice b hb)

pub mix_place : (a : List ℕ) (p : ℕ) → p < 144
    → mul 8 2 (get_or a p 0) ⊕ mul 8 3 (get_or a (p / 4 * 4 + (p + 1) % 4) 0) ⊕ get_or a (p / 4 * 4 + (p + 2) % 4) 0 ⊕ get_or a (p / 4 * 4 + (p + 3) % 4) 0
    ≡ place_of 16 0 16 mix_byte a [] p
unfolding mix_byte
mix_place a p h =
    ap₂ ◌⊕◌ (ap₂ ◌⊕◌ (ap₂ ◌⊕◌ (ap (λ (q : ℕ). mul 8 2 (get_or a q 0)) (mix_first p h))
    (ap (λ (q : ℕ). mul 8 3 (get_or a q 0)) (mix_further 1 (omega arith) p h)))
    (ap (λ (q : ℕ). get_or a q 0) (mix_further 2 (omega arith) p h)))
    (ap (λ (q : ℕ). get_or a q 0) (mix_further 3 (omega arith) p h))

pub key_place : (r : ℕ) (w a : List ℕ) (p : ℕ)
    → bit_xor (get_or a p 0) (get_or w (p / 16 * 176 + (16 * r + p % 16)) 0) ≡ place_of 16 176 16 (key_byte r) a w p
unfolding key_byte ◌⊕◌
key_place r w a p =
    let e : p ≡ p / 16 * 16 + p % 16 = omega arith in
    ap (λ (q : ℕ). bit_xor (get_or a q 0) (get_or w (p / 16 * 176 + (16 * r + p % 16)) 0)) e

pub rot_place : (r : ℕ) (w : List ℕ) (p : ℕ) → get_or w (p / 4 * 176 + (16 * r - 4 + (p + 1) % 4)) 0 ≡ place_of 176 0 4 (rot_byte r) w [] p
unfolding rot_byte
rot_place r w p =
    let e : (p + 1) % 4 ≡ (p % 4 + 1) % 4 = omega arith in
    ap (λ (q : ℕ). get_or w (p / 4 * 176 + (16 * r - 4 + q)) 0) e

pub word_place : (i : ℕ) (w t : List ℕ) (p : ℕ)
    → bit_xor (get_or w (p / 4 * 176 + (4 * i - 16 + p % 4)) 0) (get_or t p 0) ≡ place_of 176 4 4 (word_byte i) w t p
unfolding word_byte ◌⊕◌
word_place i w t p =
    let e : p ≡ p / 4 * 4 + p % 4 = omega arith in
    ap (λ (q : ℕ). bit_xor (get_or w (p / 4 * 176 + (4 * i - 16 + p % 4)) 0) (get_or t q 0)) e

pub take_place : (m j : ℕ) (a : List ℕ) (i : ℕ) → get_or a (i * m + j) 0 ≡ place_of m 0 1 (take_at j) a [] i
unfolding take_at
take_place m j a i =
    let e : j ≡ j + i % 1 = omega (arith, mod-one i) in
    ap₂ (λ (q k : ℕ). get_or a (q * m + k) 0) (sym (div-one i)) e
