-- The laws of a key of 80 bits that is held in two parts: its first 64 bits t and its last 16 bits u.
use mathlib.Core.Path.{◌≡◌}
use Prim.Native.Nat.{ℕ, ◌+◌, ◌*◌, ◌/◌, ◌%◌, ◌^◌, ◌<◌}
use native.Mathlib.Nat.{mod-lt, add_assoc}
use native.Mathlib.Omega.{arith}
use lib.Arith.{digits_lt}
use lib.Bits.{bit_xor}
use lib.Pow.{pow_pos}
use Rattle.xor.specs.Xor.{◌⊕◌}
use Rattle.field.proofs.Tests.{same_below}
use Rattle.steps.specs.Iterate.{turns, iterate}
use Rattle.steps.proofs.Bytes.{⊕-block}
use Rattle.present.specs.Present.{nibble, replace, on_nibble, table, substitute, size80, on_top_nibbles, round_number, rotate}
use Rattle.present.specs.Decrypt.{unrotate}

-- the nibbles of the constant are the entries of the table
pub nibbles : (v : ℕ) → v < 16 → 0x21748FE3DA09B65C / 2 ^ (4 * v) % 16 ≡ substitute v
unfolding substitute table
nibbles = same_below 16 (λ v. 0x21748FE3DA09B65C / 2 ^ (4 * v) % 16) substitute tt

-- the top nibble
pub top_of : (t u : ℕ) → t < 2 ^ 64 → u < 2 ^ 16
    → on_top_nibbles substitute size80 (t * 2 ^ 16 + u) ≡ (substitute (t / 2 ^ 60) * 2 ^ 60 + t % 2 ^ 60) * 2 ^ 16 + u
unfolding on_top_nibbles iterate turns on_nibble replace nibble
top_of t u ht hu =
    let top : (t * 2 ^ 16 + u) / 2 ^ 76 % 16 ≡ t / 2 ^ 60 = omega arith in
    let none : (t * 2 ^ 16 + u) / 2 ^ 80 ≡ 0 = omega arith in
    let rest : (t * 2 ^ 16 + u) % 2 ^ 76 ≡ t % 2 ^ 60 * 2 ^ 16 + u = omega arith in
    rw (top, none, rest) (omega arith)

-- the round number
pub number_of : (r t u : ℕ) → r < 32 → u < 2 ^ 16
    → (t * 2 ^ 16 + u) ⊕ round_number size80 r ≡ bit_xor t (r / 2) * 2 ^ 16 + bit_xor u (r % 2 * 2 ^ 15)
unfolding round_number ◌⊕◌
number_of r t u hr hu =
    let e : r * 2 ^ 15 ≡ r / 2 * 2 ^ 16 + r % 2 * 2 ^ 15 = omega arith in
    rw e (⊕-block 16 t (r / 2) u (r % 2 * 2 ^ 15) hu (omega arith))

-- the rotation
pub rotated_parts : (t u : ℕ) → u < 2 ^ 16 → rotate size80 (t * 2 ^ 16 + u) ≡ (t % 8 * 2 ^ 61 + u * 2 ^ 45 + t / 2 ^ 19) * 2 ^ 16 + t / 8 % 2 ^ 16
unfolding rotate
rotated_parts t u h =
    let a = t / 8 in
    let low : (t * 2 ^ 16 + u) % 2 ^ 19 ≡ t % 8 * 2 ^ 16 + u = omega arith in
    let high : (t * 2 ^ 16 + u) / 2 ^ 19 ≡ a = omega arith in
    let top : t / 2 ^ 19 ≡ a / 2 ^ 16 = omega arith in
    rw (low, high, top) (omega arith)

pub rotated_lt : (t u : ℕ) → t < 2 ^ 64 → u < 2 ^ 16 → t % 8 * 2 ^ 61 + u * 2 ^ 45 + t / 2 ^ 19 < 2 ^ 64
rotated_lt t u ht hu =
    let first : t % 8 < 8 = omega arith in
    let last : t / 2 ^ 19 < 2 ^ 45 = omega arith in
    let both : u * 2 ^ 45 + t / 2 ^ 19 < 2 ^ 16 * 2 ^ 45 = digits_lt hu last in
    omega arith

-- the rotation back
pub unrotated_parts : (t u : ℕ) → u < 2 ^ 16
    → unrotate size80 (t * 2 ^ 16 + u) ≡ (t % 2 ^ 45 * 2 ^ 19 + u * 8 + t / 2 ^ 61) * 2 ^ 16 + t / 2 ^ 45 % 2 ^ 16
unfolding unrotate
unrotated_parts t u h =
    let a = t / 2 ^ 45 in
    let low : (t * 2 ^ 16 + u) % 2 ^ 61 ≡ t % 2 ^ 45 * 2 ^ 16 + u = omega arith in
    let high : (t * 2 ^ 16 + u) / 2 ^ 61 ≡ a = omega arith in
    let top : t / 2 ^ 61 ≡ a / 2 ^ 16 = omega arith in
    rw (low, high, top) (omega arith)

pub unrotated_lt : (t u : ℕ) → t < 2 ^ 64 → u < 2 ^ 16 → t % 2 ^ 45 * 2 ^ 19 + u * 8 + t / 2 ^ 61 < 2 ^ 64
unrotated_lt t u ht hu =
    let last : t / 2 ^ 61 < 8 = omega arith in
    rw (add_assoc (t % 2 ^ 45 * 2 ^ 19) (u * 8) (t / 2 ^ 61)) (digits_lt (mod-lt t (pow_pos 45)) (digits_lt hu last))
