-- The laws of bits and nibbles, of the permutation and of the parts of the key schedule: each is linear.
use mathlib.Core.Path.{◌≡◌, refl, sym, ap, ap₂, subst, ◌∙◌}
use mathlib.Core.Logic.{◌≢◌}
use mathlib.Core.Bool.{Bool, true, false, not, cond}
use Prim.Native.Nat.{ℕ, zero, suc, ◌+◌, ◌-◌, ◌*◌, ◌/◌, ◌%◌, ◌^◌, ◌≤◌, ◌<◌}
use native.Mathlib.Nat.{mod-lt, mul_assoc, mul_comm, add-mul, zero-add, add-zero, zero-div, div-eq_of_lt, mod-eq_of_lt, mul-mod_left, pow-suc, lt_of_lt_of_le}
use native.Mathlib.Decide.{ℕ_discrete, dec_lt}
use native.Mathlib.Omega.{arith}
use lib.Arith.{digits_lt, digits_mod}
use lib.Dec.{T, eqb}
use lib.Pow.{pow_pos, pow_mono, pow-add, shl_lt, shr_lt, shl-shr, shr-shr, split, high, low}
use Rattle.xor.specs.Xor.{◌⊕◌}
use Rattle.xor.specs.Sum.{Additive}
use Rattle.xor.proofs.Xor.{⊕-zero, zero_⊕, ⊕-lt, ⊕-cancel, ⊕-exchange, ⊕-shr, ⊕-mod, xor}
use Rattle.steps.proofs.Tests.{told_apart}
use Rattle.steps.proofs.Bytes.{⊕-block}
use Rattle.steps.specs.Iterate.{turns, iterate}
use Rattle.present.specs.Present.{bit, nibble, replace, place, send, permute, Size, key_bits, Sound, size80, round_key, rotate, round_number}
use Rattle.present.specs.Decrypt.{fetch, unpermute, unrotate}
use Rattle.steps.specs.Linear.{Linear, LinearPair}

-- ---- sums of blocks of bits

pub ⊕-shl : (a b k : ℕ) → (a ⊕ b) * 2 ^ k ≡ a * 2 ^ k ⊕ b * 2 ^ k
⊕-shl a b k =
    sym (ap₂ ◌⊕◌ (sym (add-zero (a * 2 ^ k))) (sym (add-zero (b * 2 ^ k))) ∙ ⊕-block k a b 0 0 (pow_pos k) (pow_pos k)
    ∙ ap (λ (x : ℕ). (a ⊕ b) * 2 ^ k + x) (⊕-zero 0) ∙ add-zero ((a ⊕ b) * 2 ^ k))

-- ---- bits

pub bit_additive : (i : ℕ) → Additive (bit i)
unfolding bit
bit_additive i x y = ap (λ (v : ℕ). v % 2) (⊕-shr x y i) ∙ ⊕-mod (x / 2 ^ i) (y / 2 ^ i) 1

pub bit_lt : (i x : ℕ) → bit i x < 2 ^ 1
unfolding bit
bit_lt i x = omega arith

-- ---- nibbles

pub nibble_additive : (k : ℕ) → Additive (nibble k)
unfolding nibble
nibble_additive k x y = ap (λ (v : ℕ). v % 16) (⊕-shr x y (4 * k)) ∙ ⊕-mod (x / 2 ^ (4 * k)) (y / 2 ^ (4 * k)) 4

pub nibble_lt : (k x : ℕ) → nibble k x < 2 ^ 4
unfolding nibble
nibble_lt k x = omega arith

pub nibble_linear : (n k : ℕ) → Linear n 4 (nibble k)
nibble_linear n k = record { additive = λ x y hx hy. nibble_additive k x y; small = λ x h. nibble_lt k x }

-- a nibble is replaced by adding what it differs by
pub replace_is : (k x v : ℕ) → v < 2 ^ 4 → replace k x v ≡ x ⊕ (nibble k x ⊕ v) * 2 ^ (4 * k)
unfolding replace nibble
replace_is k x v h = at (4 * k)
  where
    at : (m : ℕ) → x / 2 ^ (m + 4) * 2 ^ (m + 4) + v * 2 ^ m + x % 2 ^ m ≡ x ⊕ (x / 2 ^ m % 16 ⊕ v) * 2 ^ m
    at m =
        let p = 2 ^ m in
        let y = x / p in
        let n = y % 16 in
        let l = x % p in
        let hn : n < 2 ^ 4 = omega arith in
        let high : x / 2 ^ (m + 4) * 2 ^ (m + 4) ≡ y / 16 * 16 * p =
        ap₂ (λ (a b : ℕ). a * b) (sym (shr-shr x m 4)) (pow-add 2 m 4 ∙ mul_comm p 16) ∙ sym (mul_assoc (y / 16) 16 p) in
        let whole : y ≡ y / 16 * 16 + n = omega arith in
        let changed : y ⊕ (n ⊕ v) ≡ y / 16 * 16 + v =
        ap₂ ◌⊕◌ whole (sym (zero-add (n ⊕ v))) ∙ ⊕-block 4 (y / 16) 0 n (n ⊕ v) hn (⊕-lt 4 hn h)
        ∙ ap₂ (λ (a b : ℕ). a * 16 + b) (⊕-zero (y / 16)) (⊕-cancel n v) in
        ap (λ (a : ℕ). a + v * p + l) high
        ∙ ap (λ (a : ℕ). a + l) (sym (add-mul (y / 16 * 16) v p))
        ∙ ap₂ (λ (a b : ℕ). a * p + b) (sym changed) (sym (⊕-zero l))
        ∙ sym (⊕-block m y (n ⊕ v) l 0 (mod-lt x (pow_pos m)) (pow_pos m))
        ∙ ap₂ ◌⊕◌ (split x m) (add-zero ((n ⊕ v) * p))

pub replace_linear : (n k : ℕ) → 4 * k + 4 ≤ n → LinearPair n 4 n (replace k)
replace_linear n k l =
    record {
      additive = λ x y v w hx hy hv hw.
          rw (replace_is k (x ⊕ y) (v ⊕ w) (⊕-lt 4 hv hw), replace_is k x v hv, replace_is k y w hw, nibble_additive k x y)
          (simp ⊕-shl (simp xor));
      small = λ x v hx hv.
          rw (replace_is k x v hv)
          (⊕-lt n hx (lt_of_lt_of_le (shl_lt 4 (4 * k) (⊕-lt 4 (nibble_lt k x) hv)) (pow_mono (omega arith))));
    }

-- ---- the permutation

pub place_other : (i : ℕ) → i ≢ 63 → place i ≡ 16 * i % 63
unfolding place
place_other i f = go (eqb i 63) (told_apart i 63 f)
  where
    go : (b : Bool) → T (not b) → cond b 63 (16 * i % 63) ≡ 16 * i % 63
    go true h = absurd h
    go false h = refl

pub place_lt : (i : ℕ) → place i < 64
unfolding place
place_lt i = go (eqb i 63)
  where
    go : (b : Bool) → cond b 63 (16 * i % 63) < 64
    go true = omega arith
    go false = omega arith

-- no two bits of a block go to one place
place_injective : (i j : ℕ) → i < 64 → j < 64 → place i ≡ place j → i ≡ j
place_injective i j hi hj e = go (ℕ_discrete i 63) (ℕ_discrete j 63)
  where
    last : place 63 ≡ 63
    last = unfold place in refl

    back : (i : ℕ) → i < 63 → 4 * (16 * i % 63) % 63 ≡ i
    back i h =
        let e : 4 * (16 * i % 63) ≡ (i - 4 * (16 * i / 63)) * 63 + i = omega arith in
        ap (λ (v : ℕ). v % 63) e ∙ digits_mod (i - 4 * (16 * i / 63)) h

    go : Dec (i ≡ 63) → Dec (j ≡ 63) → i ≡ j
    go (yes p) (yes q) = p ∙ sym q
    go (yes p) (no g) = let h : 63 ≡ 16 * j % 63 = sym last ∙ sym (ap place p) ∙ e ∙ place_other j g in absurd (omega arith)
    go (no f) (yes q) = let h : 16 * i % 63 ≡ 63 = sym (place_other i f) ∙ e ∙ ap place q ∙ last in absurd (omega arith)
    go (no f) (no g) =
        let h : 16 * i % 63 ≡ 16 * j % 63 = sym (place_other i f) ∙ e ∙ place_other j g in
        sym (back i (omega arith)) ∙ ap (λ (p : ℕ). 4 * p % 63) h ∙ back j (omega arith)

-- bits that go from the places p i to the places q i, for i below k: those of a sum go as those of its summands
moved_additive : (p q : ℕ → ℕ) (k x y : ℕ)
    → turns (λ i w. w ⊕ bit (p i) (x ⊕ y) * 2 ^ q i) 0 k 0
    ≡ turns (λ i w. w ⊕ bit (p i) x * 2 ^ q i) 0 k 0 ⊕ turns (λ i w. w ⊕ bit (p i) y * 2 ^ q i) 0 k 0
unfolding turns
moved_additive p q zero x y = sym (⊕-zero 0)
moved_additive p q (suc k) x y =
    rw (moved_additive p q k x y, bit_additive (p (0 + k)) x y, ⊕-shl (bit (p (0 + k)) x) (bit (p (0 + k)) y) (q (0 + k))) (⊕-exchange _ _ _ _)

-- to places below 64
moved_lt : (p q : ℕ → ℕ) (k x : ℕ) → ((i : ℕ) → i < k → q i < 64) → turns (λ i w. w ⊕ bit (p i) x * 2 ^ q i) 0 k 0 < 2 ^ 64
unfolding turns
moved_lt p q zero x h = pow_pos 64
moved_lt p q (suc k) x h =
    let l : q (0 + k) < 64 = h (0 + k) (omega arith) in
    ⊕-lt 64 (moved_lt p q k x (λ i m. h i (omega arith)))
    (lt_of_lt_of_le (shl_lt 1 (q (0 + k)) (bit_lt (p (0 + k)) x)) (pow_mono {j = 64} (omega arith)))

pub permute_linear : Linear 64 64 permute
unfolding permute iterate send
permute_linear =
    record { additive = λ x y hx hy. moved_additive (λ i. i) place 64 x y; small = λ x h. moved_lt (λ i. i) place 64 x (λ i l. place_lt i) }

pub unpermute_linear : Linear 64 64 unpermute
unfolding unpermute iterate fetch
unpermute_linear =
    record { additive = λ x y hx hy. moved_additive place (λ i. i) 64 x y; small = λ x h. moved_lt place (λ i. i) 64 x (λ i l. l) }

bit_zero : (p : ℕ) → bit p 0 ≡ 0
unfolding bit
bit_zero p = ap (λ (v : ℕ). v % 2) (zero-div (2 ^ p))

-- the bits of a bit that stands at place q
bit_there : (q b : ℕ) → b < 2 → bit q (b * 2 ^ q) ≡ b
unfolding bit
bit_there q b h = ap (λ (v : ℕ). v % 2) (shl-shr b q) ∙ mod-eq_of_lt h

bit_elsewhere : (p q b : ℕ) → p ≢ q → b < 2 → bit p (b * 2 ^ q) ≡ 0
unfolding bit
bit_elsewhere p q b f h = go (dec_lt p q)
  where
    go : Dec (p < q) → b * 2 ^ q / 2 ^ p % 2 ≡ 0
    go (yes l) =
        let d = q - p - 1 in
        let e : q ≡ suc d + p = omega arith in
        let shifted : b * 2 ^ q ≡ b * 2 ^ d * 2 * 2 ^ p =
        ap (λ (x : ℕ). b * 2 ^ x) e ∙ ap (λ (x : ℕ). b * x) (pow-add 2 (suc d) p ∙ ap (λ (x : ℕ). x * 2 ^ p) (pow-suc 2 d))
        ∙ sym (mul_assoc b (2 ^ d * 2) (2 ^ p)) ∙ ap (λ (x : ℕ). x * 2 ^ p) (sym (mul_assoc b (2 ^ d) 2)) in
        ap (λ (x : ℕ). x / 2 ^ p % 2) shifted ∙ ap (λ (x : ℕ). x % 2) (shl-shr (b * 2 ^ d * 2) p) ∙ mul-mod_left (b * 2 ^ d) 2
    go (no l) =
        let below : b * 2 ^ q < 2 ^ p = lt_of_lt_of_le (shl_lt 1 q h) (pow_mono (omega arith)) in
        ap (λ (x : ℕ). x % 2) (div-eq_of_lt below)

-- a bit that is not sent yet
unsent : (k x i : ℕ) → k ≤ i → i < 64 → bit (place i) (turns (send x) 0 k 0) ≡ 0
unfolding turns send
unsent zero x i l h = bit_zero (place i)
unsent (suc k) x i l h =
    rw (zero-add k, bit_additive (place i) (turns (send x) 0 k 0) (bit k x * 2 ^ place k), unsent k x i (omega arith) h)
    (rw (bit_elsewhere (place i) (place k) (bit k x) (λ e. omega (arith, place_injective i k h (omega arith) e)) (bit_lt k x)) (⊕-zero 0))

-- a bit that is sent
sent : (k x i : ℕ) → i < k → k ≤ 64 → bit (place i) (turns (send x) 0 k 0) ≡ bit i x
unfolding turns send
sent zero x i l h = absurd (omega arith)
sent (suc k) x i l h =
    rw (zero-add k, bit_additive (place i) (turns (send x) 0 k 0) (bit k x * 2 ^ place k))
    (go (ℕ_discrete i k) (λ m. sent k x i m (omega arith)))
  where
    go : Dec (i ≡ k) → (i < k → bit (place i) (turns (send x) 0 k 0) ≡ bit i x)
        → bit (place i) (turns (send x) 0 k 0) ⊕ bit (place i) (bit k x * 2 ^ place k) ≡ bit i x
    go (yes e) f = rw (e, unsent k x k (omega arith) (omega arith), bit_there (place k) (bit k x) (bit_lt k x)) (zero_⊕ (bit k x))
    go (no e) f =
        let apart : place i ≢ place k = λ p. e (place_injective i k (omega arith) (omega arith) p) in
        rw (f (omega arith), bit_elsewhere (place i) (place k) (bit k x) apart (bit_lt k x)) (⊕-zero (bit i x))

-- bit i goes to its place
pub permute_place : (x i : ℕ) → i < 64 → bit (place i) (permute x) ≡ bit i x
unfolding permute iterate
permute_place x i h = sent 64 x i h (omega arith)

-- ---- the key

pub sound80 : Sound size80
sound80 = record { long = omega arith; boxed = omega arith; numbered = omega arith }

-- the low a bits and the b bits above them exchanged
exchanged_linear : (a b : ℕ) → Linear (b + a) (a + b) (λ k. k % 2 ^ a * 2 ^ b + k / 2 ^ a)
exchanged_linear a b =
    record {
      additive = λ x y hx hy.
          ap₂ (λ (v w : ℕ). v * 2 ^ b + w) (⊕-mod x y a) (⊕-shr x y a)
          ∙ sym (⊕-block b (x % 2 ^ a) (y % 2 ^ a) (x / 2 ^ a) (y / 2 ^ a) (shr_lt b a hx) (shr_lt b a hy));
      small = λ x h. rw (pow-add 2 a b) (digits_lt (mod-lt x (pow_pos a)) (shr_lt b a h));
    }

-- and back
exchanged_back : (a b k : ℕ) → k < 2 ^ (b + a)
    → (k % 2 ^ a * 2 ^ b + k / 2 ^ a) % 2 ^ b * 2 ^ a + (k % 2 ^ a * 2 ^ b + k / 2 ^ a) / 2 ^ b ≡ k
exchanged_back a b k h =
    let l : k / 2 ^ a < 2 ^ b = shr_lt b a h in
    rw (low (k % 2 ^ a) b l, high (k % 2 ^ a) b l) (split k a)

module _ (z : Size) (sound : Sound z) where
  pub round_key_linear : Linear (key_bits z) 64 (round_key z)
  unfolding round_key
  round_key_linear =
      let e : 64 + (key_bits z - 64) ≡ key_bits z = omega arith in
      record { additive = λ x y hx hy. ⊕-shr x y (key_bits z - 64); small = λ x h. shr_lt 64 (key_bits z - 64) (rw e h) }

  parts : 61 + (key_bits z - 61) ≡ key_bits z
  parts = omega arith

  parts' : key_bits z - 61 + 61 ≡ key_bits z
  parts' = omega arith

  pub rotate_linear : Linear (key_bits z) (key_bits z) (rotate z)
  unfolding rotate
  rotate_linear =
      subst (λ (m : ℕ). Linear m (key_bits z) (rotate z)) parts
      (subst (λ (n : ℕ). Linear (61 + (key_bits z - 61)) n (rotate z)) parts' (exchanged_linear (key_bits z - 61) 61))

  pub unrotate_linear : Linear (key_bits z) (key_bits z) (unrotate z)
  unfolding unrotate
  unrotate_linear =
      subst (λ (m : ℕ). Linear m (key_bits z) (unrotate z)) parts'
      (subst (λ (n : ℕ). Linear (key_bits z - 61 + 61) n (unrotate z)) parts (exchanged_linear 61 (key_bits z - 61)))

  pub unrotate_rotate : (k : ℕ) → k < 2 ^ key_bits z → unrotate z (rotate z k) ≡ k
  unfolding rotate unrotate
  unrotate_rotate k h = exchanged_back (key_bits z - 61) 61 k (rw parts h)

  pub round_number_lt : (r : ℕ) → r < 2 ^ 5 → round_number z r < 2 ^ key_bits z
  unfolding round_number
  round_number_lt r h = lt_of_lt_of_le (shl_lt 5 z.number_at h) (pow_mono (omega arith))
