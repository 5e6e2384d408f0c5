-- The laws of the tape.
use mathlib.Core.Path.{◌≡◌, refl, sym, ap, subst, ◌∙◌}
use mathlib.Core.Bool.{Bool, true, false, cond}
use mathlib.Core.List.{List, [], ◌∷◌}
use Prim.Native.Nat.{ℕ, zero, suc, ◌+◌, ◌*◌, ◌/◌, ◌%◌, ◌^◌, ◌-◌, ◌≤◌, ◌<◌}
use native.Mathlib.Nat.{lt_of_lt_of_le, pow-le-pow_right, zero-mul}
use native.Mathlib.Omega.{arith}
use borrow.Author.Tests.{eqb-true}
use lib.Dec.{eqb}
use lib.ListN.{length, get_or}
use Rattle.xor.specs.Sum.{Small}
use Rattle.steps.specs.Tape.{nibbles, elements, bytes_for, Full}

-- ---- nibbles

nibbles_length : (bytes : List ℕ) → length (nibbles bytes) ≡ length bytes * 2
unfolding nibbles
nibbles_length [] = refl
nibbles_length (b ∷ bytes) = omega (arith, nibbles_length bytes)

-- those at even places are high, those at odd ones low
nibble_high : (bytes : List ℕ) (at : ℕ) → at % 2 ≡ 0 → get_or (nibbles bytes) at 0 ≡ get_or bytes (at / 2) 0 / 16
unfolding nibbles
nibble_high [] at h = refl
nibble_high (b ∷ bytes) zero h = refl
nibble_high (b ∷ bytes) (suc zero) h = absurd (omega arith)
nibble_high (b ∷ bytes) (suc (suc at)) h = let e : suc (suc at) / 2 ≡ suc (at / 2) = omega arith in rw e (nibble_high bytes at (omega arith))

nibble_low : (bytes : List ℕ) (at : ℕ) → at % 2 ≡ 1 → get_or (nibbles bytes) at 0 ≡ get_or bytes (at / 2) 0 % 16
unfolding nibbles
nibble_low [] at h = refl
nibble_low (b ∷ bytes) zero h = absurd (omega arith)
nibble_low (b ∷ bytes) (suc zero) h = refl
nibble_low (b ∷ bytes) (suc (suc at)) h = let e : suc (suc at) / 2 ≡ suc (at / 2) = omega arith in rw e (nibble_low bytes at (omega arith))

nibbles_small : (bytes : List ℕ) → Small 8 bytes → Small 4 (nibbles bytes)
unfolding nibbles
nibbles_small [] h i = omega arith
nibbles_small (b ∷ bytes) h zero = let hb : b < 256 = h 0 in omega arith
nibbles_small (b ∷ bytes) h (suc zero) = omega arith
nibbles_small (b ∷ bytes) h (suc (suc i)) = nibbles_small bytes (λ k. h (suc k)) i

small_nibbles : (bytes : List ℕ) → Small 4 (nibbles bytes) → Small 8 bytes
unfolding nibbles
small_nibbles [] h i = omega arith
small_nibbles (b ∷ bytes) h zero = let hb : b / 16 < 16 = h 0 in omega arith
small_nibbles (b ∷ bytes) h (suc i) = small_nibbles bytes (λ k. h (suc (suc k))) i

-- the bytes with these nibbles, an even number of them
paired : List ℕ → List ℕ
paired [] = []
paired (x ∷ []) = x * 16 ∷ []
paired (x ∷ y ∷ l) = (x * 16 + y) ∷ paired l

paired_length : (l : List ℕ) → length (paired l) ≡ (length l + 1) / 2
unfolding paired
paired_length [] = refl
paired_length (x ∷ []) = refl
paired_length (x ∷ y ∷ l) = omega (arith, paired_length l)

nibbles_paired : (l : List ℕ) → Small 4 l → length l % 2 ≡ 0 → nibbles (paired l) ≡ l
unfolding nibbles paired
nibbles_paired [] h e = refl
nibbles_paired (x ∷ []) h e = absurd (omega arith)
nibbles_paired (x ∷ y ∷ l) h e =
    let hy : y < 16 = h 1 in
    let high : (x * 16 + y) / 16 ≡ x = omega arith in
    let low : (x * 16 + y) % 16 ≡ y = omega arith in
    rw (high, low) (ap (λ (m : List ℕ). x ∷ y ∷ m) (nibbles_paired l (λ i. h (suc (suc i))) (omega arith)))

paired_nibbles : (bytes : List ℕ) → paired (nibbles bytes) ≡ bytes
unfolding nibbles paired
paired_nibbles [] = refl
paired_nibbles (b ∷ bytes) = let e : b / 16 * 16 + b % 16 ≡ b = omega arith in rw e (ap (λ (l : List ℕ). b ∷ l) (paired_nibbles bytes))

-- ---- the elements that bytes hold

-- one in a byte, but for width 4
pub elements_one : (width : ℕ) (bytes : List ℕ) → eqb width 4 ≡ false → elements width bytes ≡ bytes
unfolding elements
elements_one width bytes e = rw e

-- Element number `at`, by how many elements lie in a byte besides the first: the byte in which it lies, and the shift that brings it to the lowest bits
module _ (width at : ℕ) (bytes : List ℕ) where
  pub drawn_from : (more : ℕ) → more ≡ cond (eqb width 4) 1 0 → at < length (elements width bytes) → at / (more + 1) < length bytes
  unfolding elements
  drawn_from more = go (eqb width 4)
    where
      go : (b : Bool) → more ≡ cond b 1 0 → at < length (cond b (nibbles bytes) bytes) → at / (more + 1) < length bytes
      go true e h = rw e (omega (arith, nibbles_length bytes))
      go false e h = rw e (omega arith)

  pub drawn_is : Small 8 bytes → (more limit : ℕ) → more ≡ cond (eqb width 4) 1 0 → limit ≡ cond (eqb width 4) 16 256
      → get_or bytes (at / (more + 1)) 0 / 2 ^ (4 * more * (1 - at % 2)) % limit ≡ get_or (elements width bytes) at 0
  unfolding elements
  drawn_is small more limit = go (eqb width 4)
    where
      half : (k : ℕ) → at % 2 ≡ k → get_or bytes (at / 2) 0 / 2 ^ (4 * (1 - at % 2)) % 16 ≡ get_or (nibbles bytes) at 0
      half zero e = rw (e, nibble_high bytes at e) (omega (arith, small (at / 2)))
      half (suc zero) e = rw (e, nibble_low bytes at e) (omega arith)
      half (suc (suc k)) e = absurd (omega arith)

      go : (b : Bool) → more ≡ cond b 1 0 → limit ≡ cond b 16 256
          → get_or bytes (at / (more + 1)) 0 / 2 ^ (4 * more * (1 - at % 2)) % limit ≡ get_or (cond b (nibbles bytes) bytes) at 0
      go true e f = rw (e, f) (half (at % 2) refl)
      go false e f =
          let whole : at / 1 ≡ at = omega arith in
          let none : 0 * (1 - at % 2) ≡ 0 = zero-mul (1 - at % 2) in
          rw (e, f, whole, none) (omega (arith, small at))

-- as many bytes as hold so many elements give them
-- where two elements lie in a byte, each pair spares one
pub bytes_saved : (width count more : ℕ) → more ≡ cond (eqb width 4) 1 0 → count - more * (count / 2) ≡ bytes_for width count
unfolding bytes_for
bytes_saved width count more = go (eqb width 4)
  where
    go : (b : Bool) → more ≡ cond b 1 0 → count - more * (count / 2) ≡ cond b ((count + 1) / 2) count
    go true e = rw e (omega arith)
    go false e = rw e (omega arith)

pub elements_enough : (width : ℕ) (bytes : List ℕ) (count : ℕ) → length bytes ≡ bytes_for width count → count ≤ length (elements width bytes)
unfolding elements bytes_for
elements_enough width bytes count = go (eqb width 4)
  where
    go : (b : Bool) → length bytes ≡ cond b ((count + 1) / 2) count → count ≤ length (cond b (nibbles bytes) bytes)
    go true e = omega (arith, nibbles_length bytes)
    go false e = omega arith

-- and at most one more
pub elements_few : (width : ℕ) (bytes : List ℕ) (count : ℕ) → length bytes ≡ bytes_for width count → length (elements width bytes) ≤ count + 1
unfolding elements bytes_for
elements_few width bytes count = go (eqb width 4)
  where
    go : (b : Bool) → length bytes ≡ cond b ((count + 1) / 2) count → length (cond b (nibbles bytes) bytes) ≤ count + 1
    go true e = omega (arith, nibbles_length bytes)
    go false e = omega arith

-- how many elements bytes hold goes by their number alone
pub elements_length : (width : ℕ) (bytes others : List ℕ) → length bytes ≡ length others → length (elements width bytes) ≡ length (elements width others)
unfolding elements
elements_length width bytes others e = go (eqb width 4)
  where
    go : (b : Bool) → length (cond b (nibbles bytes) bytes) ≡ length (cond b (nibbles others) others)
    go true = omega (arith, nibbles_length bytes, nibbles_length others)
    go false = e

-- elements of 8 bits are bytes, and those of 4 bits are in any bytes
pub elements_bytes : (bytes : List ℕ) → Small 8 bytes → Small 8 (elements 8 bytes)
unfolding elements
elements_bytes bytes h = h

pub elements_nibbles : (bytes : List ℕ) → Small 8 bytes → Small 4 (elements 4 bytes)
unfolding elements
elements_nibbles bytes h = nibbles_small bytes h

-- what holds elements of no more than 8 bits are bytes
pub small_elements : (width : ℕ) (bytes : List ℕ) → width ≤ 8 → Small width (elements width bytes) → Small 8 bytes
unfolding elements
small_elements width bytes few = go (eqb width 4) (eqb-true width 4)
  where
    go : (b : Bool) → (b ≡ true → width ≡ 4) → Small width (cond b (nibbles bytes) bytes) → Small 8 bytes
    go true four h = small_nibbles bytes (subst (λ (n : ℕ). Small n (nibbles bytes)) (four refl) h)
    go false four h = λ i. lt_of_lt_of_le (h i) (pow-le-pow_right (omega arith) few)

-- ---- the bytes that hold so many elements, and the elements

-- bytes that elements fill hold just so many
pub elements_count : (width : ℕ) (bytes : List ℕ) (count : ℕ) → Full width count → length bytes ≡ bytes_for width count
    → length (elements width bytes) ≡ count
unfolding elements bytes_for
elements_count width bytes count = go (eqb width 4)
  where
    go : (b : Bool) → cond b ((count + 1 + 1) / 2) (count + 1) ≡ cond b ((count + 1) / 2) count + 1
        → length bytes ≡ cond b ((count + 1) / 2) count → length (cond b (nibbles bytes) bytes) ≡ count
    go true full e = omega (arith, nibbles_length bytes)
    go false full e = e

-- every list of so many elements is held by such bytes
pub elements_held : (width count : ℕ) (l : List ℕ) → Full width count → Small width l → length l ≡ count
    → (bytes : List ℕ) × (length bytes ≡ bytes_for width count) × (elements width bytes ≡ l)
unfolding elements bytes_for
elements_held width count l = go (eqb width 4) (eqb-true width 4)
  where
    go : (b : Bool) → (b ≡ true → width ≡ 4) → cond b ((count + 1 + 1) / 2) (count + 1) ≡ cond b ((count + 1) / 2) count + 1
        → Small width l → length l ≡ count
        → (bytes : List ℕ) × (length bytes ≡ cond b ((count + 1) / 2) count) × (cond b (nibbles bytes) bytes ≡ l)
    go true four full h e =
        (paired l, paired_length l ∙ ap (λ (k : ℕ). (k + 1) / 2) e, nibbles_paired l (subst (λ (n : ℕ). Small n l) (four refl) h) (omega arith))
    go false four full h e = (l, e, refl)

-- and by no others
pub elements_once : (width : ℕ) (bytes others : List ℕ) → elements width bytes ≡ elements width others → bytes ≡ others
unfolding elements
elements_once width bytes others = go (eqb width 4)
  where
    go : (b : Bool) → cond b (nibbles bytes) bytes ≡ cond b (nibbles others) others → bytes ≡ others
    go true e = sym (paired_nibbles bytes) ∙ ap paired e ∙ paired_nibbles others
    go false e = e
