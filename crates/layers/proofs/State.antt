-- The laws of shares in bytes: what a changed byte, and bytes that are written, do to the shares.
use mathlib.Core.Path.{◌≡◌, refl, sym, ap, ap₂, ◌∙◌}
use mathlib.Core.List.{List, [], ◌∷◌, ◌++◌}
use Prim.Native.Nat.{ℕ, zero, suc, ◌+◌, ◌-◌, ◌*◌, ◌/◌, ◌%◌, ◌^◌, ◌≤◌, ◌<◌}
use native.Mathlib.Nat.{div-one, zero-add, add-mul, mul_assoc, mod-eq_of_lt, lt_of_lt_of_le}
use native.Mathlib.Omega.{arith}
use lib.ListN.{length, get_or, set, take, drop, length-append, length-drop}
use lib.Pow.{pow-add, pow_mono, shl_lt, shr-shr, high}
use lib.Seq.{paste, length-take-le, get_or-take, get_or-drop, get_or-set_other}
use borrow.Rule.Slice.PartMut.{put_mid}
use Rattle.std.specs.Int.{w16, w64, from_be_bytes, to_be_bytes}
use Rattle.std.proofs.lemmas.List.{take-append-drop}
use Rattle.std.proofs.lemmas.Nat.{be_bytes_2, be_bytes_8}
use Rattle.std.proofs.lemmas.Slice.{put_mid-paste}
use Rattle.xor.specs.Xor.{◌⊕◌}
use Rattle.xor.specs.Sum.{Small}
use Rattle.xor.proofs.Xor.{⊕-lt, ⊕-cancel}
use Rattle.steps.specs.Fill.{tabulate}
use Rattle.steps.proofs.Fill.{tabulate_same, tabulate_get_or}
use Rattle.steps.specs.Bytes.{from_bytes, to_bytes}
use Rattle.present.specs.Present.{nibble, replace, size80, round_key}
use Rattle.steps.proofs.Bytes.{length_to_bytes, from_to_bytes}
use Rattle.present.proofs.Numbers.{replace_is}
use Rattle.steps.specs.ShareBytes.{bytes_at, share_at, Changed}
use Rattle.steps.proofs.Number.{number_parts, number_lt, number_byte, number_set, paste_there, paste_before, paste_after}

-- ---- the number that bytes are

pub bytes_all : (l : List ℕ) → bytes_at 0 (length l) l ≡ l
unfolding bytes_at
bytes_all l = tabulate_same (length l) (λ j. get_or l (0 + j) 0) (λ j. get_or l j 0) (λ j h. ap (λ (n : ℕ). get_or l n 0) (zero-add j)) ∙ tabulate_get_or l 0

-- of two strings, one after the other
pub from_both : (a b : List ℕ) → from_bytes (a ++ b) ≡ from_bytes a * 2 ^ (8 * length b) + from_bytes b
unfolding from_bytes
from_both [] b = omega arith
from_both (x ∷ a) b =
    let n = 2 ^ (8 * length b) in
    let e : 8 * length (a ++ b) ≡ 8 * length a + 8 * length b = omega (arith, length-append a b) in
    ap₂ (λ (y z : ℕ). x * y + z) (ap (λ (k : ℕ). 2 ^ k) e ∙ pow-add 2 (8 * length a) (8 * length b)) (from_both a b)
    ∙ ap (λ (y : ℕ). y + (from_bytes a * n + from_bytes b)) (sym (mul_assoc x (2 ^ (8 * length a)) n))
    ∙ omega (arith, add-mul (x * 2 ^ (8 * length a)) (from_bytes a) n)

pub from_parts : (v w : ℕ) (l : List ℕ) → length l ≡ v + w → from_bytes l ≡ from_bytes (take v l) * 2 ^ (8 * w) + from_bytes (drop v l)
from_parts v w l e =
    let size : length (drop v l) ≡ w = omega (arith, length-drop v l) in
    ap from_bytes (sym (take-append-drop v l)) ∙ from_both (take v l) (drop v l) ∙ rw size

-- of what was written
pub from_written : (w k x : ℕ) {ys : List ℕ} → ys ≡ to_bytes k x → length ys ≡ w → x < 2 ^ (8 * w) → from_bytes ys ≡ x
from_written w k x {ys} e n h =
    let size : k ≡ w = sym (length_to_bytes k x) ∙ ap length (sym e) ∙ n in
    ap from_bytes e ∙ ap (λ (j : ℕ). from_bytes (to_bytes j x)) size ∙ from_to_bytes w x h

-- eight bytes and two, as the library writes and reads them
pub eight_written : (x : ℕ) → to_be_bytes w64 x ≡ to_bytes 8 x
unfolding to_bytes
eight_written x = simp div-one

pub eight_read : (l : List ℕ) {x : ℕ} → length l ≡ 8 → Small 8 l → x < 2 ^ 64 → x ≡ from_be_bytes w64 l → x ≡ from_bytes l
eight_read l {x} e small h is = sym (ap from_bytes (sym (be_bytes_8 l x e small is) ∙ eight_written x) ∙ from_to_bytes 8 x h)

pub two_written : (x : ℕ) → to_be_bytes w16 x ≡ to_bytes 2 x
unfolding to_bytes
two_written x = simp div-one

pub two_read : (l : List ℕ) {x : ℕ} → length l ≡ 2 → Small 8 l → x < 2 ^ 16 → x ≡ from_be_bytes w16 l → x ≡ from_bytes l
two_read l {x} e small h is = sym (ap from_bytes (sym (be_bytes_2 l x e small is) ∙ two_written x) ∙ from_to_bytes 2 x h)

-- of the n bytes from a
pub bytes_lent : (a n : ℕ) {m : ℕ} (l : List ℕ) → m ≡ n → a + n ≤ length l → from_bytes (take m (drop a l)) ≡ from_bytes (bytes_at a n l)
unfolding bytes_at
bytes_lent a n l e h =
    let m = take n (drop a l) in
    let size : length m ≡ n = length-take-le n (drop a l) (omega (arith, length-drop a l)) in
    rw e
    (ap from_bytes
    (sym (rw size at (tabulate_get_or m 0))
    ∙ tabulate_same n (λ j. get_or m j 0) (λ j. get_or l (a + j) 0) (λ j k. get_or-take n (drop a l) j 0 k ∙ get_or-drop a l j 0)))

-- so of a share
pub share_lent : (w i : ℕ) {a n : ℕ} (l : List ℕ) → a ≡ w * i → n ≡ w → w * i + w ≤ length l → from_bytes (take n (drop a l)) ≡ share_at w l i
unfolding share_at
share_lent w i l ea en h = rw ea (bytes_lent (w * i) w l en h)

-- ---- a share is changed

pub changed_then : {w i x y : ℕ} {l m n : List ℕ} → Changed w i x l m → Changed w i y m n → Changed w i y l n
changed_then h k =
    record { here = k.here; earlier = λ j f. k.earlier j f ∙ h.earlier j f; later = λ j f. k.later j f ∙ h.later j f }

-- ---- one byte is changed

-- byte v of share i, of w bytes
pub changed_set : (w i v : ℕ) (l : List ℕ) → Small 8 l → v < w → w * i + v < length l → (c : ℕ) → c < 256
    → Changed w i (share_at w l i ⊕ (get_or l (w * i + v) 0 ⊕ c) * 2 ^ (8 * (w - 1 - v))) l (set l (w * i + v) c)
unfolding share_at
changed_set w i v l h hv k c hc =
    let e : suc v + (w - 1 - v) ≡ w = omega arith in
    record {
      here = rw e at (number_set (w * i) l h v (w - 1 - v) c hc k);
      earlier = λ j f. get_or-set_other l (w * i + v) j c 0 (λ p. omega arith);
      later = λ j f. get_or-set_other l (w * i + v) j c 0 (λ p. omega arith);
    }

-- ---- nibbles

-- nibble k is in the byte that stands before k / 2 others
pub nibble_byte : (w : ℕ) (l : List ℕ) → Small 8 l → (i k : ℕ) → k < 2 * w
    → nibble k (share_at w l i) ≡ get_or l (w * i + (w - 1 - k / 2)) 0 / 2 ^ (4 * (k % 2)) % 16
unfolding nibble share_at
nibble_byte w l h i k g =
    let j = k / 2 in
    let v = w - 1 - j in
    let x = from_bytes (bytes_at (w * i) w l) in
    let y = x / 2 ^ (8 * j) in
    let e : suc v + j ≡ w = omega arith in
    let f : 4 * k ≡ 8 * j + 4 * (k % 2) = omega arith in
    let byte : y % 256 ≡ get_or l (w * i + v) 0 = rw e at (number_byte (w * i) l h v j) in
    ap (λ (n : ℕ). x / 2 ^ n % 16) f ∙ ap (λ (a : ℕ). a % 16) (sym (shr-shr x (8 * j) (4 * (k % 2))))
    ∙ half y (k % 2) (omega arith) ∙ ap (λ (b : ℕ). b / 2 ^ (4 * (k % 2)) % 16) byte
  where
    half : (y e : ℕ) → e < 2 → y / 2 ^ (4 * e) % 16 ≡ y % 256 / 2 ^ (4 * e) % 16
    half y zero h = omega arith
    half y (suc zero) h = omega arith
    half y (suc (suc e)) h = absurd (omega arith)

-- a byte b with a nibble replaced by v
unfoldable pub byte_with : ℕ → ℕ → ℕ → ℕ
byte_with shift v b = b ⊕ (b / 2 ^ shift % 16 ⊕ v) * 2 ^ shift % 256

pub changed_nibble : (w i k v : ℕ) (l : List ℕ) → Small 8 l → k < 2 * w → w * i + w ≤ length l → v < 16
    → Changed w i (replace k (share_at w l i) v) l
    (set l (w * i + (w - 1 - k / 2)) (byte_with (4 * (k % 2)) v (get_or l (w * i + (w - 1 - k / 2)) 0)))
unfolding byte_with
changed_nibble w i k v l h g r hv =
    let p = w - 1 - k / 2 in
    let b = get_or l (w * i + p) 0 in
    let shift = 4 * (k % 2) in
    let x = share_at w l i in
    let d = b / 2 ^ shift % 16 ⊕ v in
    let c = b ⊕ d * 2 ^ shift % 256 in
    let hd : d < 2 ^ 4 = ⊕-lt 4 (omega arith) hv in
    let small : d * 2 ^ shift < 2 ^ 8 = lt_of_lt_of_le (shl_lt 4 shift hd) (pow_mono {j = 8} (omega arith)) in
    let whole : d * 2 ^ shift % 256 ≡ d * 2 ^ shift = mod-eq_of_lt small in
    let place : shift + 8 * (k / 2) ≡ 4 * k = omega arith in
    let back : w - 1 - p ≡ k / 2 = omega arith in
    let moved : (b ⊕ c) * 2 ^ (8 * (w - 1 - p)) ≡ (nibble k x ⊕ v) * 2 ^ (4 * k) =
    ap₂ (λ (a n : ℕ). a * 2 ^ (8 * n)) (⊕-cancel b (d * 2 ^ shift % 256) ∙ whole) back
    ∙ mul_assoc d (2 ^ shift) (2 ^ (8 * (k / 2)))
    ∙ ap₂ (λ (a n : ℕ). a * n) (ap (λ (a : ℕ). a ⊕ v) (sym (nibble_byte w l h i k g)))
    (sym (pow-add 2 shift (8 * (k / 2))) ∙ ap (λ (n : ℕ). 2 ^ n) place) in
    let t = changed_set w i p l h (omega arith) (omega arith) c (⊕-lt 8 (h (w * i + p)) (omega arith)) in
    record { here = t.here ∙ ap (λ (a : ℕ). x ⊕ a) moved ∙ sym (replace_is k x v hv); earlier = t.earlier; later = t.later }

-- ---- several bytes are written

-- a share that was lent, and is x now
pub changed_lent : (w i : ℕ) {a n x : ℕ} (l ys : List ℕ) → a ≡ w * i → n ≡ w → w * i + w ≤ length l → length ys ≡ w → from_bytes ys ≡ x
    → Changed w i x l (put_mid a n l ys)
unfolding share_at bytes_at
changed_lent w i {a} {n} {x} l ys ea en h e ex = rw (put_mid-paste a n l ys ys n refl refl (en ∙ sym e), ea, en) changed
  where
    here : tabulate w (λ j. get_or (paste l (w * i) ys w) (w * i + j) 0) ≡ ys
    here =
        tabulate_same w (λ j. get_or (paste l (w * i) ys w) (w * i + j) 0) (λ j. get_or ys j 0) (λ j k. paste_there l (w * i) ys w h (omega arith) j k)
        ∙ rw e at (tabulate_get_or ys 0)

    changed : Changed w i x l (paste l (w * i) ys w)
    changed =
        record {
          here = ap from_bytes here ∙ ex;
          earlier = paste_before l (w * i) ys w h (omega arith);
          later = paste_after l (w * i) ys w h (omega arith);
        }

-- a share as its first v bytes and the n bytes after them
pub share_parts : (v n i : ℕ) (l : List ℕ)
    → share_at (v + n) l i ≡ from_bytes (bytes_at ((v + n) * i) v l) * 2 ^ (8 * n) + from_bytes (bytes_at ((v + n) * i + v) n l)
unfolding share_at
share_parts v n i l = number_parts ((v + n) * i) l v n

-- ---- the key: its first 64 bits and the 16 after them

-- the round key is the first 64 bits
pub round_key_first : (i : ℕ) (l : List ℕ) → Small 8 l → round_key size80 (share_at 10 l i) ≡ from_bytes (bytes_at (10 * i) 8 l)
unfolding round_key
round_key_first i l h = ap (λ (k : ℕ). k / 2 ^ 16) (share_parts 8 2 i l) ∙ high (from_bytes (bytes_at (10 * i) 8 l)) 16 (number_lt (10 * i + 8) l h 2)
