-- The bytes of shares that lie in bytes are those bytes, and the shares that lie in the bytes of shares are those shares.
use mathlib.Core.Path.{◌≡◌, sym, ap, ap₂, ◌∙◌}
use mathlib.Core.List.{List, ◌∷◌, ◌++◌, append-nil}
use Prim.Native.Nat.{ℕ, zero, suc, ◌+◌, ◌*◌, ◌^◌, ◌≤◌, ◌<◌}
use native.Mathlib.Nat.{not-suc-le-zero, le_of_suc-le-suc, zero-add, suc-add, add_assoc, add-zero, mul-zero, mul-suc}
use native.Mathlib.Decide.{dec_lt}
use native.Mathlib.Omega.{arith}
use lib.ListN.{length, get_or, take, drop_of_length-le, get_or-eq_default, get_or-append}
use lib.Seq.{ext_get_or, length-take-le, get_or-take, get_or-append-add, take-length, paste}
use Rattle.xor.specs.Sum.{Small}
use Rattle.steps.specs.Fill.{tabulate}
use Rattle.steps.proofs.Fill.{length_tabulate, get_d_tabulate, tabulate_same, tabulate_get_or}
use Rattle.steps.specs.Bytes.{from_bytes, to_bytes}
use Rattle.steps.proofs.Bytes.{length_to_bytes, from_to_bytes, to_from_bytes}
use Rattle.steps.specs.ShareBytes.{bytes_at, share_at, shares_of, bytes_of}

tabulate_append : {B : Type 0} (m n : ℕ) (f : ℕ → B) → tabulate (m + n) f ≡ tabulate m f ++ tabulate n (λ j. f (m + j))
unfolding tabulate
tabulate_append zero n f = rw (zero-add n) (tabulate_same n f (λ j. f (0 + j)) (λ j h. ap f (sym (zero-add j))))
tabulate_append {B} (suc m) n f =
    rw (suc-add m n)
    (ap (λ (l : List B). f 0 ∷ l)
    (tabulate_append m n (λ i. f (suc i))
    ∙ ap (λ (l : List B). tabulate m (λ i. f (suc i)) ++ l)
    (tabulate_same n (λ j. f (suc (m + j))) (λ j. f (suc m + j)) (λ j h. ap f (sym (suc-add m j))))))

module _ (w : ℕ) (l : List ℕ) (small : Small 8 l) where
  bytes_small : (at : ℕ) → Small 8 (bytes_at at w l)
  unfolding bytes_at
  bytes_small at i = elim (dec_lt i w) [
    | yes h ↦ rw (get_d_tabulate w (λ j. get_or l (at + j) 0) i 0 h) (small (at + i))
    | no h ↦
        rw (get_or-eq_default (tabulate w (λ j. get_or l (at + j) 0)) 0 {n = i} (omega (arith, length_tabulate w (λ j. get_or l (at + j) 0))))
        (omega arith)
  ]

  -- the bytes of the number that w bytes are
  same_again : (at : ℕ) → to_bytes w (from_bytes (bytes_at at w l)) ≡ bytes_at at w l
  unfolding bytes_at
  same_again at = rw (length_tabulate w (λ j. get_or l (at + j) 0)) at (to_from_bytes (bytes_at at w l) (bytes_small at))

  bytes_from : (s at : ℕ) → bytes_of w (tabulate s (λ i. from_bytes (bytes_at (at + w * i) w l))) ≡ bytes_at at (w * s) l
  unfolding bytes_of tabulate bytes_at
  bytes_from zero at = rw (mul-zero w)
  bytes_from (suc s) at =
      let first : to_bytes w (from_bytes (bytes_at (at + w * 0) w l)) ≡ bytes_at at w l =
      ap (λ (p : ℕ). to_bytes w (from_bytes (bytes_at p w l))) (ap (λ (n : ℕ). at + n) (mul-zero w) ∙ add-zero at) ∙ same_again at in
      let place : (i : ℕ) → at + w * suc i ≡ at + w + w * i = λ i. omega (arith, mul-suc w i) in
      let rest : bytes_of w (tabulate s (λ i. from_bytes (bytes_at (at + w * suc i) w l))) ≡ bytes_at (at + w) (w * s) l =
      ap (bytes_of w)
      (tabulate_same s (λ i. from_bytes (bytes_at (at + w * suc i) w l)) (λ i. from_bytes (bytes_at (at + w + w * i) w l))
      (λ i h. ap (λ (p : ℕ). from_bytes (bytes_at p w l)) (place i)))
      ∙ bytes_from s (at + w) in
      let size : w * suc s ≡ w + w * s = omega (arith, mul-suc w s) in
      ap₂ (λ (x y : List ℕ). x ++ y) first rest
      ∙ sym (ap (λ (n : ℕ). bytes_at at n l) size
      ∙ tabulate_append w (w * s) (λ j. get_or l (at + j) 0)
      ∙ ap (λ (y : List ℕ). bytes_at at w l ++ y)
      (tabulate_same (w * s) (λ j. get_or l (at + (w + j)) 0) (λ j. get_or l (at + w + j) 0) (λ j h. ap (λ (p : ℕ). get_or l p 0) (sym (add_assoc at w j)))))

  pub bytes_of_shares : (s : ℕ) → w * s ≤ length l → bytes_of w (shares_of w s l) ≡ take (w * s) l
  unfolding shares_of share_at bytes_at
  bytes_of_shares s h =
      let f : ℕ → ℕ = λ i. from_bytes (bytes_at (0 + w * i) w l) in
      let first : ℕ → ℕ = λ j. get_or l (0 + j) 0 in
      ap (bytes_of w) (tabulate_same s (share_at w l) f (λ i k. ap (λ (p : ℕ). from_bytes (bytes_at p w l)) (sym (zero-add (w * i)))))
      ∙ bytes_from s 0
      ∙ ext_get_or 0 (tabulate (w * s) first) (take (w * s) l)
      (length_tabulate (w * s) first ∙ sym (length-take-le (w * s) l h))
      (λ i k. let g : i < w * s = omega (arith, length_tabulate (w * s) first) in
      get_d_tabulate (w * s) first i 0 g ∙ ap (λ (p : ℕ). get_or l p 0) (zero-add i) ∙ sym (get_or-take (w * s) l i 0 g))

-- ---- the shares that lie in the bytes of shares are those shares

-- the first share
share_first : (w x : ℕ) (l : List ℕ) → x < 2 ^ (8 * w) → share_at w (to_bytes w x ++ l) 0 ≡ x
unfolding share_at bytes_at
share_first w x l h =
    let size = length_to_bytes w x in
    ap from_bytes
    (tabulate_same w (λ j. get_or (to_bytes w x ++ l) (w * 0 + j) 0) (λ j. get_or (to_bytes w x) j 0)
    (λ j k. let e : w * 0 + j ≡ j = omega (arith, mul-zero w) in
    ap (λ (p : ℕ). get_or (to_bytes w x ++ l) p 0) e ∙ get_or-append (to_bytes w x) l 0 j (omega arith))
    ∙ ap (λ (n : ℕ). tabulate n (λ j. get_or (to_bytes w x) j 0)) (sym size)
    ∙ tabulate_get_or (to_bytes w x) 0)
    ∙ from_to_bytes w x h

-- the shares after it
share_later : (w x i : ℕ) (l : List ℕ) → share_at w (to_bytes w x ++ l) (suc i) ≡ share_at w l i
unfolding share_at bytes_at
share_later w x i l =
    let size = length_to_bytes w x in
    ap from_bytes
    (tabulate_same w (λ j. get_or (to_bytes w x ++ l) (w * suc i + j) 0) (λ j. get_or l (w * i + j) 0)
    (λ j k. let e : w * suc i + j ≡ length (to_bytes w x) + (w * i + j) = omega (arith, mul-suc w i) in
    ap (λ (p : ℕ). get_or (to_bytes w x ++ l) p 0) e ∙ get_or-append-add (to_bytes w x) l (w * i + j) 0))

share_bytes : (w s : ℕ) (f : ℕ → ℕ) → ((i : ℕ) → f i < 2 ^ (8 * w)) → (i : ℕ) → i < s → share_at w (bytes_of w (tabulate s f)) i ≡ f i
unfolding tabulate bytes_of
share_bytes w zero f h i k = absurd (not-suc-le-zero k)
share_bytes w (suc s) f h zero k = share_first w (f 0) (bytes_of w (tabulate s (λ i. f (suc i)))) (h 0)
share_bytes w (suc s) f h (suc i) k =
    share_later w (f 0) i (bytes_of w (tabulate s (λ i. f (suc i)))) ∙ share_bytes w s (λ i. f (suc i)) (λ i. h (suc i)) i (le_of_suc-le-suc k)

pub shares_of_bytes : (w s : ℕ) (f : ℕ → ℕ) → ((i : ℕ) → f i < 2 ^ (8 * w)) → shares_of w s (bytes_of w (tabulate s f)) ≡ tabulate s f
unfolding shares_of
shares_of_bytes w s f h = tabulate_same s (share_at w (bytes_of w (tabulate s f))) f (share_bytes w s f h)

-- what is copied to the whole of a buffer
pub pasted_whole : (d s : List ℕ) → length d ≡ length s → paste d 0 s (length s) ≡ s
pasted_whole d s e =
    let h : length d ≤ 0 + length s = omega arith in
    rw (take-length s, drop_of_length-le d h) (append-nil s)
