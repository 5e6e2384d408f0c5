-- A matrix in a memory: rows of w entries, one after the other.
use mathlib.Core.List.{List}
use mathlib.Core.Logic.{◌⊎◌, inl, inr, ⊎_elim}
use mathlib.Core.Path.{◌≡◌, refl, ap, ◌∙◌}
use Prim.Native.Nat.{ℕ, ◌+◌, ◌*◌, ◌≤◌, ◌<◌}
use native.Mathlib.Decide.{ℕ_discrete, dec_lt}
use native.Mathlib.Nat.{le_refl, suc-mul, mul-le-mul_right}
use native.Mathlib.Omega.{arith}
use lib.ListN.{get_or, length, set}
use lib.Seq.{get_or-set_same, get_or-set_other}
use borrow.Rule.Slice.PartMut.{put_mid}
use Rattle.std.proofs.Common.{rules}
use Rattle.std.proofs.lemmas.List.{places}
use Rattle.linear.specs.Buffer.{Overwritten, Written, bytes, in_rows}
use Rattle.linear.specs.Row.{Agree}

pub overwritten_none : (l : List ℕ) (a : ℕ) (v : ℕ → ℕ) → Overwritten l l a 0 v
overwritten_none l a v = record { new = λ j h. absurd (omega arith); low = λ j h. refl; high = λ j h. refl }

-- one more byte is written
pub overwritten_more : {f₀ : ℕ → ℕ} {a k : ℕ} {v : ℕ → ℕ} (l : List ℕ) → Written f₀ (bytes l) a k v → a + k < length l → (x : ℕ) → x ≡ v k
    → Written f₀ (bytes (set l (a + k) x)) a (k + 1) v
overwritten_more {f₀} {a} {k} {v} l u b x e = record {
  new = λ j h. elim (ℕ_discrete j k) [
    | yes q ↦ rw q (get_or-set_same l (a + k) x 0 b ∙ e)
    | no n ↦ get_or-set_other l (a + k) (a + j) x 0 (λ z. n (omega arith)) ∙ u.new j (omega arith)
  ];
  low = λ j h. get_or-set_other l (a + k) j x 0 (λ z. omega arith) ∙ u.low j h;
  high = λ j h. get_or-set_other l (a + k) j x 0 (λ z. omega arith) ∙ u.high j (omega arith);
}

-- the same from the start on
pub overwritten_next : {f₀ : ℕ → ℕ} {k : ℕ} {v : ℕ → ℕ} (l : List ℕ) → Written f₀ (bytes l) 0 k v → k < length l → (x : ℕ) → x ≡ v k
    → Written f₀ (bytes (set l k x)) 0 (k + 1) v
overwritten_next {k = k} l u b x e = let z : 0 + k ≡ k = omega arith in rw z at (overwritten_more l u (omega arith) x e)

-- the same values by another name
pub overwritten_values : {f₀ f : ℕ → ℕ} {a k : ℕ} {v v' : ℕ → ℕ} → Written f₀ f a k v → ((j : ℕ) → j < k → v j ≡ v' j) → Written f₀ f a k v'
overwritten_values u h = record { new = λ j b. u.new j b ∙ h j b; low = u.low; high = u.high }

-- what is written from the start on
pub overwritten_first : {f₀ f v : ℕ → ℕ} {k : ℕ} → Written f₀ f 0 k v → Agree k f v
overwritten_first {f = f} u = record { at = λ j h. let e : j ≡ 0 + j = omega arith in ap f e ∙ u.new j h }

-- ---- rows by their number

-- the row i is within the buffer
pub row_room : {i m L : ℕ} (w : ℕ) → i < m → m * w ≤ L → i * w + w ≤ L
row_room {i} w h r = omega (arith, mul-le-mul_right w h, suc-mul i w)

-- two rows are apart
pub rows_apart : (w i j : ℕ) → (i ≡ j → ⊥) → (i * w + w ≤ j * w) ⊎ (j * w + w ≤ i * w)
rows_apart w i j n = elim (dec_lt i j) [
  | yes h ↦ inl (row_room w h (le_refl (j * w)))
  | no g ↦ let h : j < i = omega arith in inr (row_room w h (le_refl (i * w)))
]

-- a row that is written leaves the others as they were
pub overwritten_other : {f₀ f v : ℕ → ℕ} (w i j : ℕ) → Written f₀ f (i * w) w v → (j ≡ i → ⊥) → Agree w (in_rows w f j) (in_rows w f₀ j)
overwritten_other w i j u n =
    record { at = λ k h. ⊎_elim (λ g. u.low (j * w + k) (omega arith)) (λ g. u.high (j * w + k) (omega arith)) (rows_apart w j i n) }

pub overwritten_row : {f₀ f v : ℕ → ℕ} (w i : ℕ) → Written f₀ f (i * w) w v → Agree w (in_rows w f i) v
overwritten_row w i u = record { at = u.new }

-- ---- a part of a buffer

-- the k bytes from a on are lent and written
pub part_written : {v : ℕ → ℕ} (a k : ℕ) (l p : List ℕ) → a + k ≤ length l → length p ≡ k → Agree k (bytes p) v → Overwritten l (put_mid a k l p) a k v
part_written {v} a k l p room e ag = record { new = λ j h. new j h ∙ ag.at j h; low = low; high = high }
  where
    new : (j : ℕ) → j < k → get_or (put_mid a k l p) (a + j) 0 ≡ get_or p j 0
    new j h = search (rules, places)

    low : (j : ℕ) → j < a → get_or (put_mid a k l p) j 0 ≡ get_or l j 0
    low j h = search (rules, places)

    high : (j : ℕ) → a + k ≤ j → get_or (put_mid a k l p) j 0 ≡ get_or l j 0
    high j h = search (rules, places)
