-- The first entry that is too large, as a search comes to it, and what follows where there is none.
use mathlib.Core.Path.{◌≡◌, refl, ap₂, sym, ap, ◌∙◌}
use mathlib.Core.Bool.{Bool, true, false, cond, ◌&&◌}
use mathlib.Core.List.{List, [], ◌∷◌, ◌++◌}
use Prim.Native.Nat.{ℕ, zero, suc, ◌≤◌, ◌<◌, ◌+◌}
use native.Mathlib.Nat.{zero-add}
use native.Mathlib.Decide.{dec_lt}
use native.Mathlib.Omega.{arith}
use lib.Dec.{leb, ltb}
use Rattle.std.specs.List.{fold, position_or_len}
use borrow.Author.Tests.{lt-ltb, le-ltb, le-leb, lt-leb}
use Rattle.std.proofs.Math.Dec.{leb-suc-zero, leb-suc-suc}
use Rattle.std.specs.Prelude.{Option, Some, None}
use lib.ListN.{length, get_or, length-append}
use Rattle.refusal.specs.Outcome.{Outcome, refused}
use Rattle.refusal.specs.Large.{first_large, found, LargeAlike, test_below}

-- ---- a search that has come to entry i

-- it ends at an entry that is too large
pub large_found : (bound : ℕ) (l : List ℕ) (i : ℕ) → i < length l → bound ≤ get_or l i 0 → first_large bound l ≤ i
unfolding first_large
large_found bound [] i h g = absurd (omega arith)
large_found bound (x ∷ l) zero h g = rw (le-ltb x bound g) (omega arith)
large_found bound (x ∷ l) (suc i) h g = elim (dec_lt x bound) [
  | yes k ↦ rw (lt-ltb x bound k) (omega (arith, large_found bound l i (omega arith) g))
  | no k ↦ rw (le-ltb x bound (omega arith)) (omega arith)
]

-- and goes past one that is not
pub large_past : (bound : ℕ) (l : List ℕ) (i : ℕ) → i < length l → get_or l i 0 < bound → i ≤ first_large bound l → i < first_large bound l
unfolding first_large
large_past bound [] i h g k = absurd (omega arith)
large_past bound (x ∷ l) zero h g k = rw (lt-ltb x bound g) (omega arith)
large_past bound (x ∷ l) (suc i) h g k = elim (dec_lt x bound) [
  | yes j ↦
      let e : first_large bound (x ∷ l) ≡ suc (first_large bound l) = rw (lt-ltb x bound j) refl in
      omega (arith, e, large_past bound l i (omega arith) g (omega (arith, e)))
  | no j ↦ let e : first_large bound (x ∷ l) ≡ 0 = rw (le-ltb x bound (omega arith)) refl in absurd (omega (arith, e))
]

-- whether all entries before the next are below the bound, by those before i and entry i
module _ (bound : ℕ) (l : List ℕ) (i : ℕ) (h : i < length l) where
  pub reached_found : bound ≤ get_or l i 0 → leb (i + 1) (first_large bound l) ≡ false
  reached_found g = lt-leb (i + 1) (first_large bound l) (omega (arith, large_found bound l i h g))

  pub reached_past : get_or l i 0 < bound → leb (i + 1) (first_large bound l) ≡ leb i (first_large bound l)
  reached_past g = elim (dec_lt (first_large bound l) i) [
    | yes k ↦ lt-leb (i + 1) (first_large bound l) (omega arith) ∙ sym (lt-leb i (first_large bound l) k)
    | no k ↦ le-leb (i + 1) (first_large bound l) (omega (arith, large_past bound l i h g (omega arith))) ∙ sym (le-leb i (first_large bound l) (omega arith))
  ]

-- ---- no such entry

none_cons : (bound x : ℕ) (l : List ℕ) → suc (length l) ≤ first_large bound (x ∷ l) → (x < bound) × (length l ≤ first_large bound l)
unfolding first_large
none_cons bound x l h = elim (dec_lt x bound) [
  | yes g ↦ let z : first_large bound (x ∷ l) ≡ suc (first_large bound l) = rw (lt-ltb x bound g) refl in (g, omega (arith, z))
  | no g ↦ let z : first_large bound (x ∷ l) ≡ 0 = rw (le-ltb x bound (omega arith)) refl in absurd (omega (arith, z))
]

-- all entries are below the bound, and so is what is read past the end
pub all_small : (bound : ℕ) (l : List ℕ) → 0 < bound → length l ≤ first_large bound l → (k : ℕ) → get_or l k 0 < bound
all_small bound [] p h k = p
all_small bound (x ∷ l) p h zero = (none_cons bound x l h).0
all_small bound (x ∷ l) p h (suc k) = all_small bound l p (none_cons bound x l h).1 k

-- ---- two lists of one length whose entries that are too large are at the same places

pub large_same : (bound : ℕ) (l m : List ℕ) → length l ≡ length m → LargeAlike bound l m → first_large bound l ≡ first_large bound m
unfolding first_large
large_same bound [] [] e h = refl
large_same bound [] (y ∷ m) e h = absurd (omega arith)
large_same bound (x ∷ l) [] e h = absurd (omega arith)
large_same bound (x ∷ l) (y ∷ m) e h =
    ap₂ (λ (b : Bool) (k : ℕ). cond b (suc k) 0) (h 0) (large_same bound l m (omega arith) (λ i. h (suc i)))

-- the same of two lists, one after the other
pub alike_append : (bound : ℕ) (l l' m m' : List ℕ) → length l ≡ length l' → LargeAlike bound l l' → LargeAlike bound m m'
    → LargeAlike bound (l ++ m) (l' ++ m')
alike_append bound [] [] m m' e h g i = g i
alike_append bound [] (y ∷ l') m m' e h g i = absurd (omega arith)
alike_append bound (x ∷ l) [] m m' e h g i = absurd (omega arith)
alike_append bound (x ∷ l) (y ∷ l') m m' e h g zero = h 0
alike_append bound (x ∷ l) (y ∷ l') m m' e h g (suc i) = alike_append bound l l' m m' (omega arith) (λ j. h (suc j)) g i

-- ---- the first entry that is too large in two lists

pub large_within : (bound : ℕ) (l : List ℕ) → first_large bound l ≤ length l
unfolding first_large
large_within bound [] = omega arith
large_within bound (x ∷ l) = elim (dec_lt x bound) [
  | yes g ↦ rw (lt-ltb x bound g) (omega (arith, large_within bound l))
  | no g ↦ rw (le-ltb x bound (omega arith)) (omega arith)
]

pub large_first : (bound : ℕ) (l m : List ℕ) → first_large bound l < length l → first_large bound (l ++ m) ≡ first_large bound l
unfolding first_large
large_first bound [] m h = absurd (omega arith)
large_first bound (x ∷ l) m h = elim (dec_lt x bound) [
  | yes g ↦
      let e : first_large bound (x ∷ l) ≡ suc (first_large bound l) = rw (lt-ltb x bound g) refl in
      rw (lt-ltb x bound g) (ap suc (large_first bound l m (omega (arith, e))))
  | no g ↦ rw (le-ltb x bound (omega arith)) refl
]

pub large_second : (bound : ℕ) (l m : List ℕ) → length l ≤ first_large bound l → first_large bound (l ++ m) ≡ first_large bound l + first_large bound m
unfolding first_large
large_second bound [] m h = sym (zero-add (first_large bound m))
large_second bound (x ∷ l) m h = elim (dec_lt x bound) [
  | yes g ↦
      let e : first_large bound (x ∷ l) ≡ suc (first_large bound l) = rw (lt-ltb x bound g) refl in
      rw (lt-ltb x bound g) (omega (arith, large_second bound l m (omega (arith, e))))
  | no g ↦ let e : first_large bound (x ∷ l) ≡ 0 = rw (le-ltb x bound (omega arith)) refl in absurd (omega (arith, e))
]

-- where all entries are small, there is none
pub none_large : (bound : ℕ) (l : List ℕ) → ((k : ℕ) → get_or l k 0 < bound) → length l ≤ first_large bound l
unfolding first_large
none_large bound [] h = omega arith
none_large bound (x ∷ l) h = rw (lt-ltb x bound (h 0)) (omega (arith, none_large bound l (λ k. h (suc k))))

-- ---- the test of entries

pub below_fails : (bound a : ℕ) (l : List ℕ) (next : Outcome) → first_large bound l < length l
    → test_below bound a l next ≡ refused 3 (a + first_large bound l)
below_fails bound a l next h = rw (lt-leb (length l) (first_large bound l) h) refl

pub below_passes : (bound a : ℕ) (l : List ℕ) (next : Outcome) → length l ≤ first_large bound l → test_below bound a l next ≡ next
below_passes bound a l next h = rw (le-leb (length l) (first_large bound l) h) refl

module _ (bound : ℕ) (l m : List ℕ) (next : Outcome) where
  pub first_fails : first_large bound l < length l → test_below bound 0 (l ++ m) next ≡ refused 3 (first_large bound l)
  first_fails h =
      let e = large_first bound l m h in
      below_fails bound 0 (l ++ m) next (omega (arith, e, length-append l m)) ∙ ap (refused 3) (zero-add (first_large bound (l ++ m)) ∙ e)

  pub second_fails : length l ≤ first_large bound l → first_large bound m < length m
      → test_below bound 0 (l ++ m) next ≡ refused 3 (first_large bound l + first_large bound m)
  second_fails g h =
      let e = large_second bound l m g in
      below_fails bound 0 (l ++ m) next (omega (arith, e, length-append l m, large_within bound l))
      ∙ ap (refused 3) (zero-add (first_large bound (l ++ m)) ∙ e)

  pub both_pass : length l ≤ first_large bound l → length m ≤ first_large bound m → test_below bound 0 (l ++ m) next ≡ next
  both_pass g h = below_passes bound 0 (l ++ m) next (omega (arith, large_second bound l m g, length-append l m))

-- where no entry of two lists is too large, none of either is
pub both_small : (bound : ℕ) (l m : List ℕ) → length (l ++ m) ≤ first_large bound (l ++ m)
    → (length l ≤ first_large bound l) × (length m ≤ first_large bound m)
both_small bound l m h = elim (dec_lt (first_large bound l) (length l)) [
  | yes g ↦ absurd (omega (arith, large_first bound l m g, length-append l m))
  | no g ↦
      let e : length l ≤ first_large bound l = omega arith in
      (e, omega (arith, large_second bound l m e, length-append l m, large_within bound l))
]

-- ---- the search by the library's methods

-- the place that `position` comes to is that of the first entry that is too large
pub large_position : (bound : ℕ) (l : List ℕ) → position_or_len (leb bound) l ≡ first_large bound l
unfolding first_large
large_position bound [] = refl
large_position bound (x ∷ l) = elim (dec_lt x bound) [
  | yes g ↦ rw (lt-ltb x bound g, lt-leb bound x g, large_position bound l) (omega arith)
  | no g ↦ rw (le-ltb x bound (omega arith), le-leb bound x (omega arith))
]

-- one pass over the entries keeps whether all so far are below the bound
none_in : (bound : ℕ) (l : List ℕ) → fold (λ all x. all && ltb x bound) false l ≡ false
none_in bound [] = refl
none_in bound (x ∷ l) = none_in bound l

pub all_below : (bound : ℕ) (l : List ℕ) → fold (λ all x. all && ltb x bound) true l ≡ leb (length l) (first_large bound l)
unfolding first_large
all_below bound [] = refl
all_below bound (x ∷ l) = elim (dec_lt x bound) [
  | yes g ↦ rw (lt-ltb x bound g, leb-suc-suc (length l) (first_large bound l)) (all_below bound l)
  | no g ↦ rw (le-ltb x bound (omega arith), none_in bound l, leb-suc-zero (length l))
]

-- the place that is found where there is one, and where there is none
pub found_one : {place none : ℕ} → place < none → found place none ≡ Some place
found_one {place} {none} h = rw (lt-ltb place none h)

pub found_none : {place none : ℕ} → none ≤ place → found place none ≡ None
found_none {place} {none} h = rw (le-ltb place none h)

-- and back
pub found_some : {place none at : ℕ} → found place none ≡ Some at → (place < none) × (place ≡ at)
found_some {place} {none} {at} h = elim (dec_lt place none) [
  | yes l ↦ let e : ◌≡◌ {A = Option ℕ} (Some place) (Some at) = sym (found_one l) ∙ h in (l, cc)
  | no l ↦ let e : ◌≡◌ {A = Option ℕ} None (Some at) = sym (found_none (omega arith)) ∙ h in let z : ◌≡◌ {A = ℕ} 0 1 = cc in absurd (omega arith)
]

pub found_nothing : {place none : ℕ} → found place none ≡ None → none ≤ place
found_nothing {place} {none} h = elim (dec_lt place none) [
  | yes l ↦ let e : ◌≡◌ {A = Option ℕ} (Some place) None = sym (found_one l) ∙ h in let z : ◌≡◌ {A = ℕ} 0 1 = cc in absurd (omega arith)
  | no l ↦ omega arith
]
