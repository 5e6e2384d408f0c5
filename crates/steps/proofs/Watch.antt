-- The laws of watching: what shows where a share is not touched, and that few steps leave a share untouched.
use mathlib.Core.Path.{◌≡◌, refl, sym, ap₂, ◌∙◌, subst}
use mathlib.Core.Logic.{◌≢◌}
use mathlib.Core.List.{List, [], ◌∷◌, ◌++◌, map}
use mathlib.Core.Bool.{Bool, true, false, not, ◌||◌, cond}
use Prim.Native.Nat.{ℕ, zero, suc, ◌+◌, ◌*◌, ◌≤◌, ◌<◌}
use native.Mathlib.Omega.{arith}
use lib.Dec.{T, eqb, eqb→eq}
use lib.ListN.{length, get_or}
use Rattle.steps.specs.Program.{Touch, one, two, Entry}
use Rattle.steps.specs.Watch.{values, watched, member, different, touches, step_touches, Misses, misses_nil, misses_cons}
use Rattle.steps.proofs.Tests.{nor, nor_left, nor_right, told_apart}

-- ---- what shows without the steps that touch share u

-- an element, or 0 where a test passes
unfoldable pub unless : Bool → ℕ → ℕ
unless true v = 0
unless false v = v

-- the steps, with 0 for the elements of those that touch share u
unfoldable pub visible : ℕ → List Entry → List Entry
visible u [] = []
visible u (e ∷ entries) = record { touch = e.touch; value = unless (touches u e.touch) e.value } ∷ visible u entries

pub unless_same : (b : Bool) (v w : ℕ) → (T (not b) → v ≡ w) → unless b v ≡ unless b w
unfolding unless
unless_same true v w h = refl
unless_same false v w h = h tt

visible_at : (u : ℕ) (entries : List Entry) (k : ℕ) → T (not (step_touches u (map (λ (e : Entry). e.touch) entries) k))
    → get_or (values entries) k 0 ≡ get_or (values (visible u entries)) k 0
unfolding visible unless
visible_at u [] k h = refl
visible_at u (e ∷ entries) zero h = go (touches u e.touch) h
  where
    go : (b : Bool) → T (not b) → e.value ≡ unless b e.value
    go true h = absurd h
    go false h = refl
visible_at u (e ∷ entries) (suc k) h = visible_at u entries k h

-- a list that misses share u shows the same without the steps that touch u
pub watched_visible : {u : ℕ} {shares : List Touch} {list : List ℕ} → Misses u shares list → (entries : List Entry)
    → map (λ (e : Entry). e.touch) entries ≡ shares → watched list entries ≡ watched list (visible u entries)
unfolding watched
watched_visible misses_nil entries e = refl
watched_visible {u} (misses_cons {k} h m) entries e =
    ap₂ (λ (v : ℕ) (l : List ℕ). v ∷ l)
    (visible_at u entries k (subst (λ (ts : List Touch). T (not (step_touches u ts k))) (sym e) h)) (watched_visible m entries e)

-- ---- a list shorter than s lacks a number below s

-- the list without x
remove : ℕ → List ℕ → List ℕ
remove x [] = []
remove x (y ∷ l) = cond (eqb x y) (remove x l) (y ∷ remove x l)

remove_le : (x : ℕ) (l : List ℕ) → length (remove x l) ≤ length l
unfolding remove
remove_le x [] = omega arith
remove_le x (y ∷ l) = go (eqb x y) (remove_le x l)
  where
    go : (b : Bool) → length (remove x l) ≤ length l → length (cond b (remove x l) (y ∷ remove x l)) ≤ suc (length l)
    go true h = omega arith
    go false h = omega arith

remove_lt : (x : ℕ) (l : List ℕ) → T (member x l) → length (remove x l) < length l
unfolding remove member
remove_lt x [] t = absurd t
remove_lt x (y ∷ l) t = go (eqb x y) (remove_lt x l) (remove_le x l) t
  where
    go : (b : Bool) → (T (member x l) → length (remove x l) < length l) → length (remove x l) ≤ length l → T (b || member x l)
        → length (cond b (remove x l) (y ∷ remove x l)) < suc (length l)
    go true f h t = omega arith
    go false f h t = let g = f t in omega arith

-- what is not in the list without x, and is not x, is not in the list
remove_other : (x u : ℕ) (l : List ℕ) → u ≢ x → T (not (member u (remove x l))) → T (not (member u l))
unfolding remove member
remove_other x u [] f t = tt
remove_other x u (y ∷ l) f t = go (eqb x y) (eqb→eq x y) (remove_other x u l f) t
  where
    go : (b : Bool) → (T b → x ≡ y) → (T (not (member u (remove x l))) → T (not (member u l)))
        → T (not (member u (cond b (remove x l) (y ∷ remove x l)))) → T (not (eqb u y || member u l))
    go true p h t = nor (eqb u y) (member u l) (told_apart u y (λ e. f (e ∙ sym (p tt)))) (h t)
    go false p h t = nor (eqb u y) (member u l) (nor_left (eqb u y) (member u (remove x l)) t) (h (nor_right (eqb u y) (member u (remove x l)) t))

pub lacks : (s : ℕ) (l : List ℕ) → length l < s → (u : ℕ) × (u < s) × T (not (member u l))
lacks zero l h = absurd (omega arith)
lacks (suc s) l h = go (member s l) refl (lacks s (remove s l))
  where
    go : (b : Bool) → member s l ≡ b → (length (remove s l) < s → (u : ℕ) × (u < s) × T (not (member u (remove s l))))
        → (u : ℕ) × (u < suc s) × T (not (member u l))
    go false e f = (s, omega arith, subst (λ (b : Bool). T (not b)) (sym e) tt)
    go true e f =
        let shorter = remove_lt s l (subst T (sym e) tt) in
        let r = f (omega arith) in
        let below = r.1 in
        (r.0, omega arith, remove_other s r.0 l (λ p. omega arith) r.2)

-- ---- few steps miss a share

-- the shares of a step, as a list
shares_of : Touch → List ℕ
shares_of (one i) = i ∷ []
shares_of (two i j) = i ∷ j ∷ []

-- the shares that the steps of a list touch; those of a step that comes again, once
touched : List Touch → List ℕ → List ℕ
touched shares [] = []
touched shares (k ∷ list) = cond (member k list) (touched shares list) (get_or (map shares_of shares) k [] ++ touched shares list)

touched_few : (shares : List Touch) (list : List ℕ) → length (touched shares list) ≤ 2 * different list
unfolding touched different shares_of
touched_few shares [] = omega arith
touched_few shares (k ∷ list) = go (member k list) (touched_few shares list)
  where
    two_more : (shares : List Touch) (k : ℕ) (l : List ℕ) → length (get_or (map shares_of shares) k [] ++ l) ≤ 2 + length l
    two_more [] k l = omega arith
    two_more (one i ∷ shares) zero l = omega arith
    two_more (two i j ∷ shares) zero l = omega arith
    two_more (t ∷ shares) (suc k) l = two_more shares k l

    go : (b : Bool) → length (touched shares list) ≤ 2 * different list
        → length (cond b (touched shares list) (get_or (map shares_of shares) k [] ++ touched shares list))
        ≤ 2 * cond b (different list) (suc (different list))
    go true h = h
    go false h = let m = two_more shares k (touched shares list) in omega arith

-- a step that is in the list misses u with it
misses_member : {u : ℕ} {shares : List Touch} {list : List ℕ} → Misses u shares list → (k : ℕ) → T (member k list) → T (not (step_touches u shares k))
unfolding member
misses_member misses_nil k t = absurd t
misses_member {u} {shares} (misses_cons {k = j} {list} h m) k t = go (eqb k j) (eqb→eq k j) (misses_member m k) t
  where
    go : (b : Bool) → (T b → k ≡ j) → (T (member k list) → T (not (step_touches u shares k))) → T (b || member k list)
        → T (not (step_touches u shares k))
    go true p f t = subst (λ (x : ℕ). T (not (step_touches u shares x))) (sym (p tt)) h
    go false p f t = f t

-- a share that is not among those touched is missed
misses_of : (u : ℕ) (shares : List Touch) (list : List ℕ) → T (not (member u (touched shares list))) → Misses u shares list
unfolding touched member shares_of touches
misses_of u shares [] h = misses_nil
misses_of u shares (k ∷ list) h = go (member k list) refl (misses_of u shares list) h
  where
    apart : (shares : List Touch) (k : ℕ) (l : List ℕ) → T (not (member u (get_or (map shares_of shares) k [] ++ l)))
        → T (not (step_touches u shares k)) × T (not (member u l))
    apart [] k l h = (tt, h)
    apart (one i ∷ shares) zero l h = (nor_left (eqb u i) (member u l) h, nor_right (eqb u i) (member u l) h)
    apart (two i j ∷ shares) zero l h =
        let r = nor_right (eqb u i) (eqb u j || member u l) h in (
          nor (eqb u i) (eqb u j) (nor_left (eqb u i) (eqb u j || member u l) h) (nor_left (eqb u j) (member u l) r),
          nor_right (eqb u j) (member u l) r,
        )
    apart (t ∷ shares) (suc k) l h = apart shares k l h

    go : (b : Bool) → member k list ≡ b → (T (not (member u (touched shares list))) → Misses u shares list)
        → T (not (member u (cond b (touched shares list) (get_or (map shares_of shares) k [] ++ touched shares list)))) → Misses u shares (k ∷ list)
    go true e f h = misses_cons (misses_member (f h) k (subst T (sym e) tt)) (f h)
    go false e f h = let p = apart shares k (touched shares list) h in misses_cons p.0 (f p.1)

-- of 2 t + 1 shares or more, t different steps miss one
pub few_miss : (s t : ℕ) (shares : List Touch) (list : List ℕ) → 2 * t + 1 ≤ s → different list ≤ t → (u : ℕ) × (u < s) × Misses u shares list
few_miss s t shares list h d =
    let few = touched_few shares list in
    let r = lacks s (touched shares list) (omega arith) in
    (r.0, r.1, misses_of r.0 shares list r.2)
