-- The laws of the recorder: what one values step and several leave, and that a whole trace leaves the watched values.
use mathlib.Core.Path.{◌≡◌, refl, sym, ap, ◌∙◌}
use mathlib.Core.Bool.{Bool, true, false, cond, ◌||◌}
use mathlib.Core.List.{List, [], ◌∷◌, ◌++◌, append-nil, append_assoc}
use Prim.Native.Nat.{ℕ, suc, ◌+◌, ◌-◌, ◌≤◌, ◌<◌}
use native.Mathlib.Numerals.{add-one}
use native.Mathlib.Omega.{arith}
use borrow.Author.Tests.{eq-eqb, ne_eqb, eqb-true, eqb-false}
use lib.Dec.{eqb}
use lib.ListN.{length, get_or, take, drop, set, length-set, drop_of_length-le}
use lib.Seq.{drop-cons, take-suc, take-suc-set, drop-set-lt, take_all, set-get_or}
use Rattle.std.specs.List.{fold}
use Rattle.steps.specs.Program.{Entry}
use Rattle.steps.specs.Watch.{values, watched}
use Rattle.steps.specs.Recorder.{seen, observed, AllBelow}

-- ---- one step

-- the values with the places from i on still to be gone through
pub seen_from : List ℕ → ℕ → ℕ → List ℕ → ℕ → List ℕ
seen_from watch k v vs i = take i vs ++ seen (drop i watch) k v (drop i vs)

pub seen_none : (watch : List ℕ) (k v : ℕ) (vs : List ℕ) → seen watch k v vs ≡ seen_from watch k v vs 0
unfolding seen_from
seen_none watch k v vs = refl

pub seen_all : (watch : List ℕ) (k v : ℕ) (vs : List ℕ) (i : ℕ) → length watch ≤ i → length vs ≤ i → seen_from watch k v vs i ≡ vs
unfolding seen_from seen
seen_all watch k v vs i hw hv = rw (drop_of_length-le watch hw, drop_of_length-le vs hv, take_all, append-nil)

module _ (watch : List ℕ) (k v : ℕ) (vs : List ℕ) (i : ℕ) (hw : i < length watch) (hv : i < length vs) where
  -- what is left from place i on
  seen_at : seen (drop i watch) k v (drop i vs) ≡ cond (eqb (get_or watch i 0) k) v (get_or vs i 0) ∷ seen (drop (suc i) watch) k v (drop (suc i) vs)
  unfolding seen
  seen_at = rw (drop-cons watch i 0 hw, drop-cons vs i 0 hv)

  -- place i, where its watched number is this step's and where it is another
  pub seen_match : get_or watch i 0 ≡ k → seen_from watch k v vs i ≡ seen_from watch k v (set vs i v) (i + 1)
  unfolding seen_from
  seen_match e =
      rw (add-one, take-suc-set vs i v hv, drop-set-lt (suc i) vs i v (omega arith), seen_at, eq-eqb (get_or watch i 0) k e, append_assoc)

  pub seen_pass : (get_or watch i 0 ≡ k → ⊥) → seen_from watch k v vs i ≡ seen_from watch k v vs (i + 1)
  unfolding seen_from
  seen_pass e = rw (add-one, take-suc vs i 0 hv, seen_at, ne_eqb (get_or watch i 0) k e, append_assoc)

-- one pass over the list finds whether a place watches the step: a number found stays found
found_stays : (k : ℕ) (watch : List ℕ) → fold (λ any w. any || eqb w k) true watch ≡ true
found_stays k [] = refl
found_stays k (w ∷ watch) = found_stays k watch

-- where none does, the values are as before
pub seen_nowhere : (watch : List ℕ) (k v : ℕ) (vs : List ℕ) → fold (λ any w. any || eqb w k) false watch ≡ false → seen watch k v vs ≡ vs
unfolding seen
seen_nowhere [] k v vs h = refl
seen_nowhere (w ∷ watch) k v [] h = refl
seen_nowhere (w ∷ watch) k v (x ∷ vs) h = go (seen_nowhere watch k v vs) (eqb w k) h
  where
    go : (fold (λ any w. any || eqb w k) false watch ≡ false → seen watch k v vs ≡ vs)
        → (b : Bool) → fold (λ any w. any || eqb w k) b watch ≡ false → (cond b v x ∷ seen watch k v vs) ≡ (x ∷ vs)
    go rest true e = let z : true ≡ false = sym (found_stays k watch) ∙ e in let y : ◌≡◌ {A = ℕ} 0 1 = cc in absurd (omega arith)
    go rest false e = ap (λ (l : List ℕ). x ∷ l) (rest e)

-- what a loop over the places is proved by
pub ruleset places_seen = (seen_none, seen_all, seen_match, seen_pass, length-set, set-get_or)

-- ---- several steps in a row

-- one turn of the loop that records them, and its end
pub observed_turn : (watch : List ℕ) (k : ℕ) (es vs : List ℕ) (i : ℕ) → i < length es
    → observed watch k (drop i es) vs ≡ observed watch (k + 1) (drop (i + 1) es) (seen watch k (get_or es i 0) vs)
unfolding observed
observed_turn watch k es vs i h = rw (add-one i, drop-cons es i 0 h)

pub observed_end : (watch : List ℕ) (k : ℕ) (es vs : List ℕ) (i : ℕ) → length es ≤ i → observed watch k (drop i es) vs ≡ vs
unfolding observed
observed_end watch k es vs i h = rw (drop_of_length-le es h)

-- ---- a whole trace: at each place the value of the step watched there

-- what one place holds after the steps from number k on, where it watches w and held x
held : ℕ → ℕ → List ℕ → ℕ → ℕ
held w k [] x = x
held w k (v ∷ es) x = held w (k + 1) es (cond (eqb w k) v x)

observed_cons : (w : ℕ) (watch : List ℕ) (k : ℕ) (es : List ℕ) (x : ℕ) (vs : List ℕ)
    → observed (w ∷ watch) k es (x ∷ vs) ≡ held w k es x ∷ observed watch k es vs
unfolding observed seen held
observed_cons w watch k [] x vs = refl
observed_cons w watch k (v ∷ es) x vs = observed_cons w watch (k + 1) es (cond (eqb w k) v x) (seen watch k v vs)

observed_nil : (k : ℕ) (es : List ℕ) → observed [] k es [] ≡ []
unfolding observed seen
observed_nil k [] = refl
observed_nil k (v ∷ es) = observed_nil (k + 1) es

-- a place keeps its value once its step has passed
held_past : (w k : ℕ) (es : List ℕ) (x : ℕ) → w < k → held w k es x ≡ x
unfolding held
held_past w k [] x h = refl
held_past w k (v ∷ es) x h = rw (ne_eqb w k (λ e. omega arith)) (held_past w (k + 1) es x (omega arith))

held_at : (w k : ℕ) (es : List ℕ) (x : ℕ) → k ≤ w → w < k + length es → held w k es x ≡ get_or es (w - k) 0
unfolding held
held_at w k [] x h l = absurd (omega arith)
held_at w k (v ∷ es) x h l = go (λ p q. held_at w (k + 1) es x p q) (eqb w k) refl
  where
    go : (k + 1 ≤ w → w < k + 1 + length es → held w (k + 1) es x ≡ get_or es (w - (k + 1)) 0)
        → (b : Bool)
        → eqb w k ≡ b
        → held w (k + 1) es (cond (eqb w k) v x) ≡ get_or (v ∷ es) (w - k) 0
    go ih true e =
        let q : w ≡ k = eqb-true w k e in
        let z : w - k ≡ 0 = omega arith in
        rw (e, z) (held_past w (k + 1) es v (omega arith))
    go ih false e =
        let q : (w ≡ k → ⊥) = eqb-false w k e in
        let z : w - k ≡ suc (w - (k + 1)) = omega arith in
        rw (e, z) (ih (omega arith) (omega arith))

-- the steps of a whole trace, each watched number among them, leave the watched values
pub observed_watched : (watch : List ℕ) (es : List Entry) (vs : List ℕ) → length watch ≡ length vs → AllBelow (length (values es)) watch
    → observed watch 0 (values es) vs ≡ watched watch es
unfolding watched
observed_watched [] es [] h l = observed_nil 0 (values es)
observed_watched [] es (x ∷ vs) h l = absurd (omega arith)
observed_watched (w ∷ watch) es [] h l = absurd (omega arith)
observed_watched (w ∷ watch) es (x ∷ vs) h l =
    let z : w - 0 ≡ w = omega arith in
    observed_cons w watch 0 (values es) x vs
    ∙ rw (held_at w 0 (values es) x (omega arith) (omega arith), z, observed_watched watch es vs (omega arith) l.1)
