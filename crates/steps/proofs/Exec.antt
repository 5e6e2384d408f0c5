-- The laws of the machine: one program after another, what a run leaves as it was, steps that record a list of elements, and a run as a whole.
use mathlib.Core.Path.{◌≡◌, refl, sym, ap, ◌∙◌}
use mathlib.Core.List.{List, [], ◌∷◌}
use Prim.Native.Nat.{ℕ, zero, suc, ◌+◌, ◌≤◌, ◌<◌}
use native.Mathlib.Numerals.{add-one}
use native.Mathlib.Omega.{arith}
use lib.ListN.{length, get_or, drop, length-map}
use lib.Seq.{drop-cons}
use Rattle.steps.specs.declared.counts.Counts.{Counts}
use Rattle.steps.specs.Program.{Run, return, step, draw, mark, ◌>>=◌, first, later, result, trace, draws, products}
use Rattle.steps.specs.Watch.{values, watched}
use Rattle.steps.specs.Recorder.{seen, observed, AllBelow}
use Rattle.steps.specs.Machine.{State, next_of, drawn, recorded, recorded_all, begun, start_of, Ended, exec, Went, After, Whole}
use Rattle.steps.proofs.Recorder.{observed_watched}

-- one program and then another: the second begins where the first has ended
pub exec_bind : {A B : Type 0} (m : Run A) (f : A → Run B) (s : State) → exec (m >>= f) s ≡ exec (f (exec m s).result) (exec m s).state
unfolding exec ◌>>=◌
exec_bind (return a) f s = refl
exec_bind (step t v m) f s = exec_bind m f (recorded v s)
exec_bind (draw b g) f s = exec_bind (g (next_of s)) f (drawn s)
exec_bind (mark m) f s = exec_bind m f (begun s)

-- the same where it is known where each of them ends
pub then_runs : {A B : Type 0} (m : Run A) (f : A → Run B) (s : State) {x : A} {s' : State} {e : Ended B} → exec m s ≡ record { result = x; state = s' }
    → exec (f x) s' ≡ e → exec (m >>= f) s ≡ e
then_runs m f s p q = exec_bind m f s ∙ rw p q

-- a program that only ends
pub return_runs : {A : Type 0} {x y : A} (s : State) → x ≡ y → exec (return y) s ≡ record { result = x; state = s }
unfolding exec
return_runs s e = rw e

-- a masked product begins
pub mark_runs : {A : Type 0} (m : Run A) (s : State) {e : Ended A} → exec m (begun s) ≡ e → exec (mark m) s ≡ e
unfolding exec
mark_runs m s p = p

-- ---- what a run leaves as it was

pub after_first : {s : State} → After s s
after_first =
    record { same_tape = refl; same_watch = refl; same_places = refl; products = omega arith; draws = omega arith; steps = omega arith }

pub after_then : {s s' s'' : State} → After s s' → After s' s'' → After s s''
after_then a b =
    record {
      same_tape = b.same_tape ∙ a.same_tape;
      same_watch = b.same_watch ∙ a.same_watch;
      same_places = b.same_places ∙ a.same_places;
      products = omega (arith, a.products, b.products);
      draws = omega (arith, a.draws, b.draws);
      steps = omega (arith, a.steps, b.steps);
    }

length_seen : (watch : List ℕ) (k v : ℕ) (vs : List ℕ) → length watch ≡ length vs → length (seen watch k v vs) ≡ length vs
unfolding seen
length_seen [] k v vs e = refl
length_seen (w ∷ watch) k v [] e = refl
length_seen (w ∷ watch) k v (x ∷ vs) e = let h = length_seen watch k v vs (omega arith) in omega arith

pub exec_after : {A : Type 0} (m : Run A) (s : State) → length s.watch ≡ length s.values → After s (exec m s).state
unfolding exec
exec_after (return a) s p =
    record { same_tape = refl; same_watch = refl; same_places = refl; products = omega arith; draws = omega arith; steps = omega arith }
exec_after (step t v m) s p =
    let l = length_seen s.watch s.counts.steps v s.values p in
    let h = exec_after m (recorded v s) (p ∙ sym l) in
    record { same_tape = h.same_tape; same_watch = h.same_watch; same_places = h.same_places ∙ l; products = h.products; draws = h.draws; steps = omega (arith, h.steps) }
exec_after (draw b f) s p =
    let h = exec_after (f (next_of s)) (drawn s) p in
    record { same_tape = h.same_tape; same_watch = h.same_watch; same_places = h.same_places; products = h.products; draws = omega (arith, h.draws); steps = h.steps }
exec_after (mark m) s p =
    let h = exec_after m (begun s) p in
    record { same_tape = h.same_tape; same_watch = h.same_watch; same_places = h.same_places; products = omega (arith, h.products); draws = h.draws; steps = h.steps }

-- ---- steps that record a list of elements

pub recorded_next : (xs : List ℕ) (i : ℕ) → i < length xs → (s : State) → recorded_all (drop (i + 1) xs) (recorded (get_or xs i 0) s) ≡ recorded_all (drop i xs) s
unfolding recorded_all
recorded_next xs i h s = rw (drop-cons xs i 0 h, ← add-one i) refl

pub recorded_end : (xs : List ℕ) (i : ℕ) → length xs ≤ i → (s : State) → recorded_all (drop i xs) s ≡ s
unfolding recorded_all
recorded_end [] zero h s = refl
recorded_end [] (suc i) h s = refl
recorded_end (x ∷ xs) zero h s = absurd (omega arith)
recorded_end (x ∷ xs) (suc i) h s = recorded_end xs i (omega arith) s

pub recorded_places : (v : ℕ) (s : State) {s' : State} → s' ≡ recorded v s → length s.watch ≡ length s.values → length s'.watch ≡ length s'.values
recorded_places v s e p = rw e (p ∙ sym (length_seen s.watch s.counts.steps v s.values p))

-- what a loop that records a list is proved by
pub ruleset recordings = (recorded_next, recorded_end, recorded_places)

-- ---- a run as a whole

first_drop : (d : ℕ) (tape : List ℕ) → first (drop d tape) ≡ get_or tape d 0
unfolding first
first_drop zero [] = refl
first_drop zero (r ∷ tape) = refl
first_drop (suc d) [] = refl
first_drop (suc d) (r ∷ tape) = first_drop d tape

later_drop : (d : ℕ) (tape : List ℕ) → later (drop d tape) ≡ drop (suc d) tape
unfolding later
later_drop zero [] = refl
later_drop zero (r ∷ tape) = refl
later_drop (suc d) [] = refl
later_drop (suc d) (r ∷ tape) = later_drop d tape

-- the machine gives the program's result, its numbers of products, draws and steps, and the values that its trace leaves
pub exec_whole : {A : Type 0} (m : Run A) (s : State)
    → exec m s ≡ record {
      result = result m (drop s.counts.random s.tape);
      state = record {
        tape = s.tape;
        watch = s.watch;
        counts = record {
          products = s.counts.products + length (products s.counts.steps m (drop s.counts.random s.tape));
          random = s.counts.random + length (draws m (drop s.counts.random s.tape));
          steps = s.counts.steps + length (trace m (drop s.counts.random s.tape));
        };
        values = observed s.watch s.counts.steps (values (trace m (drop s.counts.random s.tape))) s.values;
      };
    }
unfolding exec result trace draws products observed
exec_whole (return a) s =
    let p : s.counts.products + 0 ≡ s.counts.products = omega arith in
    let d : s.counts.random + 0 ≡ s.counts.random = omega arith in
    let k : s.counts.steps + 0 ≡ s.counts.steps = omega arith in
    rw (p, d, k)
exec_whole (step t v m) s =
    let l = length (trace m (drop s.counts.random s.tape)) in
    let k : s.counts.steps + suc l ≡ s.counts.steps + 1 + l = omega arith in
    exec_whole m (recorded v s) ∙ rw k
exec_whole (draw b f) s =
    let l = length (draws (f (next_of s)) (drop (suc s.counts.random) s.tape)) in
    let d : s.counts.random + suc l ≡ s.counts.random + 1 + l = omega arith in
    exec_whole (f (next_of s)) (drawn s) ∙ rw (first_drop s.counts.random s.tape, later_drop s.counts.random s.tape, d, add-one)
exec_whole (mark m) s =
    let l = length (products s.counts.steps m (drop s.counts.random s.tape)) in
    let p : s.counts.products + suc l ≡ s.counts.products + 1 + l = omega arith in
    exec_whole m (begun s) ∙ rw p

-- where a program has ended, its result
pub went_result : {A : Type 0} (m : Run A) {s s' : State} {x : A} → Went m s x s' → x ≡ result m (drop s.counts.random s.tape)
went_result {A} m {s} w = ap (λ (e : Ended A). e.result) (sym w.runs ∙ exec_whole m s)

-- ---- a run from the start, said of its program

module _ {A : Type 0} {tape watch : List ℕ} {m : Run A} {vs : List ℕ} {x : A} {s : State} where
  -- where it has ended, two ways
  ends : Went m (start_of tape watch vs) x s → record { result = x; state = s } ≡ exec m (start_of tape watch vs)
  ends w = sym w.runs

  pub went_whole : Went m (start_of tape watch vs) x s → Whole tape m x s.counts
  went_whole w =
      let same = ends w ∙ exec_whole m (start_of tape watch vs) in
      let counts = ap (λ (e : Ended A). e.state.counts) same in
      let ps = ap (λ (n : Counts). n.products) counts in
      let ds = ap (λ (n : Counts). n.random) counts in
      let ks = ap (λ (n : Counts). n.steps) counts in
      record { result_is = ap (λ (e : Ended A). e.result) same; products_are = omega (arith, ps); draws_are = omega (arith, ds); steps_are = omega (arith, ks) }

  -- what a run leaves in the values, where each watched number is that of one of its steps
  pub went_watched : Went m (start_of tape watch vs) x s → length watch ≡ length vs → AllBelow (length (trace m tape)) watch
      → s.values ≡ watched watch (trace m tape)
  went_watched w l b =
      let left = ap (λ (e : Ended A). e.state.values) (ends w ∙ exec_whole m (start_of tape watch vs)) in
      let count : length (trace m tape) ≡ length (values (trace m tape)) = rw length-map in
      left ∙ observed_watched watch (trace m tape) vs l (rw count at b)
