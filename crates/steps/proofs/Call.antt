-- The laws of masked calls, from what they take: that one may run, what its run hands back and writes, and that calls alike answer alike.
use mathlib.Core.Path.{◌≡◌, refl, sym, ap, ◌∙◌}
use mathlib.Core.Bool.{Bool, true}
use mathlib.Core.List.{List, [], ◌∷◌}
use Prim.Native.Nat.{ℕ, suc, ◌^◌, ◌≤◌, ◌<◌}
use borrow.Author.Tests.{eq-eqb, le-leb}
use lib.Dec.{leb}
use lib.ListN.{length, get_or}
use Rattle.refusal.specs.Outcome.{Outcome, done, and_then}
use Rattle.refusal.specs.Large.{first_large}
use Rattle.refusal.specs.Watch.{list_fits, test_steps}
use Rattle.refusal.proofs.Outcome.{passed, then_passed, done_values, then_alike}
use Rattle.refusal.proofs.Large.{all_small, none_large}
use Rattle.steps.specs.declared.counts.Counts.{Counts}
use Rattle.steps.specs.Program.{Run}
use Rattle.steps.specs.Choices.{Fits}
use Rattle.steps.specs.Shape.{Shape, bits_of, steps_of, draws_of, products_of, Shaped}
use Rattle.steps.specs.Recorder.{AllBelow}
use Rattle.steps.specs.Tape.{bytes_for}
use Rattle.steps.specs.Machine.{State, start_of, Ready, Went, Whole}
use Rattle.steps.specs.Call.{Call, tape_of, call_counts, call_outcome, call_result, watch_outcome, watch_output, Takes, figures_of}
use Rattle.steps.proofs.Shape.{shaped_steps, shaped_draws, shaped_products}
use Rattle.steps.proofs.Tape.{elements_enough}
use Rattle.steps.proofs.Exec.{went_watched}
use Rattle.steps.proofs.Parts.{ready_whole}

-- ---- what it takes

-- as its program's shape says
pub takes_shape : {A : Type 0} {P : A → Type 0} {σ : Shape} {m : Run A} {p d k : ℕ} → Shaped P σ m → (tape : List ℕ) → Fits (bits_of σ) tape
    → products_of σ ≡ p → draws_of σ ≡ d → steps_of σ ≡ k → Takes m tape p d k
takes_shape h tape f ep ed ek = record {
  products_are = shaped_products h 0 tape f ∙ ep;
  draws_are = ap length (shaped_draws h tape f) ∙ ed;
  steps_are = shaped_steps h tape f ∙ ek;
}

module _ (c : Call) {p d k : ℕ} (t : Takes c.program (tape_of c) p d k) where
  -- there is room for it
  pub call_ready : {watch vs : List ℕ} → p < 2 ^ 64 → d < 2 ^ 64 → k < 2 ^ 32 → length c.random ≡ bytes_for c.width d
      → length watch ≡ length vs → Ready c.program (start_of (tape_of c) watch vs)
  call_ready fp fd fk e l =
      ready_whole c.program t.products_are t.draws_are t.steps_are fp fd fk (elements_enough c.width c.random d e) l

  -- it hands back its figures
  pub counts_taken : call_counts c ≡ figures_of c p d k
  unfolding call_counts figures_of
  counts_taken = rw (t.products_are, t.draws_are, t.steps_are)

  -- what a watch leaves, where each number of the list is that of a step
  pub call_watched : {list vs x : List ℕ} {s : State} → 0 < k → length list ≡ length vs → length list ≤ first_large k list
      → Went c.program (start_of (tape_of c) list vs) x s → s.values ≡ watch_output c list
  unfolding watch_output
  call_watched {list} some e below w = went_watched w e (rw t.steps_are (all_below list (all_small k list some below)))
    where
      all_below : (l : List ℕ) → ((i : ℕ) → get_or l i 0 < k) → AllBelow k l
      all_below [] h = tt
      all_below (x ∷ l) h = (h 0, all_below l (λ i. h (suc i)))

-- ---- its run

module _ (c : Call) {x : List ℕ} {n : Counts} (w : Whole (tape_of c) c.program x n) where
  pub call_counts_lem : call_counts c ≡ n.products ∷ bytes_for c.width n.random ∷ n.steps ∷ []
  unfolding call_counts
  call_counts_lem = rw (← w.products_are, ← w.draws_are, ← w.steps_are)

  pub call_result_lem : x ≡ call_result c
  unfolding call_result
  call_result_lem = w.result_is

-- ---- what is handed back

-- where its tests are passed the call's counts are these figures
abbrev pub HandsBack : Call → List ℕ → Type 0
HandsBack c figures = (fits : Bool) (v : List ℕ) → c.tests fits ≡ done v → call_counts c ≡ figures

module _ (c : Call) {figures v : List ℕ} (h : HandsBack c figures) where
  -- a call that is done hands back the figures
  pub call_figures : (fits : Bool) → call_outcome c fits ≡ done v → v ≡ figures
  unfolding call_outcome
  call_figures fits e = let a = then_passed (c.tests fits) _ e in done_values (sym a.2) ∙ h fits _ a.1

  -- a watch that is done hands back the same
  pub watch_figures : (list : List ℕ) (values : ℕ) → watch_outcome c list values ≡ done v → v ≡ figures
  unfolding watch_outcome
  watch_figures list values e =
      let fits = list_fits (length list) values in
      let a = then_passed (c.tests fits) _ e in
      let b = passed (leb (length list) (first_large c.total list)) 8 (first_large c.total list) _ a.2 in
      done_values (sym b.1) ∙ h fits _ a.1

-- ---- two calls with the same tests, which hand back the same where they are passed, answer alike

module _ (c c' : Call) {figures : List ℕ} (same : (fits : Bool) → c.tests fits ≡ c'.tests fits)
    (h : HandsBack c figures) (h' : HandsBack c' figures) where
  answers_alike : (fits : Bool) (next : List ℕ → Outcome) → and_then (c.tests fits) (next (call_counts c)) ≡ and_then (c'.tests fits) (next (call_counts c'))
  answers_alike fits next =
      then_alike (c.tests fits) next (call_counts c) (call_counts c') (same fits) (λ v p. h fits v p ∙ sym (h' fits v (sym (same fits) ∙ p)))

  pub call_answers : (fits : Bool) → call_outcome c fits ≡ call_outcome c' fits
  unfolding call_outcome
  call_answers fits = answers_alike fits done

  pub watch_answers : c.total ≡ c'.total → (list : List ℕ) (values : ℕ) → watch_outcome c list values ≡ watch_outcome c' list values
  unfolding watch_outcome
  watch_answers e list values =
      let fits = list_fits (length list) values in
      answers_alike fits (λ l. test_steps c.total list (done l))
      ∙ ap (λ (k : ℕ). and_then (c'.tests fits) (test_steps k list (done (call_counts c')))) e

-- ---- a call is accepted where its tests are passed, and there alone

module _ (c : Call) {v figures : List ℕ} (tests : c.tests true ≡ done v) (h : HandsBack c figures) where
  pub call_accepted : call_outcome c true ≡ done figures
  unfolding call_outcome
  call_accepted = rw tests (ap done (h true v tests))

  -- with any list of up to 64 step numbers
  pub watch_accepted : (list : List ℕ) → length list ≤ 64 → ((k : ℕ) → get_or list k 0 < c.total) → watch_outcome c list (length list) ≡ done figures
  unfolding watch_outcome
  watch_accepted list few below =
      rw (
        eq-eqb (length list) (length list) refl,
        le-leb (length list) 64 few,
        tests,
        le-leb (length list) (first_large c.total list) (none_large c.total list below),
      )
      (ap done (h true v tests))

pub call_passed : (c : Call) (fits : Bool) {v : List ℕ} → call_outcome c fits ≡ done v → (w : List ℕ) × (c.tests fits ≡ done w)
unfolding call_outcome
call_passed c fits e = let a = then_passed (c.tests fits) _ e in (a.0, a.1)

pub watch_passed : (c : Call) (list : List ℕ) (values : ℕ) {v : List ℕ} → watch_outcome c list values ≡ done v
    → (w : List ℕ) × (c.tests (list_fits (length list) values) ≡ done w)
unfolding watch_outcome
watch_passed c list values e = let a = then_passed (c.tests (list_fits (length list) values)) _ e in (a.0, a.1)
