-- The parts of a run: one after another, and the whole.
use mathlib.Core.Path.{◌≡◌, refl, ap, ◌∙◌}
use mathlib.Core.List.{List}
use Prim.Native.Nat.{ℕ, ◌+◌, ◌^◌, ◌≤◌, ◌<◌}
use native.Mathlib.Omega.{arith}
use lib.ListN.{length}
use Rattle.steps.specs.declared.counts.Counts.{Counts}
use Rattle.steps.specs.Program.{Run, return, mark, ◌>>=◌, trace, draws, products}
use Rattle.steps.specs.Machine.{State, begun, start_of, Ended, exec, Ready, Went, After}
use Rattle.steps.proofs.Exec.{exec_bind, exec_after, exec_whole}

module _ {s : State} where
  -- both parts have run
  pub went_then : {A B : Type 0} {m : Run A} (f : A → Run B) {x : A} {s' : State} {y : B} {s'' : State}
      → Went m s x s' → Went (f x) s' y s'' → Went (m >>= f) s y s''
  went_then {m = m} f w w' = record { runs = exec_bind m f s ∙ rw (w.runs, w'.runs) }

  -- a part whose result is taken on without a step
  pub went_map : {A B : Type 0} {m : Run A} (g : A → B) {x : A} {s' : State} → Went m s x s' → Went (m >>= (λ a. return (g a))) s (g x) s'
  unfolding exec
  went_map {m = m} g w = record { runs = exec_bind m (λ a. return (g a)) s ∙ rw w.runs }

  -- a masked product begins
  pub went_mark : {A : Type 0} {m : Run A} {x : A} {s' : State} → Went m (begun s) x s' → Went (mark m) s x s'
  unfolding exec
  went_mark w = record { runs = w.runs }

  pub ready_mark : {A : Type 0} (m : Run A) → Ready (mark m) s → Ready m (begun s)
  unfolding exec
  ready_mark m y =
      record { products_fit = y.products_fit; draws_fit = y.draws_fit; steps_fit = y.steps_fit; enough = y.enough; places = y.places }

  -- the counts so far fit
  pub ready_products : {A : Type 0} (m : Run A) → Ready m s → s.counts.products < 2 ^ 64
  ready_products m y = let g = exec_after m s y.places in omega (arith, y.products_fit, g.products)

  -- the first part may run
  pub ready_first : {A B : Type 0} (m : Run A) (f : A → Run B) → Ready (m >>= f) s → Ready m s
  ready_first m f y =
      let a = exec_after m s y.places in
      let places : length (exec m s).state.watch ≡ length (exec m s).state.values = omega (arith, y.places, a.same_places, ap length a.same_watch) in
      let g = exec_after (f (exec m s).result) (exec m s).state places in
      let b = exec_bind m f s in
      let p = rw b at y.products_fit in
      let d = rw b at y.draws_fit in
      let k = rw b at y.steps_fit in
      let t = rw b at y.enough in
      record {
        products_fit = omega (arith, p, g.products);
        draws_fit = omega (arith, d, g.draws);
        steps_fit = omega (arith, k, g.steps);
        enough = omega (arith, t, g.draws);
        places = y.places;
      }

  -- two programs that end at one place
  pub ready_runs : {A : Type 0} {m m' : Run A} {s' : State} → Ready m s → exec m s ≡ exec m' s' → After s s' → Ready m' s'
  ready_runs y e a =
      record {
        products_fit = rw e at y.products_fit;
        draws_fit = rw e at y.draws_fit;
        steps_fit = rw e at y.steps_fit;
        enough = rw (e, ← a.same_tape) at y.enough;
        places = omega (arith, y.places, a.same_places, ap length a.same_watch);
      }

  -- the first part has run, and the next may
  pub ready_next : {A B : Type 0} {m : Run A} (f : A → Run B) {x : A} {s' : State} → Ready (m >>= f) s → Went m s x s' → Ready (f x) s'
  ready_next {m = m} f {x} {s'} y w =
      let a : After s s' = rw (ap (λ (e : Ended _). e.state) w.runs) at (exec_after m s y.places) in
      ready_runs y (exec_bind m f s ∙ rw w.runs refl) a

  -- where a part has run
  pub went_after : {A : Type 0} {m : Run A} {x : A} {s' : State} → Ready m s → Went m s x s' → After s s'
  went_after {m = m} y w = rw (ap (λ (e : Ended _). e.state) w.runs) at (exec_after m s y.places)

-- a run from the start may go on to its end, if there is room for what it takes
pub ready_whole : {A : Type 0} {tape watch : List ℕ} (m : Run A) {vs : List ℕ} {p d k : ℕ}
    → length (products 0 m tape) ≡ p → length (draws m tape) ≡ d → length (trace m tape) ≡ k
    → p < 2 ^ 64 → d < 2 ^ 64 → k < 2 ^ 32 → d ≤ length tape → length watch ≡ length vs → Ready m (start_of tape watch vs)
ready_whole {tape = tape} {watch = watch} m {vs} ep ed ek fp fd fk enough places =
    let e = ap (λ (x : Ended _). x.state.counts) (exec_whole m (start_of tape watch vs)) in
    let cp : (exec m (start_of tape watch vs)).state.counts.products ≡ 0 + length (products 0 m tape) = ap (λ (c : Counts). c.products) e in
    let cd : (exec m (start_of tape watch vs)).state.counts.random ≡ 0 + length (draws m tape) = ap (λ (c : Counts). c.random) e in
    let ck : (exec m (start_of tape watch vs)).state.counts.steps ≡ 0 + length (trace m tape) = ap (λ (c : Counts). c.steps) e in
    record { products_fit = omega arith; draws_fit = omega arith; steps_fit = omega arith; enough = omega arith; places = places }
