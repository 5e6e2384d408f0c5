-- Programs that take steps alone: where they end does not depend on the tape, nor on the counts of products and draws.
use mathlib.Core.Path.{◌≡◌, refl, ap, ◌∙◌}
use mathlib.Core.List.{List, []}
use Prim.Native.Nat.{ℕ, zero, suc, ◌+◌, ◌-◌}
use native.Mathlib.Omega.{arith}
use Rattle.steps.specs.declared.counts.Counts.{Counts}
use Rattle.steps.specs.Program.{Touch, Run, return, step, ◌>>=◌, ◌>>◌, note, loop, for}
use Rattle.steps.specs.Machine.{at_step, with_steps, State, recorded, Ended, exec, Ready, Went, ReadySteps, WentSteps}

pub data StepsAlone {A : Type 0} : Run A → Type 0 where
  alone_return : {a : A} → StepsAlone (return a)
  alone_step : {t : Touch} {v : ℕ} {m : Run A} → StepsAlone m → StepsAlone (step t v m)

pub alone_bind : {A B : Type 0} {m : Run A} {f : A → Run B} → StepsAlone m → ((a : A) → StepsAlone (f a)) → StepsAlone (m >>= f)
unfolding ◌>>=◌
alone_bind (alone_return {a}) h = h a
alone_bind (alone_step g) h = alone_step (alone_bind g h)

pub alone_then : {A B : Type 0} {m : Run A} {m' : Run B} → StepsAlone m → StepsAlone m' → StepsAlone (m >> m')
unfolding ◌>>◌
alone_then g h = alone_bind g (λ a. h)

pub alone_note : (t : Touch) (v : ℕ) → StepsAlone (note t v)
unfolding note
alone_note t v = alone_step alone_return

alone_loop : {A : Type 0} {f : ℕ → A → Run A} → ((i : ℕ) (a : A) → StepsAlone (f i a)) → (i k : ℕ) (a : A) → StepsAlone (loop f i k a)
unfolding loop
alone_loop h i zero a = alone_return
alone_loop h i (suc k) a = alone_bind (h i a) (λ b. alone_loop h (i + 1) k b)

pub alone_for : {A : Type 0} {f : ℕ → A → Run A} (i s : ℕ) → ((i : ℕ) (a : A) → StepsAlone (f i a)) → (a : A) → StepsAlone (for i s f a)
unfolding for
alone_for i s h a = alone_loop h i (s - i) a

-- ---- on the machine

-- where a run with this tape from the counts n ends, by where one from the step number alone does
ends_from : {A : Type 0} → List ℕ → Counts → Ended A → Ended A
ends_from tape n e = record {
  result = e.result;
  state = record { tape = tape; watch = e.state.watch; counts = with_steps n e.state.counts.steps; values = e.state.values };
}

-- the run from the step number alone
abbrev alone_from : {A : Type 0} → Run A → State → Ended A
alone_from m s = exec m (record { tape = []; watch = s.watch; counts = at_step s.counts.steps; values = s.values })

exec_alone : {A : Type 0} {m : Run A} → StepsAlone m → (s : State) → exec m s ≡ ends_from s.tape s.counts (alone_from m s)
unfolding exec ends_from
exec_alone alone_return s = refl
exec_alone (alone_step {v = v} {m = m} h) s = exec_alone h (recorded v s)

module _ {A : Type 0} {m : Run A} (h : StepsAlone m) {s : State} where
  -- it may run from the step number alone
  pub ready_steps : Ready m s → ReadySteps s.watch m s.counts.steps s.values
  unfolding ends_from
  ready_steps y =
      let none = ap (λ (e : Ended A). e.state.counts) (exec_alone h (record { tape = []; watch = s.watch; counts = at_step s.counts.steps; values = s.values })) in
      let products = ap (λ (n : Counts). n.products) none in
      let draws = ap (λ (n : Counts). n.random) none in
      let same = ap (λ (e : Ended A). e.state.counts.steps) (exec_alone h s) in
      record {
        products_fit = omega (arith, products);
        draws_fit = omega (arith, draws);
        steps_fit = omega (arith, y.steps_fit, same);
        enough = omega (arith, draws);
        places = y.places;
      }

  -- and has run
  pub went_steps : {x : A} {k : ℕ} {vs' : List ℕ} → WentSteps s.watch m s.counts.steps s.values x k vs'
      → Went m s x (record { tape = s.tape; watch = s.watch; counts = with_steps s.counts k; values = vs' })
  unfolding ends_from
  went_steps w = record { runs = exec_alone h s ∙ rw w.runs refl }

  -- and has run, up to the counts with the number of the step after it
  pub went_counted : {x : A} {k : ℕ} {vs' : List ℕ} {n' : Counts} → n' ≡ with_steps s.counts k → WentSteps s.watch m s.counts.steps s.values x k vs'
      → Went m s x (record { tape = s.tape; watch = s.watch; counts = n'; values = vs' })
  went_counted e w = rw e (went_steps w)
