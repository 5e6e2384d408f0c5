-- The laws of loops: where one begins, goes on and ends.
use mathlib.Core.Path.{◌≡◌, refl, ◌∙◌}
use Prim.Native.Nat.{ℕ, suc, ◌+◌, ◌-◌, ◌≤◌, ◌<◌}
use native.Mathlib.Omega.{arith}
use Rattle.steps.specs.Program.{Run, loop, for}
use Rattle.steps.specs.Machine.{State, exec, Ready, Went}
use Rattle.steps.specs.Loop.{Going}
use Rattle.steps.proofs.Exec.{exec_bind, after_first, after_then}
use Rattle.steps.proofs.Parts.{ready_first, ready_runs, went_after}

module _ {A : Type 0} {f : ℕ → A → Run A} {i₀ n : ℕ} {a₀ : A} {s₀ : State} where
  -- where the loop begins
  pub going : Going f i₀ n a₀ s₀ i₀ a₀ s₀
  going = record { begun = omega arith; after = after_first; runs = refl }

  -- a turn may run
  pub going_ready : {i : ℕ} {a : A} {s : State} → Going f i₀ n a₀ s₀ i a s → Ready (for i₀ n f a₀) s₀ → i < n → Ready (f i a) s
  unfolding for loop
  going_ready {i} {a} {s} g y h =
      let l : n - i ≡ suc (n - (i + 1)) = omega arith in turn l (ready_runs y g.runs g.after)
    where
      turn : {k : ℕ} → k ≡ suc (n - (i + 1)) → Ready (loop f i k a) s → Ready (f i a) s
      turn e y = ready_first (f i a) (loop f (i + 1) (n - (i + 1))) (rw e at y)

  -- a turn that has run
  pub going_on : {i : ℕ} {a : A} {s : State} → Going f i₀ n a₀ s₀ i a s → Ready (for i₀ n f a₀) s₀ → i < n
      → {a' : A} {s' : State} → Went (f i a) s a' s' → Going f i₀ n a₀ s₀ (i + 1) a' s'
  unfolding for loop
  going_on {i} {a} {s} g y h {a'} {s'} w =
      let l : n - i ≡ suc (n - (i + 1)) = omega arith in
      record {
        begun = omega (arith, g.begun);
        after = after_then g.after (went_after (going_ready g y h) w);
        runs = g.runs ∙ rw l (exec_bind (f i a) (loop f (i + 1) (n - (i + 1))) s ∙ rw w.runs refl);
      }

  -- where the loop ends
  pub gone : {i : ℕ} {a : A} {s : State} → Going f i₀ n a₀ s₀ i a s → n ≤ i → Went (for i₀ n f a₀) s₀ a s
  unfolding for loop exec
  gone {i} {a} {s} g h = let l : n - i ≡ 0 = omega arith in record { runs = g.runs ∙ rw l }
