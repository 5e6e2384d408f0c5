-- For inner contracts only. Loops: the invariant of every loop that runs a program at each number from i₀ up to n.
use Rattle.std.specs.Prelude.{◌≡◌, ℕ, ◌≤◌}
use Rattle.steps.specs.Program.{Run, for}
use Rattle.steps.specs.Machine.{State, exec, After}

-- The loop, begun at i₀ with a₀ in the state s₀, has come to i with a in the state s: run from here on, what is left of it ends where the whole does.
pub record Going {A : Type 0} (f : ℕ → A → Run A) (i₀ n : ℕ) (a₀ : A) (s₀ : State) (i : ℕ) (a : A) (s : State) : Type 0 where
  pub begun : i₀ ≤ i
  pub after : After s₀ s
  pub runs : exec (for i₀ n f a₀) s₀ ≡ exec (for i n f a) s
