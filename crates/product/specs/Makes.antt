-- For inner contracts only. What a closure that gives the shares of a sharing does on a machine.
use Rattle.std.specs.Prelude.{ℕ, ◌<◌}
use Rattle.steps.specs.Program.{Run}
use Rattle.steps.specs.Machine.{State, Ready, Went}

-- A closure is called on a machine, of which `state` gives the state. Its call at i, below s, may be made where f i may run, and runs f i: `may` and
-- `does` are what a call asks, and what it comes to.
pub record Makes {M : Type 0} (state : M → State) (may : M → ℕ → Type 0) (does : M → ℕ → ℕ → M → Type 0) (s : ℕ) (f : ℕ → Run ℕ) : Type 0 where
  pub callable : (i : ℕ) (m : M) → i < s → Ready (f i) (state m) → may m i
  pub runs : (i v : ℕ) (m n : M) → i < s → does m i v n → Went (f i) (state m) v (state n)
