-- Loops without steps: what a masked loop computes unmasked.
use Rattle.std.specs.Prelude.{ℕ, zero, suc, ◌+◌, ◌-◌}

-- f at i, at i + 1 and so on, k times, each from what the one before gave
unfoldable pub turns : {A : Type 0} → (ℕ → A → A) → ℕ → ℕ → A → A
turns f i zero a = a
turns f i (suc k) a = f (i + k) (turns f i k a)

-- f at each number from i up to s, s not included
unfoldable pub iterate : {A : Type 0} → ℕ → ℕ → (ℕ → A → A) → A → A
iterate i s f a = turns f i (s - i) a

-- f at each number from s - 1 down to i
unfoldable pub iterate_back : {A : Type 0} → ℕ → ℕ → (ℕ → A → A) → A → A
iterate_back i s f = iterate i s (λ j. f (i + s - 1 - j))
