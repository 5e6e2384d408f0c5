-- For proofs only. Two programs that show the same to whoever does not see share u: what the secrecy theorems about any program ask for.
use Rattle.std.specs.Prelude.{◌≡◌, not, ℕ, ◌^◌, ◌<◌, T}
use Rattle.xor.specs.Xor.{◌⊕◌}
use Rattle.steps.specs.Program.{Touch, Run, return, step, draw, mark}
use Rattle.steps.specs.Watch.{touches}

-- The two programs are coupled but for share u. They record for the same shares, and the same elements where u is not touched. Where they draw
-- there is a δ such that they go on coupled if the one draws r and the other r ⊕ δ. R holds of their results.
pub data Coupled {A B : Type 0} (u : ℕ) (R : A → B → Type 0) : Run A → Run B → Type 0 where
  coupled_return : {a : A} {b : B} → R a b → Coupled u R (return a) (return b)
  coupled_step : {t : Touch} {v w : ℕ} {m : Run A} {m' : Run B}
      → (T (not (touches u t)) → v ≡ w) → Coupled u R m m' → Coupled u R (step t v m) (step t w m')
  coupled_draw : {b : ℕ} {k : ℕ → Run A} {k' : ℕ → Run B} (δ : ℕ) → δ < 2 ^ b
      → ((r : ℕ) → r < 2 ^ b → Coupled u R (k r) (k' (r ⊕ δ))) → Coupled u R (draw b k) (draw b k')
  coupled_mark : {m : Run A} {m' : Run B} → Coupled u R m m' → Coupled u R (mark m) (mark m')
