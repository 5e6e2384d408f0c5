-- Sharings made share by share, the squares among them: what masked S-boxes share besides the masked product.
use Rattle.std.specs.Prelude.{List, [], ◌∷◌, ◌++◌, ℕ, zero, suc, get_or, set, replicate}
use Rattle.field.specs.Mul.{mul}
use Rattle.steps.specs.Program.{Run, return, one, ◌>>=◌, note, for}
use Rattle.steps.specs.Shape.{Shape, step_of, for_shape}
use Rattle.steps.specs.Sharing.{share}

-- a sharing made share by share: f i gives share i
unfoldable pub by_share : ℕ → (ℕ → Run ℕ) → Run (List ℕ)
by_share s f = for 0 s (λ i c. do
  v ← f i
  return (set c i v)) (replicate 9 0)

-- a constant goes to share 0 only
unfoldable pub constant : ℕ → ℕ → ℕ
constant zero c = c
constant (suc i) c = 0

-- sharing number k of a list
abbrev pub nth : List (List ℕ) → ℕ → List ℕ
nth l k = get_or l k []

-- the square of a sharing
unfoldable pub square : ℕ → ℕ → List ℕ → Run (List ℕ)
square n s a = by_share s (λ i. note (one i) (mul n (share a i) (share a i)))

-- a sharing and k squares, each of the one before
unfoldable pub squares : ℕ → ℕ → ℕ → List ℕ → Run (List (List ℕ))
squares n s zero a = return (a ∷ [])
squares n s (suc k) a = do
  b ← square n s a
  l ← squares n s k b
  return (a ∷ l)

-- ---- their shape

-- one shape, k times
unfoldable pub times : ℕ → Shape → Shape
times zero σ = []
times (suc k) σ = σ ++ times k σ

-- a square: a step for each share
unfoldable pub square_shape : ℕ → Shape
square_shape s = for_shape 0 s (λ i. step_of (one i) ∷ [])
