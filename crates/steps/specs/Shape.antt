-- The shape of a program: what it does in order, without the elements.
use Rattle.std.specs.Prelude.{◌≡◌, List, [], ◌∷◌, ◌++◌, ℕ, zero, suc, ◌+◌, ◌-◌, ◌^◌, ◌<◌, length, replicate}
use Rattle.steps.specs.Program.{Touch, one, Run, return, step, draw, mark}

-- what a program does at one place: a step that touches these shares, a draw of so many bits, the beginning of a masked product
pub data Event : Type 0 where
  step_of : Touch → Event
  draw_of : ℕ → Event
  marked : Event

-- a shape: all that is done, in order
abbrev pub Shape : Type 0
Shape = List Event

-- the shares that the steps touch, in order
unfoldable pub touches_of : Shape → List Touch
touches_of [] = []
touches_of (step_of t ∷ σ) = t ∷ touches_of σ
touches_of (draw_of b ∷ σ) = touches_of σ
touches_of (marked ∷ σ) = touches_of σ

-- the bits of the draws, in order
unfoldable pub bits_of : Shape → List ℕ
bits_of [] = []
bits_of (step_of t ∷ σ) = bits_of σ
bits_of (draw_of b ∷ σ) = b ∷ bits_of σ
bits_of (marked ∷ σ) = bits_of σ

-- how many steps there are
abbrev pub steps_of : Shape → ℕ
steps_of σ = length (touches_of σ)

-- how many draws
abbrev pub draws_of : Shape → ℕ
draws_of σ = length (bits_of σ)

-- how many masked products
unfoldable pub products_of : Shape → ℕ
products_of [] = 0
products_of (step_of t ∷ σ) = products_of σ
products_of (draw_of b ∷ σ) = products_of σ
products_of (marked ∷ σ) = suc (products_of σ)

-- a count of events: 0 of none, and of one shape and then another the sum
pub record Counting (f : Shape → ℕ) : Type 0 where
  pub none : f [] ≡ 0
  pub both : (σ τ : Shape) → f (σ ++ τ) ≡ f σ + f τ

-- all draws are of n bits
abbrev pub Uniform : ℕ → Shape → Type 0
Uniform n σ = bits_of σ ≡ replicate (draws_of σ) n

-- all that is done is steps of share i alone
pub data Alone (i : ℕ) : Shape → Type 0 where
  alone_nil : Alone i []
  alone_step : {σ : Shape} → Alone i σ → Alone i (step_of (one i) ∷ σ)

-- the shapes of the turns i, i + 1 and so on of a loop, k of them
unfoldable pub loop_shape : (ℕ → Shape) → ℕ → ℕ → Shape
loop_shape σ i zero = []
loop_shape σ i (suc k) = σ i ++ loop_shape σ (i + 1) k

-- the shapes of the turns from i up to s, s not included
unfoldable pub for_shape : ℕ → ℕ → (ℕ → Shape) → Shape
for_shape i s σ = loop_shape σ i (s - i)

-- Whatever the program draws, an element of b bits being below 2 ^ b, it has this shape, and P holds of its result.
pub data Shaped {A : Type 0} (P : A → Type 0) : Shape → Run A → Type 0 where
  shaped_return : {a : A} → P a → Shaped P [] (return a)
  shaped_step : {t : Touch} {v : ℕ} {σ : Shape} {m : Run A} → Shaped P σ m → Shaped P (step_of t ∷ σ) (step t v m)
  shaped_draw : {b : ℕ} {σ : Shape} {k : ℕ → Run A} → ((r : ℕ) → r < 2 ^ b → Shaped P σ (k r)) → Shaped P (draw_of b ∷ σ) (draw b k)
  shaped_mark : {σ : Shape} {m : Run A} → Shaped P σ m → Shaped P (marked ∷ σ) (mark m)
