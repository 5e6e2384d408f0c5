-- Masked calls: what a call and its watch answer and hand back, for every operation that runs a program of steps.
use Rattle.std.specs.Prelude.{◌≡◌, Bool, List, [], ◌∷◌, ℕ, length}
use Rattle.refusal.specs.Outcome.{Outcome, done, and_then}
use Rattle.refusal.specs.Watch.{list_fits, test_steps}
use Rattle.steps.specs.Program.{Run, result, trace, draws, products}
use Rattle.steps.specs.Watch.{watched}
use Rattle.steps.specs.Tape.{elements, bytes_for}

-- a masked call
pub record Call : Type 0 where
  -- its tests, in their order, by whether what is lent for output has its length
  pub tests : Bool → Outcome
  -- its steps
  pub program : Run (List ℕ)
  -- the bits of a random element, and the bytes that hold them all
  pub width : ℕ
  pub random : List ℕ
  -- how many steps there are
  pub total : ℕ

-- its random elements
abbrev pub tape_of : Call → List ℕ
tape_of c = elements c.width c.random

-- what it hands back: how many masked products, random bytes and steps the program has
unfoldable pub call_counts : Call → List ℕ
call_counts c =
    length (products 0 c.program (tape_of c))
    ∷ bytes_for c.width (length (draws c.program (tape_of c)))
    ∷ length (trace c.program (tape_of c))
    ∷ []

-- the outcome, `fits` saying whether what is lent for output has its length
unfoldable pub call_outcome : Call → Bool → Outcome
call_outcome c fits = and_then (c.tests fits) (done (call_counts c))

-- the result
unfoldable pub call_result : Call → List ℕ
call_result c = result c.program (tape_of c)

-- ---- under a watch

-- the outcome, by the length of values: the list has as many numbers, and at most 64
unfoldable pub watch_outcome : Call → List ℕ → ℕ → Outcome
watch_outcome c list values = and_then (c.tests (list_fits (length list) values)) (test_steps c.total list (done (call_counts c)))

-- what is written: the value of the step named at each place of the list
unfoldable pub watch_output : Call → List ℕ → List ℕ
watch_output c list = watched list (trace c.program (tape_of c))

-- ---- its figures

-- the program takes p masked products, d random elements and k steps on this tape
pub record Takes {A : Type 0} (m : Run A) (tape : List ℕ) (p d k : ℕ) : Type 0 where
  pub products_are : length (products 0 m tape) ≡ p
  pub draws_are : length (draws m tape) ≡ d
  pub steps_are : length (trace m tape) ≡ k

-- the figures that a call of these counts hands back
unfoldable pub figures_of : Call → ℕ → ℕ → ℕ → List ℕ
figures_of c p d k = p ∷ bytes_for c.width d ∷ k ∷ []
