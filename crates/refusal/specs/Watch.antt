-- The tests of a watch's list of step numbers.
use Rattle.std.specs.Prelude.{Bool, ◌&&◌, List, ℕ, leb, eqb, length}
use Rattle.refusal.specs.Outcome.{Outcome, test}
use Rattle.refusal.specs.Large.{first_large}

-- a list of so many numbers has as many places for their values, and at most 64
abbrev pub list_fits : ℕ → ℕ → Bool
list_fits numbers places = eqb numbers places && leb numbers 64

-- all step numbers are below the total, else a refusal by 8, whose place is that of the first that is not
abbrev pub test_steps : ℕ → List ℕ → Outcome → Outcome
test_steps total list next = test (leb (length list) (first_large total list)) 8 (first_large total list) next
