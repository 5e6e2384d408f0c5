-- Refusals: what an operation's error stands for.
use Rattle.std.specs.Prelude.{Bool, true, false, List, [], ℕ, Result, Ok, Err}
use Rattle.refusal.specs.declared.refusals.Refusal.{Refusal}
use Rattle.refusal.specs.declared.refusals.Refusal.TheVariants.{Width, Length, Entry, Undecomposable, Mark, Differs, Table, ShareCount, Step, OutputBits}
use Rattle.refusal.specs.Outcome.{Outcome, done, refused}

-- the number of a refusal
abbrev pub number_of : Refusal → ℕ
number_of Width = 1
number_of Length = 2
number_of (Entry place) = 3
number_of Undecomposable = 4
number_of Mark = 5
number_of (Differs place) = 6
number_of Table = 6
number_of ShareCount = 7
number_of (Step place) = 8
number_of OutputBits = 9

-- its place, 0 where it has none
abbrev pub place_of : Refusal → ℕ
place_of Width = 0
place_of Length = 0
place_of (Entry place) = place
place_of Undecomposable = 0
place_of Mark = 0
place_of (Differs place) = place
place_of Table = 0
place_of ShareCount = 0
place_of (Step place) = place
place_of OutputBits = 0

-- the outcome that an answer stands for: `numbers` gives what a success hands back
abbrev pub report : {A : Type 0} → (A → List ℕ) → Result A Refusal → Outcome
report numbers (Ok a) = done (numbers a)
report numbers (Err r) = refused (number_of r) (place_of r)

-- the answer of a test
unfoldable pub tested : Bool → Refusal → Result Unit Refusal
tested true r = Ok tt
tested false r = Err r

-- nothing is handed back
abbrev pub nothing : Unit {0} → List ℕ
nothing u = []
