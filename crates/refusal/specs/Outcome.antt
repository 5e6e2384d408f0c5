-- What an operation answers, in the paper's terms.
-- Each operation answers a `Result`, with the error enum `Refusal`. `report` (Refusals) gives the outcome that each answer stands for, and the
-- operation's contract settles that outcome for every argument.
use Rattle.std.specs.Prelude.{Bool, true, false, List, ◌≡◌, ℕ}

-- an outcome
pub data Outcome : Type 0 where
  -- success, with the numbers that the operation hands back, in the paper's order
  done : List ℕ → Outcome
  -- a refusal: its number, and its place
  refused : ℕ → ℕ → Outcome

-- an operation's tests, in the order in which they run: where this one passes, what comes next; else the refusal with this number and place
abbrev pub test : Bool → ℕ → ℕ → Outcome → Outcome
test true number place next = next
test false number place next = refused number place

-- one operation's refusals, then what comes next
abbrev pub and_then : Outcome → Outcome → Outcome
and_then (done values) next = next
and_then (refused number place) next = refused number place

-- what a slice lent for output holds in the end: what the operation writes or, where it is refused, what it held before
abbrev pub written : Outcome → List ℕ → List ℕ → List ℕ
written (done numbers) new old = new
written (refused number place) new old = old

-- The contract of an operation with one slice lent for output. It is to answer `outcome` and to write `new`: its answer reports the outcome,
-- and the slice, which held `old`, holds `left`.
pub record Answered (outcome : Outcome) (new old : List ℕ) (report : Outcome) (left : List ℕ) : Type 0 where
  pub answer : report ≡ outcome
  pub output : left ≡ written outcome new old
