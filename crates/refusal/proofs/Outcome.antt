-- Tests that pass and fail, and the two ways in which an operation with one output slice returns.
use mathlib.Core.Path.{◌≡◌, refl, sym, ap, ◌∙◌}
use mathlib.Core.Bool.{Bool, true, false, not}
use mathlib.Core.List.{List}
use Prim.Native.Nat.{ℕ}
use native.Mathlib.Omega.{arith}
use borrow.Author.Tests.{not-true, not-false}
use Rattle.refusal.specs.Outcome.{Outcome, done, refused, test, and_then, Answered}

-- a test b that code computes as r, where code goes on by `!r`
pub test_fails : {r b : Bool} → r ≡ b → not r ≡ true → b ≡ false
test_fails {r} e h = sym e ∙ not-true r h

pub test_passes : {r b : Bool} → r ≡ b → not r ≡ false → b ≡ true
test_passes {r} e h = sym e ∙ not-false r h

-- where an operation succeeds, its first test passes and the rest succeeds
pub passed : (b : Bool) (number place : ℕ) (next : Outcome) {numbers : List ℕ}
    → test b number place next ≡ done numbers
    → (b ≡ true) × (next ≡ done numbers)
passed true number place next e = (refl, e)
passed false number place next e = let z : ◌≡◌ {A = ℕ} 0 1 = cc in absurd (omega arith)

-- where two parts succeed one after the other, each does
pub then_passed : (o next : Outcome) {numbers : List ℕ} → and_then o next ≡ done numbers
    → (first : List ℕ) × (o ≡ done first) × (next ≡ done numbers)
then_passed (done first) next e = (first, refl, e)
then_passed (refused number place) next e = let z : ◌≡◌ {A = ℕ} 0 1 = cc in absurd (omega arith)

-- what is handed back is settled by the outcome
pub done_values : {v w : List ℕ} → done v ≡ done w → v ≡ w
done_values e = cc

-- Two calls answer alike if their tests do and, where these are passed, what is handed on is the same.
pub then_alike : (o : Outcome) {o' : Outcome} (next : List ℕ → Outcome) (c c' : List ℕ) → o ≡ o' → ((v : List ℕ) → o ≡ done v → c ≡ c')
    → and_then o (next c) ≡ and_then o' (next c')
then_alike (done v) next c c' e h = ap next (h v refl) ∙ ap (λ (p : Outcome). and_then p (next c')) e
then_alike (refused number place) next c c' e h = ap (λ (p : Outcome). and_then p (next c')) e

-- the operation is refused, and has written nothing
pub refuses : {outcome report : Outcome} {number place : ℕ} {new old : List ℕ}
    → report ≡ refused number place
    → outcome ≡ refused number place
    → Answered outcome new old report old
refuses r e = record { answer = r ∙ sym e; output = rw e }

-- the operation succeeds, and has written its output
pub succeeds : {outcome : Outcome} {numbers : List ℕ} {new old left : List ℕ}
    → outcome ≡ done numbers
    → left ≡ new
    → Answered outcome new old (done numbers) left
succeeds e f = record { answer = sym e; output = rw (e, f) }
