-- Tests that refuse, and the two ways past a `?`.
use mathlib.Core.Path.{◌≡◌, refl, sym, ap, ◌∙◌}
use mathlib.Core.Bool.{Bool, true, false}
use mathlib.Core.List.{List, []}
use Prim.Native.Nat.{ℕ}
use native.Mathlib.Omega.{arith}
use Rattle.std.specs.Prelude.{Result, Ok, Err}
use Rattle.std.specs.Result.{IsErrAnd}
use Rattle.std.proofs.lemmas.Result.{err_from_is_err_and}
use Rattle.refusal.specs.declared.refusals.Refusal.{Refusal}
use Rattle.refusal.specs.Large.{test_below}
use Rattle.refusal.specs.Outcome.{Outcome, done, refused, test, and_then}
use Rattle.refusal.specs.Refusals.{nothing, number_of, place_of, report, tested}

-- a success is no refusal, and a refusal is one
ok_is_no_err : {u : Unit {0}} {e : Refusal} → ◌≡◌ {A = Result (Unit {0}) Refusal} (Ok u) (Err e) → ⊥
ok_is_no_err h = let z : ◌≡◌ {A = ℕ} 0 1 = cc in absurd (omega arith)

same_error : {e e' : Refusal} → ◌≡◌ {A = Result (Unit {0}) Refusal} (Err e) (Err e') → e ≡ e'
same_error h = cc

-- what `?` returns where its answer is an error
pub raised : {A : Type 0} (answer : Result A Refusal) (e : Refusal) → IsErrAnd answer (λ x. x ≡ e) → answer ≡ Err e
raised answer e h = let p = err_from_is_err_and {Q = λ x. x ≡ e} answer h in p.1 ∙ ap Err p.2

-- the outcome that it stands for
pub reports : {A : Type 0} (numbers : A → List ℕ) (answer : Result A Refusal) (e : Refusal) → IsErrAnd answer (λ x. x ≡ e)
    → report numbers answer ≡ refused (number_of e) (place_of e)
reports numbers answer e h = ap (report numbers) (raised answer e h)

tested_true : (refusal : Refusal) → tested true refusal ≡ Ok tt
unfolding tested
tested_true refusal = refl

tested_false : (refusal : Refusal) → tested false refusal ≡ Err refusal
unfolding tested
tested_false refusal = refl

-- past a test b, which code computes as r, the test holds
pub held : {r b : Bool} (refusal : Refusal) {answer : Result (Unit {0}) Refusal} {u : Unit {0}} → r ≡ b → answer ≡ tested r refusal → answer ≡ Ok u
    → b ≡ true
held {r = true} refusal e h g = sym e
held {r = false} refusal e h g = absurd (ok_is_no_err (sym g ∙ h ∙ tested_false _))

-- where it is refused, the test fails, and the error is its own
pub failed : {r b : Bool} (refusal : Refusal) {e : Refusal} {answer : Result (Unit {0}) Refusal} → r ≡ b → answer ≡ tested r refusal → answer ≡ Err e
    → (b ≡ false) × (e ≡ refusal)
failed {r = true} refusal e h g = absurd (ok_is_no_err (sym (h ∙ tested_true _) ∙ g))
failed {r = false} refusal e h g = (sym e, same_error (sym g ∙ h ∙ tested_false _))

-- ---- a part that answers, and what comes next

module _ {A : Type 0} (numbers : A → List ℕ) {r : Result A Refusal} {o : Outcome} (next : Outcome) (h : report numbers r ≡ o) where
  -- where it is refused, that is the outcome
  pub refused_first : {e : Refusal} → r ≡ Err e → and_then o next ≡ refused (number_of e) (place_of e)
  refused_first g = ap (λ (t : Outcome). and_then t next) (sym h ∙ ap (report numbers) g)

  -- and where it succeeds, what comes next is
  pub done_first : {a : A} → r ≡ Ok a → and_then o next ≡ next
  done_first g = ap (λ (t : Outcome). and_then t next) (sym h ∙ ap (report numbers) g)

-- what is one test b: past it the test holds, and where it is refused that is the outcome, whatever would come next
passes : (b : Bool) (number place : ℕ) → done [] ≡ test b number place (done []) → b ≡ true
passes true number place e = refl
passes false number place e = let z : ◌≡◌ {A = ℕ} 0 1 = cc in absurd (omega arith)

stops : (b : Bool) (number place : ℕ) {n p : ℕ} (next : Outcome) → refused n p ≡ test b number place (done []) → test b number place next ≡ refused n p
stops true number place next q = let z : ◌≡◌ {A = ℕ} 0 1 = cc in absurd (omega arith)
stops false number place next q = sym q

-- so of the test of entries
module _ (bound a : ℕ) (l : List ℕ) (next : Outcome) {r : Result (Unit {0}) Refusal} (h : report nothing r ≡ test_below bound a l (done [])) where
  pub entries_small : {u : Unit {0}} → r ≡ Ok u → test_below bound a l next ≡ next
  entries_small g = rw (passes _ _ _ (sym (ap (report nothing) g) ∙ h)) refl

  pub entry_large : {e : Refusal} → r ≡ Err e → test_below bound a l next ≡ refused (number_of e) (place_of e)
  entry_large g = stops _ _ _ next (sym (ap (report nothing) g) ∙ h)

-- the exit of a `?` by an error that is known
pub exits : {A : Type 0} (numbers : A → List ℕ) (answer : Result A Refusal) (e refusal : Refusal) {outcome : Outcome}
    → IsErrAnd answer (λ x. x ≡ e) → e ≡ refusal → outcome ≡ refused (number_of refusal) (place_of refusal) → report numbers answer ≡ outcome
exits numbers answer e refusal h k o = reports numbers answer e h ∙ rw k (sym o)
