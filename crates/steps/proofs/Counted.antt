-- Operations on s shares of which the share count and then the lengths are tested: where they are refused, and where they succeed.
use mathlib.Core.Path.{◌≡◌}
use mathlib.Core.Bool.{Bool, true, false}
use mathlib.Core.List.{List, []}
use Prim.Native.Nat.{ℕ}
use Rattle.std.specs.Prelude.{Result}
use Rattle.std.specs.Result.{IsErrAnd}
use Rattle.refusal.specs.declared.refusals.Refusal.{Refusal}
use Rattle.refusal.specs.declared.refusals.Refusal.TheVariants.{ShareCount, Length}
use Rattle.refusal.specs.Outcome.{Outcome, done, test, Answered}
use Rattle.refusal.specs.Range.{one_to}
use Rattle.refusal.specs.Refusals.{nothing, report}
use Rattle.refusal.proofs.Outcome.{refuses, succeeds}
use Rattle.refusal.proofs.Exits.{reports}

-- the outcome: `fits` says whether the lengths do
abbrev pub counted : ℕ → Bool → Outcome
counted s fits = test (one_to 9 s) 7 0 (test fits 2 0 (done []))

module _ (s : ℕ) (fits : Bool) {new old : List ℕ} where
  module _ (answer : Result (Unit {0}) Refusal) {e : Refusal} (h : IsErrAnd answer (λ x. x ≡ e)) where
    pub count_refused : (e ≡ ShareCount) × (one_to 9 s ≡ false) → Answered (counted s fits) new old (report nothing answer) old
    count_refused f = refuses (reports nothing answer _ h) (rw (f.1, f.0))

    pub length_refused : one_to 9 s ≡ true → (fits ≡ false) × (e ≡ Length) → Answered (counted s fits) new old (report nothing answer) old
    length_refused counts f = refuses (reports nothing answer _ h) (rw (counts, f.0, f.1))

  pub counted_done : {left : List ℕ} → one_to 9 s ≡ true → fits ≡ true → left ≡ new → Answered (counted s fits) new old (done []) left
  counted_done counts f e = succeeds (rw (counts, f)) e
