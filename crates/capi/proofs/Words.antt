-- From an operation's answer to the words.
use mathlib.Core.Path.{◌≡◌, ap, ◌∙◌}
use mathlib.Core.List.{List}
use Prim.Native.Nat.{ℕ}
use Rattle.refusal.specs.Outcome.{Outcome, Answered}
use Rattle.decomposition.specs.Fit.{FitEnd}
use Rattle.refusal.specs.Words.{words}
use Rattle.capi.specs.Words.{Reported, ReportedFit}

pub reported : {outcome report : Outcome} {new old answer left : List ℕ}
    → Answered outcome new old report left
    → answer ≡ words report
    → Reported outcome new old answer left
reported a e = record { answered = e ∙ ap words a.answer; output = a.output }

-- the same for an operation that is lent nothing to write
pub said : {outcome report : Outcome} {answer : List ℕ} → report ≡ outcome → answer ≡ words report → answer ≡ words outcome
said a e = e ∙ ap words a

-- the same for a fit
pub reported_fit : {end : FitEnd} (e : FitEnd) {answer : List ℕ}
    → e ≡ end
    → answer ≡ words e.outcome
    → ReportedFit end answer e.work e.out
reported_fit e a w = record {
  answered = w ∙ ap (λ (x : FitEnd). words x.outcome) a;
  work_left = ap (λ (x : FitEnd). x.work) a;
  record_left = ap (λ (x : FitEnd). x.out) a;
}
