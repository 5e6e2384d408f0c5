-- What an exported operation answers: the words of its outcome, and what its slices hold.
use Rattle.std.specs.Prelude.{◌≡◌, List, ℕ, ◌<◌}
use Rattle.refusal.specs.Outcome.{Outcome, done, refused, written}
use Rattle.refusal.specs.Words.{words}
use Rattle.decomposition.specs.Fit.{FitEnd}

-- The contract of an exported operation with one slice lent for output. It is to answer `outcome` and to write `new`: the words are those of the
-- outcome, and the slice, which held `old`, holds `left`.
pub record Reported (outcome : Outcome) (new old answer left : List ℕ) : Type 0 where
  pub answered : answer ≡ words outcome
  pub output : left ≡ written outcome new old

-- The contract of an exported fit that is to end in e: the words are those of its outcome, and the slices lent for the work and the record hold
-- `work` and `out`.
pub record ReportedFit (e : FitEnd) (answer work out : List ℕ) : Type 0 where
  pub answered : answer ≡ words e.outcome
  pub work_left : work ≡ e.work
  pub record_left : out ≡ e.out

-- a refusal has a number that is not 0, so that the first word tells it from done
abbrev pub Told : Outcome → Type 0
Told (done numbers) = Unit
Told (refused number place) = 0 < number
