-- `enciphering::watch_block` meets its contract: the record is tested, and then a run is watched.
use mathlib.Core.Path.{sym}
use Rattle.refusal.proofs.Outcome.{refuses}
use Rattle.refusal.proofs.Exits.{reports}
use Rattle.steps.specs.Taken.{handed}
use Rattle.steps.specs.Call as call
use Rattle.steps.specs.Ciphering.{call_of, call_tests}
use Rattle.cipher.specs.Operations.{watch_outcome, watch_output}
use Rattle.cipher.proofs.enciphering.watch_block.Goals as goal

pub returns-in_err-new : goal.returns-in_err-new
unfolding watch_outcome call_of call_tests call.watch_outcome
returns-in_err-new c =
    refuses (reports handed _ _ c.from_residual.ensures.1) (rw (sym c.in_err-new.ensures.outcome))

pub returns : goal.returns
unfolding watch_outcome watch_output
returns c = rw (sym c.in_ok-new.ensures.outcome, ← c.in_ok-new.ensures.coefficients) c.watch.ensures
