-- `enciphering::block` meets its contract: the record is tested, and then the call is made.
use mathlib.Core.Path.{sym}
use Rattle.refusal.proofs.Outcome.{refuses}
use Rattle.refusal.proofs.Exits.{reports}
use Rattle.steps.specs.Taken.{handed}
use Rattle.steps.specs.Call.{call_outcome}
use Rattle.steps.specs.Ciphering.{call_of, call_tests}
use Rattle.cipher.specs.Operations.{block_outcome, block_output}
use Rattle.cipher.proofs.enciphering.block.Goals as goal

pub returns-in_err-new : goal.returns-in_err-new
unfolding block_outcome call_of call_tests call_outcome
returns-in_err-new c =
    refuses (reports handed _ _ c.from_residual.ensures.1) (rw (sym c.in_err-new.ensures.outcome))

pub returns : goal.returns
unfolding block_outcome block_output
returns c = rw (sym c.in_ok-new.ensures.outcome, ← c.in_ok-new.ensures.coefficients) c.call.ensures
