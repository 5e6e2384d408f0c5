-- `process` meets its contract: the test is that of the definition, and one block is written.
use mathlib.Core.Path.{◌∙◌}
use native.Mathlib.Omega.{arith}
use Rattle.refusal.specs.Refusals.{nothing}
use Rattle.refusal.proofs.Outcome.{refuses, succeeds}
use Rattle.refusal.proofs.Exits.{held, failed, reports}
use Rattle.unshared.specs.Operations.{unshared_outcome}
use Rattle.unshared.proofs.ManyBlocks.{one_block}
use Rattle.unshared.proofs.Calls.{lengths}
use Rattle.unshared.proofs.ciphering.process.Goals.{In_ok-refuse_unless}
use Rattle.unshared.proofs.ciphering.process.Goals as goal

pub returns-in_err-refuse_unless : goal.returns-in_err-refuse_unless
unfolding unshared_outcome
returns-in_err-refuse_unless g c =
    let f = failed _ c.lengths_fit.ensures c.refuse_unless.ensures c.in_err-refuse_unless.was in
    refuses (reports nothing _ _ c.from_residual.ensures.1) (rw (f.0, f.1))

pub process_blocks-requires : goal.process_blocks-requires
process_blocks-requires g c =
    let f = lengths _ _ _ _ (held _ c.lengths_fit.ensures c.refuse_unless.ensures c.in_ok-refuse_unless.was) in
    record { key = f.0; fit = (rw f.1, omega arith) }

pub returns : goal.returns
unfolding unshared_outcome
returns g c =
    let h = held _ c.lengths_fit.ensures c.refuse_unless.ensures c.in_ok-refuse_unless.was in
    succeeds (rw h) (c.process_blocks.ensures ∙ one_block _ _ (lengths _ _ _ _ h).1)
