-- `calling::accept` meets its contract: each test is that of the definition.
use Rattle.refusal.proofs.Range.{one_to_range}
use Rattle.refusal.proofs.Exits.{held, failed, raised}
use Rattle.steps.specs.Ciphering.{argument_tests}
use Rattle.steps.proofs.calling.accept.Goals as goal

pub returns-in_err-count : goal.returns-in_err-count
unfolding argument_tests
returns-in_err-count g c = rw (raised _ _ c.from_residual.ensures.1, c.in_err-count.ensures.0, c.in_err-count.ensures.1)

pub returns-in_err-refuse_unless : goal.returns-in_err-refuse_unless
unfolding argument_tests
returns-in_err-refuse_unless g c =
    let f = failed _ c.lengths_fit.ensures.fits c.refuse_unless.ensures c.in_err-refuse_unless.was in
    rw (raised _ _ c.from_residual-in_err-refuse_unless.ensures.1, f.1, c.in_ok-count.ensures.1, rw c.in_ok-count.ensures.0 at f.0)

pub returns : goal.returns
unfolding argument_tests
returns g c =
    let fits = rw c.in_ok-count.ensures.0 at (held _ c.lengths_fit.ensures.fits c.refuse_unless.ensures c.in_ok-refuse_unless.was) in
    let right = rw c.in_ok-count.ensures.0 at c.lengths_fit.ensures.right in
    (c.in_ok-count.ensures.0, rw (c.in_ok-count.ensures.1, fits), right (one_to_range _ _ c.in_ok-count.ensures.1).0)
