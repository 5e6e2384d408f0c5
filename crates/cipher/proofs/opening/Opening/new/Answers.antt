-- `Opening::new` meets its contract: the tests of the two records.
use mathlib.Core.Path.{sym, ◌∙◌}
use Rattle.refusal.proofs.Exits.{reports, done_first, refused_first}
use Rattle.present.specs.Decrypt.{inverse_table}
use Rattle.cipher.specs.OpenOperations.{both_tests}
use Rattle.cipher.proofs.Records.{inverse_nibbles, record_of, record_realizes}
use Rattle.cipher.proofs.opening.Opening.new.Goals as goal

pub returns-in_err-sealing-clause-outcome : goal.returns-in_err-sealing-clause-outcome
unfolding both_tests
returns-in_err-sealing-clause-outcome c =
    reports _ _ _ c.from_residual.ensures.1 ∙ sym (refused_first _ _ c.new.ensures.outcome c.in_err-sealing.was)

pub returns-in_err-inverse-clause-outcome : goal.returns-in_err-inverse-clause-outcome
unfolding both_tests inverse_table
returns-in_err-inverse-clause-outcome c =
    reports _ _ _ c.from_residual-in_err-inverse.ensures.1 ∙ c.in_err-inverse.ensures.outcome
    ∙ sym (done_first _ _ c.new.ensures.outcome c.in_ok-sealing.was)

pub invariant_of-result : goal.invariant_of-result
unfolding inverse_table
invariant_of-result c =
    record {
      realizes = rw c.in_ok-inverse.ensures.coefficients
          (record_realizes (record_of inverse_table c.args.inverse.now inverse_nibbles (sym c.in_ok-inverse.ensures.outcome)));
    }

pub returns : goal.returns
unfolding both_tests inverse_table
returns c = record {
  outcome = c.in_ok-inverse.ensures.outcome ∙ sym (done_first _ _ c.new.ensures.outcome c.in_ok-sealing.was);
  coefficients = (c.in_ok-sealing.ensures.coefficients, c.in_ok-inverse.ensures.coefficients);
}
