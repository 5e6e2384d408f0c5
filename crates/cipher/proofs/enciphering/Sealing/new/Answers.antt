-- `Sealing::new` meets its contract: the tests of the record.
use mathlib.Core.Path.{sym, ◌∙◌}
use Rattle.refusal.proofs.Exits.{reports}
use Rattle.present.specs.Present.{table}
use Rattle.cipher.proofs.Records.{present_record, record_realizes}
use Rattle.cipher.proofs.enciphering.Sealing.new.Goals as goal

pub returns-in_err-nibble_box-clause-outcome : goal.returns-in_err-nibble_box-clause-outcome
unfolding table
returns-in_err-nibble_box-clause-outcome c = reports _ _ _ c.from_residual.ensures.1 ∙ c.in_err-nibble_box.ensures.outcome

pub invariant_of-result : goal.invariant_of-result
unfolding table
invariant_of-result c =
    record {
      realizes = rw c.in_ok-nibble_box.ensures.coefficients
          (record_realizes (present_record c.args.bytes.now (sym c.in_ok-nibble_box.ensures.outcome)));
    }

pub returns-clause-outcome : goal.returns-clause-outcome
unfolding table
returns-clause-outcome c = c.in_ok-nibble_box.ensures.outcome
