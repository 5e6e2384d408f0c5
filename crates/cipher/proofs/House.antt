-- THERE IS A RECORD OF PRESENT'S TABLE, and one of the inverse table: the house record passes the tests of Block, in either version, and the two those of
-- Open. So no statement about accepted records is empty.
use mathlib.Core.Path.{◌≡◌, refl}
use mathlib.Core.List.{[], flatten}
use Rattle.xor.specs.Sum.{sum_of}
use Rattle.field.specs.Polynomial.{classes, exponents, combination, value}
use Rattle.field.proofs.Inverses.{products}
use Rattle.refusal.specs.Outcome.{done}
use Rattle.refusal.specs.Large.{first_large}
use Rattle.decomposition.specs.Layout.{layout, sized, terms_of}
use Rattle.decomposition.specs.Form.{form, value_of}
use Rattle.decomposition.specs.Record.{marked, outputs_of, read_outcome}
use Rattle.decomposition.specs.Check.{first_difference}
use Rattle.present.specs.Present.{table}
use Rattle.present.specs.Decrypt.{inverse_table}
use Rattle.cipher.specs.Experiment.{house_coefficients, house_record, old_house_record, inverse_house_record, PresentRecord, InverseRecord}
use Rattle.cipher.specs.Ciphering.{computes_table, record_tests}
use Rattle.cipher.specs.OpenOperations.{both_tests}
use Rattle.cipher.proofs.Records.{present_record, record_of, inverse_nibbles, both_pass}

pub house_passes : record_tests table house_record ≡ done []
unfolding record_tests house_record house_coefficients read_outcome marked outputs_of layout sized terms_of first_large first_difference computes_table form value_of
    sum_of table products classes flatten exponents combination value
house_passes = refl

pub old_house_passes : record_tests table old_house_record ≡ done []
unfolding record_tests old_house_record house_coefficients read_outcome marked outputs_of layout sized terms_of first_large first_difference computes_table form value_of
    sum_of table products classes flatten exponents combination value
old_house_passes = refl

pub house_record_lem : PresentRecord house_record
house_record_lem = present_record house_record house_passes

pub old_house_record_lem : PresentRecord old_house_record
old_house_record_lem = present_record old_house_record old_house_passes

inverse_passes : record_tests inverse_table inverse_house_record ≡ done []
unfolding record_tests inverse_house_record read_outcome marked outputs_of layout sized terms_of first_large first_difference computes_table form value_of
    sum_of inverse_table products classes flatten exponents combination value
inverse_passes = refl

pub inverse_house_record_lem : InverseRecord inverse_house_record
inverse_house_record_lem = record_of inverse_table inverse_house_record inverse_nibbles inverse_passes

pub both_house_pass : both_tests house_record inverse_house_record ≡ done []
both_house_pass = both_pass house_record inverse_house_record house_record_lem inverse_house_record_lem
