-- `NibbleBox::of` meets its contract: each test is that of the definition.
use mathlib.Core.Path.{refl, sym, ◌∙◌}
use Rattle.refusal.specs.declared.refusals.Refusal.TheVariants.{Width}
use Rattle.refusal.proofs.Exits.{held, failed, exits, reports, refused_first}
use Rattle.cipher.specs.Ciphering.{record_tests}
use Rattle.cipher.proofs.Records.{other_width, layout_four, inputs_four, nibbles_read, table_differs, table_agrees}
use Rattle.cipher.proofs.nibble_box.NibbleBox.of.Goals as goal

pub returns-in_err-record-clause-outcome : goal.returns-in_err-record-clause-outcome
unfolding record_tests
returns-in_err-record-clause-outcome c =
    reports _ _ _ c.from_residual.ensures.1 ∙ sym (refused_first _ _ c.read.ensures.outcome c.in_err-record.was)

pub returns-in_err-refuse_unless-clause-outcome : goal.returns-in_err-refuse_unless-clause-outcome
returns-in_err-refuse_unless-clause-outcome c =
    let read = sym c.in_ok-record.ensures.outcome in
    let f = failed Width refl c.refuse_unless.ensures c.in_err-refuse_unless.was in
    exits _ _ _ Width c.from_residual-in_err-refuse_unless.ensures.1 f.1
    (other_width _ _ read c.in_ok-record.ensures.record f.0)

pub first_difference-requires : goal.first_difference-requires
first_difference-requires c =
    let read = sym c.in_ok-record.ensures.outcome in
    let four = held Width refl c.refuse_unless.ensures c.in_ok-refuse_unless.was in
    c.told-table ∙ sym (inputs_four c.args.table.now _ read c.in_ok-record.ensures.record four)

pub returns-in-Some-clause-outcome : goal.returns-in-Some-clause-outcome
returns-in-Some-clause-outcome c =
    let read = sym c.in_ok-record.ensures.outcome in
    let four = held Width refl c.refuse_unless.ensures c.in_ok-refuse_unless.was in
    sym (table_differs _ _ read c.in_ok-record.ensures.record four (sym c.first_difference.ensures ∙ c.in-Some.is))

pub invariant_of-result : goal.invariant_of-result
invariant_of-result c =
    let read = sym c.in_ok-record.ensures.outcome in
    let four = held Width refl c.refuse_unless.ensures c.in_ok-refuse_unless.was in
    let same = c.in_ok-record.ensures.record in
    record { four = layout_four c.args.table.now _ read same four; small = nibbles_read c.args.table.now _ read same four }

pub returns-in-None-clause-outcome : goal.returns-in-None-clause-outcome
returns-in-None-clause-outcome c =
    let read = sym c.in_ok-record.ensures.outcome in
    let four = held Width refl c.refuse_unless.ensures c.in_ok-refuse_unless.was in
    sym (table_agrees _ _ read c.in_ok-record.ensures.record four (sym c.first_difference.ensures ∙ c.in-None.is))
