-- `reading::read` meets its contract: each test is that of the definition.
use mathlib.Core.Path.{◌∙◌, refl}
use borrow.Author.Tests.{le-leb, lt-leb}
use Rattle.refusal.specs.declared.refusals.Refusal.TheVariants.{Mark, Width}
use Rattle.refusal.proofs.Exits.{held, failed, exits}
use Rattle.decomposition.specs.Record.{read_outcome}
use Rattle.decomposition.proofs.ReadOutcome.{outputs_1, outputs_2, part_1, part_2, short_2, tests_1, tests_2}
use Rattle.decomposition.proofs.reading.read.Goals.{in-2-len1-up, in_default-2}
use Rattle.decomposition.proofs.reading.read.Goals as goal

pub returns-in_default-clause-outcome : goal.returns-in_default-clause-outcome
unfolding read_outcome
returns-in_default-clause-outcome c = rw (lt-leb 6 _ c.in_default.len_below) refl

pub returns-in_err-refuse_unless-clause-outcome : goal.returns-in_err-refuse_unless-clause-outcome
unfolding read_outcome
returns-in_err-refuse_unless-clause-outcome c =
    let f = failed Mark c.marked.ensures c.refuse_unless.ensures c.in_err-refuse_unless.was in
    exits _ _ _ Mark c.from_residual.ensures.1 f.1 (rw (le-leb 6 _ c.in-len6-up.len_at_least, f.0) refl)

pub returns-in_err-refuse_unless-2-clause-outcome : goal.returns-in_err-refuse_unless-2-clause-outcome
unfolding read_outcome
returns-in_err-refuse_unless-2-clause-outcome c =
    let right = held _ c.marked.ensures c.refuse_unless.ensures c.in_ok-refuse_unless.was in
    let f = failed Width c.known.ensures c.refuse_unless-2.ensures c.in_err-refuse_unless-2.was in
    exits _ _ _ Width c.from_residual-in_err-refuse_unless-2.ensures.1 f.1 (rw (le-leb 6 _ c.in-len6-up.len_at_least, right, f.0) refl)

pub read_pair-requires-clause-known : goal.read_pair-requires-clause-known
read_pair-requires-clause-known c = held _ c.known.ensures c.refuse_unless-2.ensures c.in_ok-refuse_unless-2.was

pub returns-in-2-empty-clause-outcome : goal.returns-in-2-empty-clause-outcome
returns-in-2-empty-clause-outcome c =
    let right = held _ c.marked.ensures c.refuse_unless.ensures c.in_ok-refuse_unless.was in
    let known = held _ c.known.ensures c.refuse_unless-2.ensures c.in_ok-refuse_unless-2.was in
    short_2 _ c.in-len6-up.len_at_least right known c.in-2-empty.is-0 c.in-2-empty.len_below

pub returns-clause-outcome : goal.returns-clause-outcome
returns-clause-outcome c =
    let r = c.args.bytes.now in
    let long = c.in-len6-up.len_at_least in
    let right = held _ c.marked.ensures c.refuse_unless.ensures c.in_ok-refuse_unless.was in
    let known = held _ c.known.ensures c.refuse_unless-2.ensures c.in_ok-refuse_unless-2.was in
    elim c.match-version.branch [
      | in-2-len1-up w ↦
          (rw w.outputs-is at c.read_pair.ensures.outcome) ∙ tests_2 r long right known w.in-2-len1-up.is-0 w.in-2-len1-up.len_at_least
      | in_default-2 w ↦ (rw w.outputs-is at c.read_pair.ensures.outcome) ∙ tests_1 r long right known w.in_default-2.is-0.1
    ]

pub returns-clause-record : goal.returns-clause-record
returns-clause-record c =
    let r = c.args.bytes.now in
    elim c.match-version.branch [
      | in-2-len1-up w ↦
          rw (outputs_2 r w.in-2-len1-up.is-0, part_2 r w.in-2-len1-up.is-0) (rw w.outputs-is at c.read_pair.ensures.record)
      | in_default-2 w ↦
          rw (outputs_1 r w.in_default-2.is-0.1, part_1 r w.in_default-2.is-0.1) (rw w.outputs-is at c.read_pair.ensures.record)
    ]
