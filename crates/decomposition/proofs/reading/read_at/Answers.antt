-- `reading::read_at` meets its contract: each test is that of the definition.
use mathlib.Core.Path.{◌∙◌, refl, sym}
use borrow.Author.Tests.{eqb-true}
use Rattle.refusal.specs.declared.refusals.Refusal.TheVariants.{Length}
use Rattle.refusal.proofs.Exits.{held, failed, exits, reports, entry_large, entries_small}
use Rattle.decomposition.proofs.reading.read_at.Goals as goal

pub returns-in_err-refuse_unless-clause-outcome : goal.returns-in_err-refuse_unless-clause-outcome
returns-in_err-refuse_unless-clause-outcome c =
    let f = failed Length refl c.refuse_unless.ensures c.in_err-refuse_unless.was in
    exits _ _ _ Length c.from_residual.ensures.1 f.1 (rw f.0 refl)

pub returns-in_err-refuse_large-clause-outcome : goal.returns-in_err-refuse_large-clause-outcome
returns-in_err-refuse_large-clause-outcome c =
    let fits = held _ refl c.refuse_unless.ensures c.in_ok-refuse_unless.was in
    reports _ _ _ c.from_residual-in_err-refuse_large.ensures.1
    ∙ sym (rw fits (entry_large _ _ _ _ c.refuse_large.ensures c.in_err-refuse_large.was))

pub invariant_of-result : goal.invariant_of-result
invariant_of-result c =
    record { sizes = c.requires.sizes; whole = eqb-true _ _ (held _ refl c.refuse_unless.ensures c.in_ok-refuse_unless.was) }

pub returns-clause-outcome : goal.returns-clause-outcome
returns-clause-outcome c =
    let fits = held _ refl c.refuse_unless.ensures c.in_ok-refuse_unless.was in
    sym (rw fits (entries_small _ _ _ _ c.refuse_large.ensures c.in_ok-refuse_large.was))
