-- `fitting::fit_tests` meets its contract: each test is that of the definition.
use mathlib.Core.Path.{◌∙◌, refl, sym}
use mathlib.Core.List.{[]}
use Rattle.refusal.specs.declared.refusals.Refusal.TheVariants.{Length}
use Rattle.refusal.proofs.Exits.{held, failed, exits, reports, entry_large, entries_small}
use Rattle.decomposition.proofs.Ready.{tested}
use Rattle.decomposition.proofs.Whole.{sizes_of}
use Rattle.decomposition.proofs.fitting.fit_tests.Goals as goal

pub returns-in_err-refuse_unless-clause-outcome : goal.returns-in_err-refuse_unless-clause-outcome
returns-in_err-refuse_unless-clause-outcome c =
    let f = failed Length c.lengths_fit.ensures c.refuse_unless.ensures c.in_err-refuse_unless.was in
    exits _ _ _ Length c.from_residual.ensures.1 f.1 (rw f.0 refl)

pub returns-in_err-refuse_large-clause-outcome : goal.returns-in_err-refuse_large-clause-outcome
returns-in_err-refuse_large-clause-outcome c =
    let fits = held _ c.lengths_fit.ensures c.refuse_unless.ensures c.in_ok-refuse_unless.was in
    reports _ _ _ c.from_residual-in_err-refuse_large.ensures.1
    ∙ sym (rw fits (entry_large _ _ _ _ c.refuse_large.ensures c.in_err-refuse_large.was))

pub returns-in_err-refuse_large-2-clause-outcome : goal.returns-in_err-refuse_large-2-clause-outcome
returns-in_err-refuse_large-2-clause-outcome c =
    let fits = held _ c.lengths_fit.ensures c.refuse_unless.ensures c.in_ok-refuse_unless.was in
    reports _ _ _ c.from_residual-in_err-refuse_large-2.ensures.1
    ∙ sym (rw fits (entries_small _ _ _ _ c.refuse_large.ensures c.in_ok-refuse_large.was
    ∙ entry_large _ _ _ _ c.refuse_large-2.ensures c.in_err-refuse_large-2.was))

pub invariant_of-result : goal.invariant_of-result
invariant_of-result c =
    let fits = held _ c.lengths_fit.ensures c.refuse_unless.ensures c.in_ok-refuse_unless.was in
    let t = tested (sizes_of c.requires) c.args.table.now c.args.basis.now c.args.work c.args.out {values = []} (rw fits (entries_small _ _ _ _ c.refuse_large.ensures c.in_ok-refuse_large.was
    ∙ entries_small _ _ _ _ c.refuse_large-2.ensures c.in_ok-refuse_large-2.was)) in
    record { sizes = c.requires; inputs = t.inputs; whole = t.whole; entries = t.entries; elements = t.elements }

pub returns-clause-outcome : goal.returns-clause-outcome
returns-clause-outcome c =
    let fits = held _ c.lengths_fit.ensures c.refuse_unless.ensures c.in_ok-refuse_unless.was in
    sym (rw fits (entries_small _ _ _ _ c.refuse_large.ensures c.in_ok-refuse_large.was
    ∙ entries_small _ _ _ _ c.refuse_large-2.ensures c.in_ok-refuse_large-2.was))
