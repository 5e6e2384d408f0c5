-- `checking::check` meets its contract: each test is that of the definition.
use mathlib.Core.Path.{◌≡◌, ◌∙◌, refl, sym}
use mathlib.Core.List.{List, []}
use Prim.Native.Nat.{ℕ, ◌%◌}
use borrow.Author.Tests.{eqb-true}
use lib.Dec.{eqb, leb}
use lib.ListN.{length}
use Rattle.std.specs.Prelude.{Ok, Result}
use Rattle.std.proofs.lemmas.Result.{IfOk-at_ok}
use Rattle.refusal.specs.declared.refusals.Refusal.{Refusal}
use Rattle.refusal.specs.declared.refusals.Refusal.TheVariants.{Length}
use Rattle.refusal.specs.Large.{test_below}
use Rattle.refusal.specs.Outcome.{Outcome, done, test}
use Rattle.refusal.specs.Refusals.{nothing, report}
use Rattle.refusal.proofs.Exits.{held, failed, exits, reports, entry_large, entries_small, done_first, refused_first}
use Rattle.decomposition.specs.Check.{check_outcome, first_difference, form_in}
use Rattle.decomposition.specs.Reading.{HandsBack, width_in}
use Rattle.decomposition.specs.Record.{coefficients_of, layout_of, read_outcome}
use Rattle.decomposition.specs.declared.layouts.Layout.{Layout}
use Rattle.decomposition.specs.declared.records.Record.{Record}
use Rattle.decomposition.proofs.Differences.{agrees, differs}
use Rattle.decomposition.proofs.checking.check.Goals as goal

-- the tests of the table, by the layout and the coefficients of a record
abbrev table_tests : Layout → List ℕ → List ℕ → Outcome
table_tests L cs table =
    let first = first_difference (λ x. form_in L cs x % L.entries) table in
    test (eqb (length table) L.inputs) 2 0 (test_below L.entries 0 table (test (leb (length table) first) 6 first (done [])))

-- they follow where Read hands back a record
goes_on : (r table : List ℕ) {answer : Result Record Refusal} {accepted : Record} → report width_in answer ≡ read_outcome r
    → HandsBack answer (layout_of r) (coefficients_of r) → answer ≡ Ok accepted → check_outcome r table ≡ table_tests accepted.layout accepted.coefficients.now table
unfolding check_outcome
goes_on r table h parts g = let p = IfOk-at_ok _ g parts in rw (p.0, p.1) (done_first width_in _ h g)

pub returns-in_err-record : goal.returns-in_err-record
unfolding check_outcome
returns-in_err-record c =
    reports nothing _ _ c.from_residual.ensures.1 ∙ sym (refused_first width_in _ c.read.ensures.outcome c.in_err-record.was)

pub returns-in_err-refuse_unless : goal.returns-in_err-refuse_unless
returns-in_err-refuse_unless c =
    let f = failed Length refl c.refuse_unless.ensures c.in_err-refuse_unless.was in
    exits nothing _ _ Length c.from_residual-in_err-refuse_unless.ensures.1 f.1
    (goes_on _ _ c.read.ensures.outcome c.read.ensures.record c.in_ok-record.was ∙ rw f.0 refl)

pub returns-in_err-refuse_large : goal.returns-in_err-refuse_large
returns-in_err-refuse_large c =
    let fits = held _ refl c.refuse_unless.ensures c.in_ok-refuse_unless.was in
    reports nothing _ _ c.from_residual-in_err-refuse_large.ensures.1
    ∙ sym (goes_on _ _ c.read.ensures.outcome c.read.ensures.record c.in_ok-record.was
    ∙ rw fits (entry_large _ _ _ _ c.refuse_large.ensures c.in_err-refuse_large.was))

pub first_difference-requires : goal.first_difference-requires
first_difference-requires c = eqb-true _ _ (held _ refl c.refuse_unless.ensures c.in_ok-refuse_unless.was)

pub returns-in-Some : goal.returns-in-Some
returns-in-Some c =
    let fits = held _ refl c.refuse_unless.ensures c.in_ok-refuse_unless.was in
    sym (goes_on _ _ c.read.ensures.outcome c.read.ensures.record c.in_ok-record.was
    ∙ rw fits (entries_small _ _ _ _ c.refuse_large.ensures c.in_ok-refuse_large.was
    ∙ differs _ _ _ (sym c.first_difference.ensures ∙ c.in-Some.is)))

pub returns-in-None : goal.returns-in-None
returns-in-None c =
    let fits = held _ refl c.refuse_unless.ensures c.in_ok-refuse_unless.was in
    sym (goes_on _ _ c.read.ensures.outcome c.read.ensures.record c.in_ok-record.was
    ∙ rw fits (entries_small _ _ _ _ c.refuse_large.ensures c.in_ok-refuse_large.was
    ∙ agrees _ _ _ (sym c.first_difference.ensures ∙ c.in-None.is)))
