-- `fitting::fit` meets its contract: by the pair, then by what the tests come to.
use mathlib.Core.List.{List}
use mathlib.Core.Path.{◌∙◌, ap, sym}
use Prim.Native.Nat.{ℕ}
use Rattle.std.proofs.lemmas.Result.{IfOk-at_ok}
use Rattle.refusal.specs.Refusals.{nothing, report}
use Rattle.refusal.proofs.Exits.{reports}
use Rattle.decomposition.specs.Fit.{FitCall}
use Rattle.decomposition.specs.Layout.{Sizes}
use Rattle.decomposition.proofs.Ready.{refused_at, tested}
use Rattle.decomposition.proofs.Sizes.{sizes}
use Rattle.decomposition.proofs.Tests.{pair_passes, pair_stops}
use Rattle.decomposition.proofs.Total.{fit_end_lem, fit_finds, fit_refused}
use Rattle.decomposition.proofs.Whole.{sizes_of}
use Rattle.decomposition.proofs.fitting.fit.Goals as goal

-- what the slices hold at entry
abbrev lent : List ℕ → List ℕ → List ℕ → List ℕ → FitCall
lent table basis work out = record { table = table; basis = basis; work = work; out = out }

pub returns-in_err-layout : goal.returns-in_err-layout
returns-in_err-layout c =
    let call = lent c.args.table.now c.args.basis.now c.args.work.now c.args.out.now in
    let stops = pair_stops c.args.width c.args.outputs _ (sym c.of.ensures.outcome ∙ ap (report _) c.in_err-layout.was) in
    rw (reports nothing _ _ c.from_residual.ensures.1) (fit_end_lem c.args.width c.args.outputs call _ (refused_at _ call _ _ stops))

pub fit_tests-requires : goal.fit_tests-requires
fit_tests-requires c =
    let pair = pair_passes c.args.width c.args.outputs (sym c.of.ensures.outcome ∙ ap (report _) c.in_ok-layout.was) in
    rw (IfOk-at_ok _ c.in_ok-layout.was c.of.ensures.layout) (∣ sizes _ _ pair ∣₁)

pub returns-in_err-problem : goal.returns-in_err-problem
returns-in_err-problem c =
    let call = lent c.args.table.now c.args.basis.now c.args.work.now c.args.out.now in
    let pair = pair_passes c.args.width c.args.outputs (sym c.of.ensures.outcome ∙ ap (report _) c.in_ok-layout.was) in
    rw (reports nothing _ _ c.from_residual-in_err-problem.ensures.1)
    (fit_refused c.args.width c.args.outputs call c.in_ok-layout.layout pair (IfOk-at_ok _ c.in_ok-layout.was c.of.ensures.layout)
    (sym c.fit_tests.ensures.outcome ∙ ap (report _) c.in_err-problem.was))

pub find-requires : goal.find-requires
find-requires c =
    let parts = IfOk-at_ok _ c.in_ok-problem.was c.fit_tests.ensures.problem in
    let z : Sizes c.in_ok-layout.layout = rw (← parts.0) (sizes_of c.in_ok-problem.problem.sizes) in
    let t = tested z _ _ _ _ (sym c.fit_tests.ensures.outcome ∙ ap (report _) c.in_ok-problem.was) in
    rw parts.0 (t.room, t.record_room)

pub returns : goal.returns
returns c =
    let call = lent c.args.table.now c.args.basis.now c.args.work.now c.args.out.now in
    let pair = pair_passes c.args.width c.args.outputs (sym c.of.ensures.outcome ∙ ap (report _) c.in_ok-layout.was) in
    let parts = IfOk-at_ok _ c.in_ok-problem.was c.fit_tests.ensures.problem in
    fit_finds c.args.width c.args.outputs call c.in_ok-layout.layout pair (IfOk-at_ok _ c.in_ok-layout.was c.of.ensures.layout) _
    (sym c.fit_tests.ensures.outcome ∙ ap (report _) c.in_ok-problem.was) (c.find.ensures.work_after, rw (parts.0, parts.1, parts.2) at c.find.ensures.found)
