-- `fitting::house_fit` meets its contract: a fit over the constant, which is the house basis. What `find` answers is not asked: it is a success.
use mathlib.Core.Path.{◌∙◌, ap, refl, sym}
use Rattle.std.proofs.lemmas.Result.{IfOk-at_ok}
use Rattle.refusal.specs.Refusals.{nothing, report}
use Rattle.refusal.proofs.Exits.{reports}
use Rattle.decomposition.specs.Fit.{house_basis}
use Rattle.decomposition.specs.Layout.{Sizes}
use Rattle.decomposition.proofs.House.{house_finds, house_refuses, house_told}
use Rattle.decomposition.proofs.Ready.{tested}
use Rattle.decomposition.proofs.Sizes.{layout_4_4, same_pair, sizes}
use Rattle.decomposition.proofs.Whole.{sizes_of}
use Rattle.decomposition.proofs.fitting.house_fit.Goals as goal

pub fit_tests-requires : goal.fit_tests-requires
fit_tests-requires c = rw (← layout_4_4) (∣ sizes 4 4 (same_pair 4 refl) ∣₁)

pub returns-in_err-problem : goal.returns-in_err-problem
unfolding house_basis
returns-in_err-problem c =
    rw (reports nothing _ _ c.from_residual.ensures.1)
    (house_refuses c.args.table.now c.args.work.now c.args.out.now
    (house_told _ _ _ _ (sym layout_4_4) (sym c.fit_tests.ensures.outcome ∙ ap (report _) c.in_err-problem.was)))

pub find-requires : goal.find-requires
unfolding house_basis
find-requires c =
    let parts = IfOk-at_ok _ c.in_ok-problem.was c.fit_tests.ensures.problem in
    let z : Sizes c.in_ok-problem.problem.layout = sizes_of c.in_ok-problem.problem.sizes in
    let t = tested (rw parts.0 at z) c.args.table.now house_basis _ _ (sym c.fit_tests.ensures.outcome ∙ ap (report _) c.in_ok-problem.was) in
    rw parts.0 (t.room, t.record_room)

pub returns : goal.returns
unfolding house_basis
returns c =
    let parts = IfOk-at_ok _ c.in_ok-problem.was c.fit_tests.ensures.problem in
    house_finds c.args.table.now c.args.work.now c.args.out.now (record {
      outcome = report nothing c.find.result;
      work = c.find.new.work;
      out = c.find.new.out;
    })
    (house_told _ _ _ _ (sym layout_4_4) (sym c.fit_tests.ensures.outcome ∙ ap (report _) c.in_ok-problem.was))
    (c.find.ensures.work_after, rw (parts.0 ∙ sym layout_4_4, parts.1, parts.2) at c.find.ensures.found)
