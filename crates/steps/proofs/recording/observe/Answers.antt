-- `observe` meets its contract: where one pass finds no place that watches the step, no value changes.
use mathlib.Core.Path.{sym, ◌∙◌}
use mathlib.Core.Bool.{false, ◌||◌}
use lib.Dec.{eqb}
use borrow.Author.Tests.{tests}
use Rattle.std.proofs.Common.{rules}
use Rattle.std.proofs.lemmas.Iterator.{YieldsList-from_slice}
use Rattle.std.proofs.lemmas.Iterator.Consumers.{fold_from_yields_List}
use Rattle.steps.proofs.Recorder.{seen_nowhere}
use Rattle.steps.proofs.recording.observe.Goals as goal

pub returns-then-not-fold : goal.returns-then-not-fold
returns-then-not-fold c =
    let any = fold_from_yields_List _ (λ any x. any || eqb x c.args.step) false c.fold.result c.fold.ensures.ran (YieldsList-from_slice c.args.list.now cc) (λ a x b q k. search (rules, tests)) in
    sym (seen_nowhere c.args.list.now c.args.step c.args.v c.args.values.now (sym any ∙ c.if-not-fold.true))
