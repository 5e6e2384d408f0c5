-- `refusal::first_large` meets its contract: where one pass finds no entry that is too large there is none, and else the search is the library's.
use mathlib.Core.Path.{sym, ◌∙◌}
use mathlib.Core.Bool.{true, ◌&&◌}
use lib.Dec.{leb, ltb}
use borrow.Author.Tests.{tests, leb-true}
use Rattle.std.proofs.Common.{rules}
use Rattle.std.proofs.lemmas.Iterator.{YieldsList-from_slice}
use Rattle.std.proofs.lemmas.Iterator.Consumers.{fold_from_yields_List}
use Rattle.std.proofs.lemmas.Iterator.Search.{position_from_yields_List}
use Rattle.refusal.proofs.Large.{large_position, all_below, found_none}
use Rattle.refusal.proofs.first_large.Goals as goal

pub returns-then-fold : goal.returns-then-fold
returns-then-fold c =
    let all = fold_from_yields_List _ (λ all x. all && ltb x c.args.bound) true c.fold.result c.fold.ensures.ran (YieldsList-from_slice c.args.entries.now cc) (λ a x b q k. search (rules, tests)) in
    sym (found_none (leb-true _ _ (sym (all_below c.args.bound c.args.entries.now) ∙ sym all ∙ c.if-fold.true)))

pub returns : goal.returns
returns c =
    rw (← large_position c.args.bound c.args.entries.now)
    (position_from_yields_List (leb c.args.bound) _ _ _ c.position.ensures.ran (YieldsList-from_slice c.args.entries.now cc) (λ x b q k. search (rules, tests)))
