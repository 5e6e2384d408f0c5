-- `refusal::first_past` meets its contract: the search is the library's.
use Rattle.std.proofs.Common.{rules}
use borrow.Author.Tests.{tests}
use lib.Dec.{leb}
use Rattle.std.proofs.lemmas.Iterator.{YieldsList-from_slice}
use Rattle.std.proofs.lemmas.Iterator.Search.{position_from_yields_List}
use Rattle.refusal.proofs.Large.{large_position}
use Rattle.refusal.proofs.first_past.Goals as goal

pub returns : goal.returns
returns c =
    rw (← large_position c.args.total c.args.list.now)
    (position_from_yields_List (leb c.args.total) _ _ _ c.position.ensures.ran (YieldsList-from_slice c.args.list.now cc) (λ x b q k. search (rules, tests)))
