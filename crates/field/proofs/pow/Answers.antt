-- `field::pow` meets its contract: a is multiplied once for each number below e.
use mathlib.Core.Path.{refl, ◌∙◌}
use Rattle.std.proofs.Common.{rules, arith}
use borrow.Author.Tests.{tests}
use Rattle.std.proofs.lemmas.Iterator.{YieldsList-from_range}
use Rattle.std.proofs.lemmas.Iterator.Consumers.{fold_from_yields_List}
use Rattle.field.specs.Mul.{mul}
use Rattle.field.proofs.Power.{fold_pow}
use Rattle.field.proofs.pow.Goals as goal

pub returns : goal.returns
returns c =
    fold_from_yields_List _ (λ p _. mul c.args.width c.args.a p) 1 _ c.fold.ensures.ran (YieldsList-from_range 0 c.args.e c.args.e refl (omega arith))
    (λ p x b q k. search (rules, tests))
    ∙ fold_pow _ _ _
