-- `linear::find_leading` meets its contract.
use mathlib.Core.Path.{◌≡◌}
use Rattle.std.proofs.Common.{rules, tests}
use Rattle.std.proofs.lemmas.Iterator.{first_from_Range}
use Rattle.linear.specs.Shape.{cells}
use Rattle.linear.proofs.ReadOff.{leading_found}
use Rattle.linear.proofs.reading_off.find_leading.Goals as goal

pub returns : goal.returns
returns g c =
    let s = g.M.Matrix.shape c.args.system in
    let M = cells s c.args.matrix.now in
    leading_found s.unknowns c.args.row M c.find.result
    (rw c.unknowns.ensures at (first_from_Range _ _ _ c.find.result (λ k. M c.args.row k ≡ 0 → ⊥) (λ k. M c.args.row k ≡ 0) c.find.ensures.ran
    (λ x q k. search (rules, tests)) (λ x q k. search (rules, tests))))
