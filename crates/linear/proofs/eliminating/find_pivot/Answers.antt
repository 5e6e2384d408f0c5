-- `linear::find_pivot` meets its contract.
use mathlib.Core.Path.{◌≡◌}
use Rattle.std.proofs.Common.{rules, tests}
use Rattle.std.proofs.lemmas.Iterator.{first_from_Range}
use Rattle.linear.specs.Shape.{cells}
use Rattle.linear.proofs.Steps.{pivot_found}
use Rattle.linear.proofs.eliminating.find_pivot.Goals as goal

pub returns : goal.returns
returns g c =
    let s = g.M.Matrix.shape c.args.system in
    let M = cells s c.args.matrix.now in
    pivot_found s.rows c.args.column c.args.rank M c.find.result
    (rw c.rows.ensures at (first_from_Range _ _ _ c.find.result (λ k. M k c.args.column ≡ 0 → ⊥) (λ k. M k c.args.column ≡ 0) c.find.ensures.ran
    (λ x q k. search (rules, tests)) (λ x q k. search (rules, tests))))
