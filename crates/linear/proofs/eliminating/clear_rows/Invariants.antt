-- `linear::clear_rows` meets its contract. The invariant: the rows passed are cleared, the others as they were (`Cleared`).
use mathlib.Core.Path.{◌≡◌}
use lib.ListN.{length}
use Rattle.linear.specs.Elimination.{Cleared}
use Rattle.linear.specs.Shape.{cells}
use Rattle.linear.proofs.eliminating.clear_rows.Given as goal

abbrev pub invariant-loop-row : goal.invariant-loop-row
invariant-loop-row g l = let s = g.M.Matrix.shape l.system in
    (length l.matrix ≡ length l.initial.matrix)
    × Cleared s.scalars s.rows s.columns l.column l.rank l.row (cells s l.initial.matrix) (cells s l.matrix)
