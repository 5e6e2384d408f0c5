-- `linear::eliminate` meets its contract. The invariant: the columns passed are reduced (`Eliminated`).
use mathlib.Core.Path.{◌≡◌}
use lib.ListN.{length}
use Rattle.linear.specs.Shape.{EliminatedIn}
use Rattle.linear.proofs.eliminating.eliminate.Given as goal

abbrev pub invariant-loop-column : goal.invariant-loop-column
invariant-loop-column g l = let s = g.M.Matrix.shape l.system in
    (length l.matrix ≡ length l.initial.matrix)
    × EliminatedIn s l.initial.matrix l.matrix l.column l.rank
