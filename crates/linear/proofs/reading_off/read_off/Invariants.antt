-- `linear::read_off` meets its contract. The invariant: the rows passed are read off (`ReadOffIn`).
use mathlib.Core.Path.{◌≡◌}
use lib.ListN.{length}
use Rattle.linear.specs.Shape.{ReadOffIn}
use Rattle.linear.proofs.reading_off.read_off.Given as goal

abbrev pub invariant-loop-row : goal.invariant-loop-row
invariant-loop-row g l = (length l.out ≡ length l.initial.out) × ReadOffIn (g.M.Matrix.shape l.system) l.matrix l.out l.row
