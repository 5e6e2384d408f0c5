-- `linear::add_multiple` meets its contract. The invariant: the entries passed are the sums, and the others are as they were.
use mathlib.Core.Path.{◌≡◌}
use lib.ListN.{length}
use Rattle.linear.specs.Buffer.{Overwritten, bytes}
use Rattle.linear.specs.Row.{plus, times}
use Rattle.linear.specs.Scalars.{scalars}
use Rattle.linear.proofs.rows.add_multiple.Given as goal

abbrev pub invariant-loop-i : goal.invariant-loop-i
invariant-loop-i l = (length l.row ≡ length l.initial.row)
    × Overwritten l.initial.row l.row 0 l.i (plus (scalars l.width) (bytes l.initial.row) (times (scalars l.width) l.factor (bytes l.other)))
