-- `linear::copy_row` meets its contract. The invariant: the entries passed are those of the other row.
use mathlib.Core.Path.{◌≡◌}
use lib.ListN.{length, take}
use Rattle.linear.proofs.rows.copy_row.Given as goal

abbrev pub invariant-loop-i : goal.invariant-loop-i
invariant-loop-i l = (length l.row ≡ length l.initial.row) × (take l.i l.row ≡ take l.i l.other)
