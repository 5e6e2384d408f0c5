-- `linear::add_bytes` meets its contract. The invariant: the bytes passed are the sums, and all else is as it was.
use mathlib.Core.Path.{◌≡◌}
use lib.ListN.{length}
use Rattle.linear.specs.Packed.{sum_bytes}
use Rattle.linear.specs.Buffer.{Overwritten}
use Rattle.linear.proofs.packing.add_bytes.Given as goal

abbrev pub invariant-loop-i : goal.invariant-loop-i
invariant-loop-i l = (length l.row ≡ length l.initial.row) × Overwritten l.initial.row l.row 0 l.i (sum_bytes l.initial.row l.other)
