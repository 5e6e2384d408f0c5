-- `linear::add_groups` meets its contract. The invariant: the groups passed are the sums, and all else is as it was.
use mathlib.Core.Path.{◌≡◌}
use Prim.Native.Nat.{◌*◌}
use lib.ListN.{length}
use Rattle.linear.specs.Packed.{sum_bytes}
use Rattle.linear.specs.Buffer.{Overwritten}
use Rattle.linear.proofs.packing.add_groups.Given as goal

abbrev pub invariant-loop-group : goal.invariant-loop-group
invariant-loop-group l = (length l.row ≡ length l.initial.row) × Overwritten l.initial.row l.row 0 (l.group * 8) (sum_bytes l.initial.row l.other)
