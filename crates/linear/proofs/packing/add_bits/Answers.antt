-- `linear::add_bits` meets its contract: the groups, and then what is left.
use mathlib.Core.Path.{◌≡◌}
use Prim.Native.Nat.{◌+◌, ◌-◌, ◌*◌, ◌/◌}
use native.Mathlib.Omega.{arith}
use lib.ListN.{length}
use Rattle.linear.proofs.Buffer.{overwritten_first}
use Rattle.linear.proofs.Packed.{more_added, part_added}
use Rattle.linear.proofs.packing.add_bits.Goals as goal

pub returns : goal.returns
returns c =
    let l = c.args.row.now in
    let m = c.args.other.now in
    let groups = c.add_groups.new.row in
    let k = length l / 8 * 8 in
    let e = length l - k in
    let whole : k + e ≡ length l = omega arith in
    overwritten_first (rw whole at (more_added l groups m k e c.add_groups.ensures
    (part_added k k (length groups - k) (length m - k) groups m c.add_bytes.new.row (omega (arith, c.add_groups.auto.row)) (omega (arith, c.add_groups.auto.row))
    (omega (arith, c.requires)) c.add_bytes.auto.row c.add_bytes.ensures)))
