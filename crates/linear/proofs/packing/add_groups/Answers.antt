-- `linear::add_groups` meets its contract.
use mathlib.Core.Path.{◌≡◌, subst, ◌∙◌}
use Prim.Native.Nat.{ℕ, ◌+◌, ◌-◌, ◌*◌, ◌≤◌}
use native.Mathlib.Omega.{arith}
use lib.ListN.{length}
use borrow.Rule.Slice.PartMut.{put_mid, same_len_mid}
use Rattle.linear.specs.Buffer.{Overwritten}
use Rattle.linear.specs.Packed.{sum_bytes}
use Rattle.linear.proofs.Packed.{more_added, part_added}
use Rattle.linear.proofs.packing.add_groups.Goals as goal

pub loop-group-preserved : goal.loop-group-preserved
loop-group-preserved c =
    let k = c.loop-group.group * 8 in
    let d = k + 8 - k in
    let m = c.args.other.now in
    let room : k + 8 ≤ length c.loop-group.row = omega (arith, c.loop-group.invariant.0, c.loop-group-test.true) in
    let next : k + 8 ≡ (c.loop-group.group + 1) * 8 = omega arith in (
      same_len_mid k d c.loop-group.row c.add_eight.new.row c.add_eight.auto.row ∙ c.loop-group.invariant.0,
      subst (λ (n : ℕ). Overwritten c.args.row.now (put_mid k d c.loop-group.row c.add_eight.new.row) 0 n (sum_bytes c.args.row.now m)) next
          (more_added c.args.row.now c.loop-group.row m k 8 c.loop-group.invariant.1
          (part_added k k d d c.loop-group.row m c.add_eight.new.row room (omega arith) (omega arith) c.add_eight.auto.row c.add_eight.ensures)),
    )
