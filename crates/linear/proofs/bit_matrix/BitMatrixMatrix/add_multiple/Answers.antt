-- `linear::add_multiple` meets its contract: the bytes of the row are written as a part of the buffer.
use Prim.Native.Nat.{◌+◌, ◌-◌, ◌*◌}
use native.Mathlib.Omega.{arith}
use Rattle.linear.proofs.Buffer.{row_room}
use Rattle.linear.proofs.Packed.{part_added, row_added}
use Rattle.linear.proofs.bit_matrix.BitMatrixMatrix.add_multiple.Goals as goal

pub returns : goal.returns
returns g c =
    let s = g.row.STRIDE in
    let a = c.args.row * s in
    let b = c.args.factor * 64 in
    row_added s c.args.matrix.now _ c.args.copy.now c.args.row b
    (part_added a b (a + s - a) (b + s - b) c.args.matrix.now c.args.copy.now c.add_bits.new.row (row_room s c.requires.0.within c.requires.0.room)
    (omega arith) (omega arith) c.add_bits.auto.row c.add_bits.ensures)
