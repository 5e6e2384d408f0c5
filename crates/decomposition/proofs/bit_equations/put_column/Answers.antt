-- `bit_equations::put_column` meets its contract. The invariant: b rows of the column are written.
use Prim.Native.Nat.{◌*◌, ◌+◌}
use Rattle.linear.specs.Bits.{bit}
use Rattle.linear.specs.Packed.{bits_of}
use Rattle.decomposition.proofs.Blocks.{column_more, row_put}
use Rattle.decomposition.proofs.bit_equations.put_column.Goals as goal

pub loop-b-preserved : goal.loop-b-preserved
unfolding bit
loop-b-preserved c =
    column_more (bits_of 8 c.args.work.now) (bits_of 8 c.loop-b.work) (c.args.stride * 8) c.args.row c.loop-b.b c.args.c c.args.v c.requires.1
    c.loop-b.invariant (row_put c.args.stride (c.args.row + c.loop-b.b) c.args.c c.put_bit.ensures.written)
