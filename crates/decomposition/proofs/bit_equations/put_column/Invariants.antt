-- `decomposition::put_column` meets its contract. The invariant: the first b rows have their bit.
use Prim.Native.Nat.{◌*◌}
use Rattle.linear.specs.Bits.{bit}
use Rattle.linear.specs.Packed.{bit_cell}
use Rattle.decomposition.specs.Equations.{BlockWritten}
use Rattle.decomposition.proofs.bit_equations.put_column.Given as goal

abbrev pub invariant-loop-b : goal.invariant-loop-b
invariant-loop-b l = BlockWritten (l.stride * 8) (bit_cell l.stride l.initial.work) (bit_cell l.stride l.work) l.row l.b l.c 1 (λ k j. bit k l.v)
