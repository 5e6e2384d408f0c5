-- `decomposition::put_unknown` meets its contract. The invariant: i columns are written, and x is v doubled i times.
use mathlib.Core.Path.{◌≡◌}
use Prim.Native.Nat.{ℕ, ◌*◌}
use Rattle.field.specs.Loop.{doubled}
use Rattle.linear.specs.Bits.{row_of}
use Rattle.linear.specs.Packed.{bit_cell}
use Rattle.decomposition.specs.Equations.{BlockWritten}
use Rattle.decomposition.proofs.bit_equations.put_unknown.Given as goal

abbrev pub invariant-loop-i : goal.invariant-loop-i
invariant-loop-i l = record {
  doubles : l.x ≡ doubled l.width l.i l.v;
  columns : (r : ℕ → ℕ) (k : ℕ) → l.c ≡ k * l.width → r k ≡ l.v
      → BlockWritten (l.stride * 8) (bit_cell l.stride l.initial.work) (bit_cell l.stride l.work) l.row l.count l.c l.i (λ b. row_of l.width b r);
}
