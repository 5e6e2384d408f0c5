-- `linear::add_bytes` meets its contract.
use mathlib.Core.Path.{◌∙◌, ap}
use Prim.Native.Nat.{ℕ}
use native.Mathlib.Omega.{arith}
use lib.ListN.{get_or, length-set}
use Rattle.xor.specs.Xor.{◌⊕◌}
use Rattle.xor.proofs.Xor.{⊕-is}
use Rattle.linear.proofs.Buffer.{overwritten_next}
use Rattle.linear.proofs.packing.add_bytes.Goals as goal

pub loop-i-preserved : goal.loop-i-preserved
loop-i-preserved c = (
  length-set c.loop-i.row c.loop-i.i _ ∙ c.loop-i.invariant.0,
  overwritten_next c.loop-i.row c.loop-i.invariant.1 (omega arith) _
      (⊕-is _ _ ∙ ap (λ (x : ℕ). x ⊕ get_or c.args.other.now c.loop-i.i 0) (c.loop-i.invariant.1.high c.loop-i.i (omega arith))),
)
