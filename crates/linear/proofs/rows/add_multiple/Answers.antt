-- `linear::add_multiple` meets its contract.
use mathlib.Core.Path.{◌∙◌, ap₂}
use native.Mathlib.Omega.{arith}
use lib.ListN.{length-set}
use Rattle.xor.proofs.Xor.{⊕-is}
use Rattle.linear.specs.Scalars.{scalars}
use Rattle.linear.proofs.Buffer.{overwritten_next}
use Rattle.linear.proofs.rows.add_multiple.Goals as goal

pub loop-i-preserved : goal.loop-i-preserved
loop-i-preserved c = (
  length-set c.loop-i.row c.loop-i.i _ ∙ c.loop-i.invariant.0,
  overwritten_next c.loop-i.row c.loop-i.invariant.1 (omega arith) _
      (⊕-is _ _ ∙ ap₂ (scalars c.args.width).add (c.loop-i.invariant.1.high c.loop-i.i (omega arith)) c.mul.ensures),
)
