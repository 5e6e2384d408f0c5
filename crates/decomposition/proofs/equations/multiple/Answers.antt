-- `equations::multiple` meets its contract. The invariant: the first j products are written.
use mathlib.Core.Path.{◌∙◌, ap}
use native.Mathlib.Omega.{arith}
use Rattle.field.specs.Mul.{mul}
use Rattle.linear.proofs.Buffer.{overwritten_more}
use Rattle.decomposition.proofs.Value.{power_at}
use Rattle.decomposition.proofs.Whole.{sizes_of}
use Rattle.decomposition.proofs.equations.multiple.Goals as goal

pub loop-j-preserved : goal.loop-j-preserved
loop-j-preserved c =
    let p = c.args.powers.now in
    overwritten_more c.loop-j.work c.loop-j.invariant (omega (arith, c.requires, c.loop-j.auto.work, c.loop-j-test.true)) _
    (c.mul.ensures ∙ ap (mul p.layout.width c.args.f) (power_at (sizes_of p.sizes) p.x p.row p.powers c.loop-j.j c.loop-j-test.true))
