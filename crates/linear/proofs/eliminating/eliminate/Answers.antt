-- `linear::eliminate` meets its contract.
use mathlib.Core.Path.{refl}
use Rattle.linear.specs.Shape.{cells}
use Rattle.linear.proofs.Steps.{eliminated_start}
use Rattle.linear.proofs.eliminating.eliminate.Goals as goal

pub loop-column-init : goal.loop-column-init
loop-column-init g c =
    (refl, eliminated_start (cells (g.M.Matrix.shape c.args.system) c.args.matrix.now) (g.M.Matrix.scalars_in c.args.system c.args.matrix.now c.requires.1))
