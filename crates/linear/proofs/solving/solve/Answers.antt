-- `linear::solve` meets its contract. What the reduced matrix says of the one that came in: `read_off_canonical` and `read_off_none`.
use mathlib.Core.Path.{refl}
use Rattle.linear.specs.Shape.{cells}
use Rattle.linear.proofs.ReadOff.{read_off_none, read_off_canonical}
use Rattle.linear.proofs.solving.solve.Goals as goal

pub returns-in-Some-clause-solved : goal.returns-in-Some-clause-solved
returns-in-Some-clause-solved g c =
    let s = g.M.Matrix.shape c.args.system in
    let laws = g.M.Matrix.laws c.args.system in
    let pivot = rw c.unknowns.ensures at c.in-Some.ensures in (
      read_off_none laws.field s.rows s.unknowns s.columns c.eliminate-rank.result laws.right_side (cells s c.args.matrix.now) (cells s c.eliminate-rank.new.matrix)
          c.eliminate-rank.ensures _ pivot.after pivot.within pivot.found,
      refl,
    )

pub returns-in-None-clause-solved : goal.returns-in-None-clause-solved
returns-in-None-clause-solved g c =
    let s = g.M.Matrix.shape c.args.system in
    let laws = g.M.Matrix.laws c.args.system in (
      read_off_canonical laws.field s.rows s.unknowns s.columns c.eliminate-rank.result laws.right_side (cells s c.args.matrix.now) (cells s c.eliminate-rank.new.matrix)
          c.eliminate-rank.ensures (rw c.unknowns.ensures at c.in-None.ensures) _ c.read_off.ensures.read,
      c.read_off.ensures.small,
    )
