-- `linear::add_pivot` meets its contract: what the calls say of the entries is said of the rows (`added_multiple`).
use Rattle.linear.proofs.Turns.{added_multiple}
use Rattle.linear.proofs.eliminating.add_pivot.Goals as goal

pub returns-then-pivot-rank : goal.returns-then-pivot-rank
returns-then-pivot-rank g c =
    let s = g.M.Matrix.shape c.args.system in
    let laws = g.M.Matrix.laws c.args.system in
    added_multiple s.rows s.columns 1 c.args.rank c.args.pivot c.if-pivot-rank.true
    (c.copy_row.ensures.multiple 1 laws.field.one_below) c.add_multiple.ensures
