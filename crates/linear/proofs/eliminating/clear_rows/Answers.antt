-- `linear::clear_rows` meets its contract.
use mathlib.Core.Path.{◌∙◌, ap, sym}
use Prim.Native.Nat.{◌<◌}
use native.Mathlib.Omega.{arith}
use lib.ListN.{length}
use Rattle.linear.specs.Shape.{cells}
use Rattle.linear.proofs.Turns.{added_itself, added_multiple, cleared_more, entry_before}
use Rattle.linear.proofs.eliminating.clear_rows.Goals as goal
use Rattle.linear.proofs.eliminating.clear_rows.Goals.{then-row-rank, else-row-rank}

pub add_multiple-requires : goal.add_multiple-requires
add_multiple-requires g c =
    let im : c.loop-row.row < (g.M.Matrix.shape c.args.system).rows = omega (arith, c.rows-row-end.ensures) in (
      record { room = omega (arith, c.requires.ready.room, c.loop-row.invariant.0); within = im },
      c.requires.copy.1,
      rw c.at-factor.ensures (entry_before c.requires.ready.scalars im c.requires.ready.column c.loop-row.invariant.1),
    )

pub loop-row-preserved : goal.loop-row-preserved
loop-row-preserved g c =
    let s = g.M.Matrix.shape c.args.system in
    let im : c.loop-row.row < s.rows = omega (arith, c.rows-row-end.ensures) in
    let rm = c.requires.ready.row in
    let cw = c.requires.ready.column in
    let factor = cells s c.loop-row.matrix c.loop-row.row c.args.column in
    let below : factor < s.scalars.size = entry_before c.requires.ready.scalars im cw c.loop-row.invariant.1 in
    elim c.if-row-rank.branch [
      | then-row-rank w ↦ (
        ap length w.matrix-is ∙ w.add_multiple.auto.matrix ∙ c.loop-row.invariant.0,
        rw w.matrix-is (cleared_more cw im rm c.loop-row.invariant.1
            (added_multiple s.rows s.columns factor c.loop-row.row c.args.rank (λ e. w.if-row-rank.true (sym e))
            (record {
              at = λ k h. (c.requires.copy.0.multiple factor below).at k h
                  ∙ ap (s.scalars.mul factor) (sym (c.loop-row.invariant.1.kept.at k h));
            })
            (rw w.at-factor.ensures at w.add_multiple.ensures))),
      )
      | else-row-rank w ↦ (
        ap length w.matrix-is ∙ c.loop-row.invariant.0,
        rw w.matrix-is (cleared_more cw im rm c.loop-row.invariant.1 (added_itself s.rows s.columns (cells s c.loop-row.matrix) (sym w.if-row-rank.false))),
      )
    ]
