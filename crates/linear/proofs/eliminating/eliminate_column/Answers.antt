-- `linear::eliminate_column` meets its contract: what each call says is a step of the column.
use native.Mathlib.Nat.{le-mul_of_pos_right}
use native.Mathlib.Numerals.{add-one}
use native.Mathlib.Omega.{arith}
use Rattle.linear.specs.Shape.{cells}
use Rattle.linear.proofs.Steps.{column_cleared, column_scaled, pivot_unit, step_none}
use Rattle.linear.proofs.Turns.{scaled_row}
use Rattle.linear.proofs.eliminating.eliminate_column.Goals as goal

pub returns-in_default : goal.returns-in_default
returns-in_default g c = rw add-one (step_none (g.M.Matrix.laws c.args.system).field c.requires.2 c.in_default.ensures)

pub scale_row-requires-clause-unit : goal.scale_row-requires-clause-unit
scale_row-requires-clause-unit g c =
    pivot_unit (g.M.Matrix.laws c.args.system).field c.requires.1 c.requires.2 c.in-Some.ensures c.add_pivot.ensures

pub clear-requires : goal.clear-requires
clear-requires g c =
    let s = g.M.Matrix.shape c.args.system in
    let scaled = scaled_row s.rows s.columns c.args.rank (s.scalars.inv (cells s c.add_pivot.new.matrix c.args.rank c.args.column)) c.scale_row.ensures in
    record {
      room = omega (arith, c.scale_row.auto.matrix, c.add_pivot.auto.matrix, c.requires.0);
      scalars = (column_scaled (g.M.Matrix.laws c.args.system).field c.requires.1 c.requires.2 c.in-Some.ensures c.add_pivot.ensures scaled).0.elements;
      column = c.requires.1;
      row = omega (arith, c.in-Some.ensures.after, c.in-Some.ensures.within);
    }

pub overflow_add-result : goal.overflow_add-result
overflow_add-result g c =
    let s = g.M.Matrix.shape c.args.system in
    omega (arith, c.in-Some.ensures.after, c.in-Some.ensures.within, le-mul_of_pos_right s.rows (g.M.Matrix.laws c.args.system).bytes)

pub returns : goal.returns
returns g c =
    let s = g.M.Matrix.shape c.args.system in
    let scaled = scaled_row s.rows s.columns c.args.rank (s.scalars.inv (cells s c.add_pivot.new.matrix c.args.rank c.args.column)) c.scale_row.ensures in
    column_cleared (g.M.Matrix.laws c.args.system).field c.requires.1 c.requires.2 c.in-Some.ensures c.add_pivot.ensures scaled c.clear.ensures
