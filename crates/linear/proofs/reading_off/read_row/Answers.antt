-- `linear::read_row` meets its contract. A row below the rank has a leading entry.
use mathlib.Core.Path.{◌∙◌, refl}
use Prim.Native.Nat.{◌<◌}
use native.Mathlib.Numerals.{add-one}
use native.Mathlib.Omega.{arith}
use Rattle.linear.proofs.Packed.{written_elsewhere, written_here}
use Rattle.linear.proofs.ReadOff.{leading_exists, read_off_more}
use Rattle.linear.proofs.reading_off.read_row.Goals as goal

pub put-requires-clause-value : goal.put-requires-clause-value
put-requires-clause-value g c =
    let s = g.M.Matrix.shape c.args.system in
    let im : c.args.row < s.rows = omega (arith, c.requires.ready.0.reduced.rank, c.requires.ready.1) in
    rw (c.at-value.ensures, c.unknowns.ensures) ((c.requires.ready.0.scalars.at c.args.row im).at s.unknowns (g.M.Matrix.laws c.args.system).right_side)

pub returns-in-Some : goal.returns-in-Some
returns-in-Some g c =
    let s = g.M.Matrix.shape c.args.system in
    record {
      read = rw add-one (read_off_more c.requires.ready.0.reduced c.requires.ready.1 c.requires.read.read c.in-Some.column (s.solution c.put.new.out) c.in-Some.ensures.1
          (rw c.unknowns.ensures at (written_here c.put.ensures.written refl ∙ c.at-value.ensures)) (λ j n. written_elsewhere c.put.ensures.written refl j n));
      small = c.put.ensures.small c.requires.read.small;
    }

pub returns-in_default : goal.returns-in_default
returns-in_default g c = absurd (leading_exists c.requires.ready.0.reduced c.requires.ready.1 c.in_default.ensures)
