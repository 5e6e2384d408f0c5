-- `linear::scale` meets its contract. The invariant: the entries passed are the products, and the others are as they were.
use mathlib.Core.Path.{◌≡◌}
use lib.ListN.{length}
use Rattle.linear.specs.Buffer.{Overwritten, bytes}
use Rattle.linear.specs.Row.{times}
use Rattle.linear.specs.Scalars.{scalars}
use Rattle.linear.proofs.rows.scale.Given as goal

abbrev pub invariant-loop-entry : goal.invariant-loop-entry
invariant-loop-entry l = (length l.row ≡ length l.initial.row)
    × Overwritten l.initial.row l.row 0 l.entry-index (times (scalars l.width) l.factor (bytes l.initial.row))
