-- `column_sum` meets its contract. The invariant: the sum is that of the first i bytes of the column.
use mathlib.Core.Path.{◌≡◌}
use Rattle.xor.specs.Sum.{join}
use Rattle.steps.specs.Operations.{column}
use Rattle.steps.proofs.columns.column_sum.Given as goal

abbrev pub invariant-loop-i : goal.invariant-loop-i
invariant-loop-i l = l.sum ≡ join (column l.l l.n l.j l.i)
