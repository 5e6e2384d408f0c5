-- `rounds::by_table` meets its contract. The invariant: y is the block after so many turns.
use mathlib.Core.Path.{◌≡◌}
use Prim.Native.Nat.{◌+◌}
use Rattle.steps.specs.Iterate.{iterate}
use Rattle.unshared.specs.RoundKeys.{turn}
use Rattle.unshared.proofs.rounds.by_table.Given as goal

abbrev pub invariant-loop-key : goal.invariant-loop-key
invariant-loop-key l = l.y ≡ iterate 1 (1 + l.key-index) (turn l.table l.keys) l.initial.y
