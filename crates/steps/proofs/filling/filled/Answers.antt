-- `filled` meets its contract: the places before p are filled.
use native.Mathlib.Omega.{arith}
use Prim.Native.Nat.{ℕ}
use lib.ListN.{length-replicate}
use Rattle.steps.proofs.Fill.{fill_turn}
use Rattle.steps.proofs.filling.filled.Goals as goal

pub loop-p-preserved : goal.loop-p-preserved
loop-p-preserved g c = λ f h.
    fill_turn _ f _ _ _ (c.loop-p.invariant f h) (h _ _ c.loop-p-test.true c.byte.ensures)
    (omega (arith, c.requires.room, c.loop-p-test.true, length-replicate {A = ℕ} g.row.N 0))
