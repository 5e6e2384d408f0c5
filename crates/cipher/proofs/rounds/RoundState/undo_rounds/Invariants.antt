-- `RoundState::undo_rounds` meets its contract: a loop over the rounds, from the last to the first.
use mathlib.Core.Path.{◌≡◌}
use Prim.Native.Nat.{◌-◌, ◌≤◌}
use Rattle.steps.specs.Loop.{Going}
use Rattle.present.specs.Present.{size80}
use Rattle.present.specs.Opening.{masked_undo_round}
use Rattle.cipher.specs.Rounds.{sbox_of, sharings}
use Rattle.cipher.proofs.rounds.RoundState.undo_rounds.Given as goal

abbrev pub invariant-loop-r : goal.invariant-loop-r
invariant-loop-r g l =
    Going (λ i. masked_undo_round (sbox_of l.inverse l.initial.self.count.shares.count) size80 l.initial.self.count.shares.count (32 - i)) 1 32
    (sharings l.initial.self) (g.M.Machine.state l.initial.machine) (33 - l.r) (sharings l.self) (g.M.Machine.state l.machine)
    × (l.self.count ≡ l.initial.self.count)
    × (l.r ≤ 32)
