-- `RoundState::rounds` meets its contract: a loop over the rounds.
use mathlib.Core.Path.{◌≡◌}
use Rattle.steps.specs.Loop.{Going}
use Rattle.present.specs.Present.{size80}
use Rattle.present.specs.Masked.{masked_round}
use Rattle.cipher.specs.Rounds.{sbox_of, sharings}
use Rattle.cipher.proofs.rounds.RoundState.rounds.Given as goal

abbrev pub invariant-loop-r : goal.invariant-loop-r
invariant-loop-r g l =
    Going (masked_round (sbox_of l.nibble_box l.initial.self.count.shares.count) size80 l.initial.self.count.shares.count) 1 32
    (sharings l.initial.self) (g.M.Machine.state l.initial.machine) l.r (sharings l.self) (g.M.Machine.state l.machine)
    × (l.self.count ≡ l.initial.self.count)
