-- `key_schedule::run_key` meets its contract: a loop over the rounds.
use Rattle.steps.specs.Loop.{Going}
use Rattle.steps.specs.ShareBytes.{sharing, KeptPast}
use Rattle.present.specs.Present.{size80}
use Rattle.present.specs.Masked.{masked_update}
use Rattle.cipher.specs.Rounds.{sbox_of}
use Rattle.cipher.proofs.key_schedule.run_key.Given as goal

abbrev pub invariant-loop-r : goal.invariant-loop-r
invariant-loop-r g l =
    Going (masked_update (sbox_of l.nibble_box l.s.shares.count) size80 l.s.shares.count) 1 32 (sharing 10 l.s.shares.count l.initial.key) (g.M.Machine.state l.initial.machine)
    l.r (sharing 10 l.s.shares.count l.key) (g.M.Machine.state l.machine)
    × KeptPast 10 l.s.shares.count l.initial.key l.key
