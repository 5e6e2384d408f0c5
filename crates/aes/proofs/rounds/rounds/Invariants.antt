-- `rounds::rounds` meets its contract: a loop over the rounds.
use Rattle.steps.specs.Loop.{Going}
use Rattle.rijndael.specs.Masked.{masked_round}
use Rattle.aes.specs.Sbox.{sbox}
use Rattle.aes.proofs.rounds.rounds.Given as goal

abbrev pub invariant-loop-r : goal.invariant-loop-r
invariant-loop-r g l = Going (masked_round (sbox l.fn.s.count) l.fn.s.count l.w) 1 10 l.initial.state (g.M.Machine.state l.initial.machine) l.r l.state (g.M.Machine.state l.machine)
