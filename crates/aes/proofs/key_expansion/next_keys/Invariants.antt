-- `key_expansion::next_keys` meets its contract: a loop over the round keys.
use Rattle.steps.specs.Loop.{Going}
use Rattle.rijndael.specs.Masked.{masked_next_key}
use Rattle.aes.specs.Sbox.{sbox}
use Rattle.aes.proofs.key_expansion.next_keys.Given as goal

abbrev pub invariant-loop-r : goal.invariant-loop-r
invariant-loop-r g l = Going (masked_next_key (sbox l.fn.s.count) l.fn.s.count) 1 11 l.initial.w (g.M.Machine.state l.initial.machine) l.r l.w (g.M.Machine.state l.machine)
