-- `substitution::sub_bytes` meets its contract: a loop over the bytes.
use Prim.Native.Nat.{◌/◌}
use Rattle.steps.specs.Loop.{Going}
use Rattle.rijndael.specs.Masked.{masked_sub_byte}
use Rattle.aes.specs.Sbox.{sbox}
use Rattle.aes.proofs.substitution.sub_bytes.Given as goal

abbrev pub invariant-loop-j : goal.invariant-loop-j
invariant-loop-j g l = Going (masked_sub_byte (sbox l.fn.s.count) (g.row.N / 9) l.fn.s.count) 0 (g.row.N / 9) l.initial.a (g.M.Machine.state l.initial.machine) l.j l.a (g.M.Machine.state l.machine)
