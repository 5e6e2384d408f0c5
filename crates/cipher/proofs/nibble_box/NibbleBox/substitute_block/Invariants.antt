-- `NibbleBox::substitute_block` meets its contract: a loop over the nibbles.
use Rattle.steps.specs.Loop.{Going}
use Rattle.steps.specs.ShareBytes.{sharing, KeptPast}
use Rattle.present.specs.Masked.{masked_nibble}
use Rattle.cipher.specs.Rounds.{sbox_of}
use Rattle.cipher.proofs.nibble_box.NibbleBox.substitute_block.Given as goal

abbrev pub invariant-loop-k : goal.invariant-loop-k
invariant-loop-k g l =
    Going (masked_nibble (sbox_of l.self l.s.shares.count)) 0 16 (sharing 8 l.s.shares.count l.initial.block) (g.M.Machine.state l.initial.machine)
    l.k (sharing 8 l.s.shares.count l.block) (g.M.Machine.state l.machine)
    × KeptPast 8 l.s.shares.count l.initial.block l.block
