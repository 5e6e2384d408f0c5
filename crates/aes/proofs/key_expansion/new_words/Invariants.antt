-- `key_expansion::new_words` meets its contract: a loop over the words.
use Prim.Native.Nat.{◌+◌, ◌*◌}
use Rattle.steps.specs.Loop.{Going}
use Rattle.rijndael.specs.Masked.{masked_new_word}
use Rattle.aes.specs.Rounds.{expanding_in}
use Rattle.aes.proofs.key_expansion.new_words.Given as goal

abbrev pub invariant-loop-k : goal.invariant-loop-k
invariant-loop-k g l = Going (λ t. masked_new_word l.fn.s.count (4 * l.r.number + t)) 0 4 (expanding_in l.initial.w l.initial.temp) (g.M.Machine.state l.initial.machine) l.k (expanding_in l.w l.temp) (g.M.Machine.state l.machine)
