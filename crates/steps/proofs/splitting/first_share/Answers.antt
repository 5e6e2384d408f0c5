-- `first_share` meets its contract. The invariant: the first j bytes are those of share 0.
use borrow.Author.Rules.{rules}
use Rattle.xor.proofs.Xor.{⊕-is}
use Rattle.steps.specs.Operations.{masked_byte}
use Rattle.steps.proofs.Fill.{fill_turn, filled}
use Rattle.steps.proofs.splitting.first_share.Goals as goal

pub loop-j-preserved : goal.loop-j-preserved
unfolding masked_byte
loop-j-preserved c = fill_turn _ _ _ _ _ c.loop-j.invariant (rw (⊕-is, c.column_sum.ensures)) (search rules)

pub returns : goal.returns
returns c = filled _ _ c.loop-j.invariant (search rules) (search rules)
