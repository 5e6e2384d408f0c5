-- `share::replace` meets its contract.
use Rattle.xor.specs.Xor.{◌⊕◌}
use Rattle.layers.proofs.State.{byte_with, changed_nibble}
use borrow.Author.Rules.{rules}
use Rattle.layers.proofs.share.replace.Goals as goal

pub returns : goal.returns
unfolding byte_with ◌⊕◌
returns c =
    changed_nibble c.args.w c.args.i c.args.k c.args.v c.args.l.now (λ j. search rules) (search rules) (search rules) (search rules)
