-- `apply` meets its contract.
use mathlib.Core.Path.{ap, ◌∙◌}
use native.Mathlib.Omega.{arith}
use borrow.Author.Rules.{rules}
use Rattle.present.specs.Decrypt.{unpermute}
use Rattle.layers.proofs.State.{from_written}
use Rattle.layers.proofs.share.InversePermutationShareMap.apply.Goals as goal

pub returns : goal.returns
returns c =
    from_written 8 _ _ c.write_u64.ensures (omega arith) (search rules) ∙ c.unpermute.ensures ∙ ap unpermute c.read_u64-x.ensures
