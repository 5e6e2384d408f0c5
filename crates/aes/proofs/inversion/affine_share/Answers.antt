-- `inversion::affine_share` meets its contract.
use mathlib.Core.Path.{ap₂}
use Rattle.xor.specs.Xor.{◌⊕◌}
use Rattle.aes.proofs.Runs.{affine_room, affine_went}
use Rattle.aes.proofs.inversion.affine_share.Goals as goal

pub record-requires : goal.record-requires
record-requires g c = affine_room _ _ c.requires.ready

pub returns : goal.returns
unfolding ◌⊕◌
returns g c = affine_went _ _ _ (ap₂ ◌⊕◌ c.linear_part.ensures c.constant.ensures) c.record.ensures
