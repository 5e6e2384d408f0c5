-- `inversion::sbox` meets its contract: the inverse, and the affine map.
use Rattle.steps.proofs.Parts.{ready_first, ready_next, went_then}
use Rattle.aes.specs.Sbox.{sbox as program}
use Rattle.aes.proofs.inversion.sbox.Goals as goal

pub inverted-y-requires : goal.inverted-y-requires
unfolding program
inverted-y-requires g c = ready_first _ _ c.requires

pub affine-requires : goal.affine-requires
unfolding program
affine-requires g c = ready_next _ c.requires c.inverted-y.ensures

pub returns : goal.returns
unfolding program
returns g c = went_then _ c.inverted-y.ensures c.affine.ensures
