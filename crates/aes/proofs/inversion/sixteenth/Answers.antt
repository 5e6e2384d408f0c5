-- `inversion::sixteenth` meets its contract: the powers, and the square of the last.
use Rattle.steps.proofs.Parts.{ready_first, ready_next, went_then}
use Rattle.aes.specs.Sbox.{sixteenth as program}
use Rattle.aes.proofs.inversion.sixteenth.Goals as goal

pub powers_of-powers-requires : goal.powers_of-powers-requires
unfolding program
powers_of-powers-requires g c = ready_first _ _ c.requires

pub square-requires : goal.square-requires
unfolding program
square-requires g c = ready_next _ c.requires c.powers_of-powers.ensures

pub returns : goal.returns
unfolding program
returns g c = went_then _ c.powers_of-powers.ensures c.square.ensures
