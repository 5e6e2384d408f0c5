-- `inversion::powers_of` meets its contract: squares, each of the one before.
use Rattle.steps.proofs.Parts.{ready_first, ready_next, went_then, went_map}
use Rattle.aes.specs.Sbox.{powers as program}
use Rattle.aes.proofs.inversion.powers_of.Goals as goal

pub square-second-requires : goal.square-second-requires
unfolding program
square-second-requires g c = ready_first _ _ c.requires

pub square-fourth-requires : goal.square-fourth-requires
unfolding program
square-fourth-requires g c = ready_first _ _ (ready_next _ c.requires c.square-second.ensures)

pub square-eighth-requires : goal.square-eighth-requires
unfolding program
square-eighth-requires g c = ready_first _ _ (ready_next _ (ready_next _ c.requires c.square-second.ensures) c.square-fourth.ensures)

pub returns : goal.returns
unfolding program
returns g c = went_then _ c.square-second.ensures (went_then _ c.square-fourth.ensures (went_map _ c.square-eighth.ensures))
