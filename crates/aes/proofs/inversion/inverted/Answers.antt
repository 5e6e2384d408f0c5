-- `inversion::inverted` meets its contract: x ^ 16, x ^ 17, its powers, and three products.
use Rattle.steps.proofs.Parts.{ready_first, ready_next, went_then}
use Rattle.aes.specs.Sbox.{inverted as program}
use Rattle.aes.proofs.inversion.inverted.Goals as goal

pub sixteenth-x16-requires : goal.sixteenth-x16-requires
unfolding program
sixteenth-x16-requires g c = ready_first _ _ c.requires

pub product-x17-requires : goal.product-x17-requires
unfolding program
product-x17-requires g c = ready_first _ _ (ready_next _ c.requires c.sixteenth-x16.ensures)

pub powers_of-powers-requires : goal.powers_of-powers-requires
unfolding program
powers_of-powers-requires g c = ready_first _ _ (ready_next _ (ready_next _ c.requires c.sixteenth-x16.ensures) c.product-x17.ensures)

pub multiplied-requires : goal.multiplied-requires
unfolding program
multiplied-requires g c =
    ready_next _ (ready_next _ (ready_next _ c.requires c.sixteenth-x16.ensures) c.product-x17.ensures) c.powers_of-powers.ensures

pub returns : goal.returns
unfolding program
returns g c =
    went_then _ c.sixteenth-x16.ensures
    (went_then _ c.product-x17.ensures
    (went_then _ c.powers_of-powers.ensures
    c.multiplied.ensures))
