-- `inversion::multiplied` meets its contract: three products, each of the one before.
use Rattle.steps.proofs.Parts.{ready_first, ready_next, went_then}
use Rattle.aes.specs.Sbox.{multiplied as program}
use Rattle.aes.proofs.inversion.multiplied.Goals as goal

pub product-x50-requires : goal.product-x50-requires
unfolding program
product-x50-requires g c = ready_first _ _ c.requires

pub product-x118-requires : goal.product-x118-requires
unfolding program
product-x118-requires g c = ready_first _ _ (ready_next _ c.requires c.product-x50.ensures)

pub product-requires : goal.product-requires
unfolding program
product-requires g c = ready_next _ (ready_next _ c.requires c.product-x50.ensures) c.product-x118.ensures

pub returns : goal.returns
unfolding program
returns g c = went_then _ c.product-x50.ensures (went_then _ c.product-x118.ensures c.product.ensures)
