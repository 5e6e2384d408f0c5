-- `product::product` meets its contract: the starts, and then the rows.
use Rattle.steps.proofs.Parts.{ready_first, ready_next, ready_mark, ready_products, went_then, went_mark}
use Rattle.product.specs.Product as spec
use Rattle.product.proofs.product.Goals as goal

pub begin_product-requires : goal.begin_product-requires
unfolding spec.product
begin_product-requires g c = ready_products _ (ready_mark _ c.requires)

pub starts-requires : goal.starts-requires
unfolding spec.product
starts-requires g c = rw c.begin_product.ensures (ready_first _ _ (ready_mark _ c.requires))

pub rows-requires : goal.rows-requires
unfolding spec.product
rows-requires g c = ready_next _ (ready_mark _ c.requires) (rw c.begin_product.ensures at c.starts.ensures)

pub returns : goal.returns
unfolding spec.product
returns g c = went_mark (went_then _ (rw c.begin_product.ensures at c.starts.ensures) c.rows.ensures)
