-- `multiply_rows` meets its contract: the product is that of the definition.
use lib.ListN.{set}
use Rattle.steps.proofs.Parts.{ready_first, went_map}
use Rattle.sbox.specs.TableSteps as spec
use Rattle.sbox.proofs.power_rows.multiply_rows.Goals as goal

pub product-requires : goal.product-requires
unfolding spec.multiply_rows
product-requires g c = ready_first _ _ c.requires.ready

pub returns : goal.returns
unfolding spec.multiply_rows
returns g c = went_map (λ row. set c.args.t.now c.args.z row) c.product.ensures
