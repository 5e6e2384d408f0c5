-- `products` meets its contract: a loop over the products.
use lib.ListN.{set}
use Rattle.steps.proofs.Loop.{going_ready, going_on, gone}
use Rattle.steps.proofs.Parts.{ready_first, went_map}
use Rattle.sbox.specs.TableSteps as spec
use Rattle.sbox.proofs.product_rows.products.Goals as goal

pub product-requires : goal.product-requires
unfolding spec.product_row
product-requires g c = ready_first _ _ (going_ready c.loop-j.invariant c.requires.ready c.loop-j-test.true)

pub loop-j-preserved : goal.loop-j-preserved
unfolding spec.product_row
loop-j-preserved g c =
    going_on c.loop-j.invariant c.requires.ready c.loop-j-test.true (went_map (λ row. set c.loop-j.p c.loop-j.j row) c.product.ensures)

pub returns : goal.returns
returns g c = gone c.loop-j.invariant c.loop-j-test.false
