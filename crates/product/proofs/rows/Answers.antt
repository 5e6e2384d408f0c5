-- `product::rows` meets its contract: a loop over the rows of pairs.
use Rattle.steps.proofs.Loop.{going_ready, going_on, gone}
use Rattle.product.proofs.rows.Goals as goal

pub row-requires : goal.row-requires
row-requires g c = record { i_bound = c.loop-i-test.true; ready = going_ready c.loop-i.invariant c.requires c.loop-i-test.true }

pub loop-i-preserved : goal.loop-i-preserved
loop-i-preserved g c = going_on c.loop-i.invariant c.requires c.loop-i-test.true c.row.ensures

pub returns : goal.returns
returns g c = gone c.loop-i.invariant c.loop-i-test.false
