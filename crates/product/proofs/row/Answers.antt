-- `product::row` meets its contract: a loop over the pairs of share i.
use native.Mathlib.Omega.{arith}
use Rattle.steps.proofs.Loop.{going_ready, going_on, gone}
use Rattle.product.specs.Product as spec
use Rattle.product.proofs.row.Goals as goal

pub pair-requires : goal.pair-requires
unfolding spec.row
pair-requires g c = record { i_bound = omega (arith, c.args.s.few); ready = going_ready c.loop-j.invariant c.requires.ready c.loop-j-test.true }

pub loop-j-preserved : goal.loop-j-preserved
unfolding spec.row
loop-j-preserved g c = going_on c.loop-j.invariant c.requires.ready c.loop-j-test.true c.pair.ensures

pub returns : goal.returns
unfolding spec.row
returns g c = gone c.loop-j.invariant c.loop-j-test.false
