-- `product::starts` meets its contract: a loop over the shares.
use native.Mathlib.Omega.{arith}
use Rattle.steps.proofs.Loop.{going_ready, going_on, gone}
use Rattle.product.proofs.starts.Goals as goal

pub start-requires : goal.start-requires
start-requires g c = record { i_bound = omega (arith, c.args.s.few); ready = going_ready c.loop-i.invariant c.requires c.loop-i-test.true }

pub loop-i-preserved : goal.loop-i-preserved
loop-i-preserved g c = going_on c.loop-i.invariant c.requires c.loop-i-test.true c.start.ensures

pub returns : goal.returns
returns g c = gone c.loop-i.invariant c.loop-i-test.false
