-- `by_share` meets its contract: a loop over the shares.
use lib.ListN.{set}
use Rattle.steps.proofs.Loop.{going, going_ready, going_on, gone}
use Rattle.steps.proofs.Parts.{ready_first, went_map}
use Rattle.product.specs.ByShare.{by_share}
use Rattle.product.proofs.making.by_share.Goals as goal

pub loop-i-init : goal.loop-i-init
loop-i-init g c = λ f h y. going

pub share-requires : goal.share-requires
unfolding by_share
share-requires g c =
    c.requires.1.callable c.loop-i.i _ c.loop-i-test.true
    (ready_first _ _ (going_ready (c.loop-i.invariant c.requires.0 c.requires.1 c.requires.2) c.requires.2 c.loop-i-test.true))

pub loop-i-preserved : goal.loop-i-preserved
unfolding by_share
loop-i-preserved g c = λ f h y.
    going_on (c.loop-i.invariant f h y) y c.loop-i-test.true
    (went_map (λ v. set c.loop-i.c c.loop-i.i v) (h.runs _ _ _ _ c.loop-i-test.true c.share.ensures))

pub returns : goal.returns
unfolding by_share
returns g c = λ f h y. gone (c.loop-i.invariant f h y) c.loop-i-test.false
