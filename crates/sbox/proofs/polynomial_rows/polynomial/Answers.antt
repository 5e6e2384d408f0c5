-- `polynomial` meets its contract: a loop over the shares.
use lib.ListN.{set}
use Rattle.steps.proofs.Loop.{going_ready, going_on, gone}
use Rattle.steps.proofs.Parts.{ready_first, went_map}
use Rattle.product.specs.ByShare as by_share
use Rattle.sbox.specs.Sbox as sbox
use Rattle.sbox.proofs.TableRuns.{as_many_terms}
use Rattle.sbox.proofs.polynomial_rows.polynomial.Goals as goal

pub polynomial_share-requires-clause-ready : goal.polynomial_share-requires-clause-ready
unfolding sbox.polynomial by_share.by_share
polynomial_share-requires-clause-ready g c =
    ready_first _ _ (going_ready c.loop-i.invariant (rw (as_many_terms _ g.met.F.NarrowField.listed) at c.requires.ready) c.loop-i-test.true)

pub loop-i-preserved : goal.loop-i-preserved
unfolding sbox.polynomial by_share.by_share
loop-i-preserved g c =
    going_on c.loop-i.invariant (rw (as_many_terms _ g.met.F.NarrowField.listed) at c.requires.ready) c.loop-i-test.true
    (went_map (λ v. set c.loop-i.c c.loop-i.i v) c.polynomial_share.ensures)

pub returns : goal.returns
unfolding sbox.polynomial by_share.by_share
returns g c = rw (as_many_terms _ g.met.F.NarrowField.listed) (gone c.loop-i.invariant c.loop-i-test.false)
