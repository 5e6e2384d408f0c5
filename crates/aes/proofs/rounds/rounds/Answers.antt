-- `rounds::rounds` meets its contract: a loop over the rounds.
use Rattle.steps.proofs.Loop.{going_ready, going_on, gone}
use Rattle.aes.proofs.rounds.rounds.Goals as goal

pub round-requires-clause-ready : goal.round-requires-clause-ready
round-requires-clause-ready g c = going_ready c.loop-r.invariant c.requires c.loop-r-test.true

pub loop-r-preserved : goal.loop-r-preserved
loop-r-preserved g c = going_on c.loop-r.invariant c.requires c.loop-r-test.true c.round.ensures

pub returns : goal.returns
returns g c = gone c.loop-r.invariant c.loop-r-test.false
