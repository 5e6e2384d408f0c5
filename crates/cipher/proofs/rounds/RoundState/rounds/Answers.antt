-- `RoundState::rounds` meets its contract: a loop over the rounds.
use mathlib.Core.Path.{◌∙◌}
use Rattle.steps.proofs.Loop.{going_on, gone}
use Rattle.cipher.proofs.Prepared.{prepared_turn}
use Rattle.cipher.proofs.rounds.RoundState.rounds.Goals as goal

pub round-requires : goal.round-requires
round-requires g c = rw c.loop-r.invariant.1 (prepared_turn (rw c.loop-r.invariant.1 at c.loop-r.invariant.0) c.requires c.loop-r-test.true)

pub loop-r-preserved : goal.loop-r-preserved
loop-r-preserved g c = (
  going_on (rw c.loop-r.invariant.1 at c.loop-r.invariant.0) c.requires.ready c.loop-r-test.true (rw c.loop-r.invariant.1 at c.round.ensures.went),
  c.round.ensures.same_count ∙ c.loop-r.invariant.1,
)

pub returns-clause-went : goal.returns-clause-went
returns-clause-went g c = gone c.loop-r.invariant.0 c.loop-r-test.false
