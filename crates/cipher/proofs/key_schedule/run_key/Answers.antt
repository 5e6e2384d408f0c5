-- `key_schedule::run_key` meets its contract: a loop over the rounds.
use Rattle.steps.proofs.Loop.{going_on, gone}
use Rattle.steps.proofs.Past.{kept_then}
use Rattle.cipher.proofs.Prepared.{prepared_turn}
use Rattle.cipher.proofs.key_schedule.run_key.Goals as goal

pub update_key-requires : goal.update_key-requires
update_key-requires g c = prepared_turn c.loop-r.invariant.0 c.requires c.loop-r-test.true

pub loop-r-preserved : goal.loop-r-preserved
loop-r-preserved g c =
    (going_on c.loop-r.invariant.0 c.requires.ready c.loop-r-test.true c.update_key.ensures.went, kept_then c.loop-r.invariant.1 c.update_key.ensures.kept_past)

pub returns-clause-went : goal.returns-clause-went
returns-clause-went g c = gone c.loop-r.invariant.0 c.loop-r-test.false
