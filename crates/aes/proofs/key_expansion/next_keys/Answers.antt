-- `key_expansion::next_keys` meets its contract: a loop over the round keys.
use Rattle.steps.proofs.Loop.{going_ready, going_on, gone}
use Rattle.aes.proofs.key_expansion.next_keys.Goals as goal

pub next_key-requires : goal.next_key-requires
next_key-requires g c = going_ready c.loop-r.invariant c.requires c.loop-r-test.true

pub loop-r-preserved : goal.loop-r-preserved
loop-r-preserved g c = going_on c.loop-r.invariant c.requires c.loop-r-test.true c.next_key.ensures

pub returns : goal.returns
returns g c = gone c.loop-r.invariant c.loop-r-test.false
