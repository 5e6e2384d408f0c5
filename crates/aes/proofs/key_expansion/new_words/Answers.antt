-- `key_expansion::new_words` meets its contract: a loop over the words.
use Rattle.steps.proofs.Loop.{going_ready, going_on, gone}
use Rattle.aes.proofs.key_expansion.new_words.Goals as goal

pub new_word-requires-clause-ready : goal.new_word-requires-clause-ready
new_word-requires-clause-ready g c = going_ready c.loop-k.invariant c.requires c.loop-k-test.true

pub loop-k-preserved : goal.loop-k-preserved
loop-k-preserved g c = going_on c.loop-k.invariant c.requires c.loop-k-test.true c.new_word.ensures

pub returns : goal.returns
returns g c = gone c.loop-k.invariant c.loop-k-test.false
