-- `NibbleBox::substitute_block` meets its contract: a loop over the nibbles.
use Rattle.steps.proofs.Loop.{going_on, gone}
use Rattle.steps.proofs.Past.{kept_then}
use Rattle.present.specs.Masked.{masked_sbox_layer}
use Rattle.cipher.proofs.Prepared.{prepared_turn}
use Rattle.cipher.proofs.nibble_box.NibbleBox.substitute_block.Goals as goal

pub substitute-requires-clause-prepared : goal.substitute-requires-clause-prepared
unfolding masked_sbox_layer
substitute-requires-clause-prepared g c = prepared_turn c.loop-k.invariant.0 c.requires c.loop-k-test.true

pub loop-k-preserved : goal.loop-k-preserved
unfolding masked_sbox_layer
loop-k-preserved g c =
    (going_on c.loop-k.invariant.0 c.requires.ready c.loop-k-test.true c.substitute.ensures.went, kept_then c.loop-k.invariant.1 c.substitute.ensures.kept_past)

pub returns-clause-went : goal.returns-clause-went
unfolding masked_sbox_layer
returns-clause-went g c = gone c.loop-k.invariant.0 c.loop-k-test.false
