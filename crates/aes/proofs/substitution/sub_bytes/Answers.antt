-- `substitution::sub_bytes` meets its contract: a loop over the bytes.
use native.Mathlib.Omega.{arith}
use Rattle.steps.proofs.Loop.{going_ready, going_on, gone}
use Rattle.rijndael.specs.Masked.{masked_sub_bytes}
use Rattle.aes.proofs.substitution.sub_bytes.Goals as goal

pub sub_byte-requires : goal.sub_byte-requires
unfolding masked_sub_bytes
sub_byte-requires g c = (omega (arith, c.well_formed), (c.loop-j-test.true, going_ready c.loop-j.invariant c.requires c.loop-j-test.true))

pub loop-j-preserved : goal.loop-j-preserved
unfolding masked_sub_bytes
loop-j-preserved g c = going_on c.loop-j.invariant c.requires c.loop-j-test.true c.sub_byte.ensures

pub returns : goal.returns
unfolding masked_sub_bytes
returns g c = gone c.loop-j.invariant c.loop-j-test.false
