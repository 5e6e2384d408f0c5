-- `linear::bit_at` meets its contract.
use mathlib.Core.Path.{sym}
use Rattle.linear.specs.Bits.{bit}
use Rattle.linear.proofs.Packed.{bits_from}
use Rattle.linear.proofs.packing.bit_at.Goals as goal

pub returns : goal.returns
unfolding bit
returns c = sym (bits_from c.args.n c.requires.0 c.args.a c.args.c c.args.bytes.now)
