-- `linear::put_bit` meets its contract.
use Rattle.xor.specs.Xor.{◌⊕◌}
use Rattle.linear.proofs.Packed.{byte_with, bit_written, small_written}
use Rattle.linear.proofs.packing.put_bit.Goals as goal

pub returns : goal.returns
unfolding byte_with ◌⊕◌
returns c =
    record {
      written = bit_written c.args.n c.requires.0 c.args.a c.args.c c.args.bytes.now c.args.v c.requires.1 c.requires.2 c.requires.3;
      small = small_written c.args.n c.requires.0 c.args.a c.args.c c.args.bytes.now c.args.v c.requires.1 c.requires.2 c.requires.3;
    }
