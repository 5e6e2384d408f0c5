-- `bytes::write_u64` meets its contract.
use mathlib.Core.Path.{◌∙◌}
use Rattle.layers.proofs.State.{eight_written}
use Rattle.layers.proofs.bytes.write_u64.Goals as goal

pub returns : goal.returns
returns c = c.copy_from_slice.ensures.after ∙ c.to_be_bytes.ensures ∙ eight_written c.args.x
