-- `blocks::process_blocks` meets its contract. The invariant: the first i blocks are written.
use Prim.Native.Nat.{◌/◌}
use lib.ListN.{length}
use Rattle.xor.specs.Sum.{Small}
use Rattle.steps.specs.Bytes.{from_bytes}
use Rattle.steps.specs.ShareBytes.{share_at}
use Rattle.steps.proofs.View.{Turned}
use Rattle.unshared.proofs.blocks.process_blocks.Given as goal

abbrev pub invariant-loop-i : goal.invariant-loop-i
invariant-loop-i g l =
    Small 8 l.out
    × Turned 8 (length l.blocks / 8) (λ j. g.D.Direction.image (from_bytes l.key) (share_at 8 l.blocks j)) l.i l.initial.out l.out
