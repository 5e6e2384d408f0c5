-- `shares::replace_column` meets its contract. The invariant: the nibble is replaced in the shares before number i.
use mathlib.Core.Path.{◌≡◌}
use lib.ListN.{length}
use Rattle.steps.specs.Sharing.{share}
use Rattle.present.specs.Present as present
use Rattle.steps.specs.ShareBytes.{share_at}
use Rattle.steps.proofs.View.{Turned}
use Rattle.layers.proofs.shares.replace_column.Given as goal

abbrev pub invariant-loop-i : goal.invariant-loop-i
invariant-loop-i l = (length l.l ≡ length l.initial.l) × Turned l.w l.fn.s.count (λ j. present.replace l.k (share_at l.w l.initial.l j) (share l.v j)) l.i l.initial.l l.l
