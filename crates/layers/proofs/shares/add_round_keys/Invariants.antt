-- `shares::add_round_keys` meets its contract. The invariant: the round key is added to the shares before number i.
use Rattle.xor.specs.Xor.{◌⊕◌}
use Rattle.present.specs.Present as present
use Rattle.steps.specs.ShareBytes.{share_at}
use Rattle.steps.proofs.View.{Turned}
use Rattle.layers.proofs.shares.add_round_keys.Given as goal

abbrev pub invariant-loop-i : goal.invariant-loop-i
invariant-loop-i l = Turned 8 l.fn.s.count (λ j. present.round_key present.size80 (share_at 10 l.key j) ⊕ share_at 8 l.initial.block j) l.i l.initial.block l.block
