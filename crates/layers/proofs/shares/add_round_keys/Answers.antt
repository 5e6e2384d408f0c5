-- `shares::add_round_keys` meets its contract. The invariant: the round key is added to the shares before number i.
use mathlib.Core.Path.{sym, ap, ◌∙◌}
use Prim.Native.Nat.{ℕ}
use native.Mathlib.Omega.{arith}
use Rattle.xor.specs.Xor.{◌⊕◌}
use Rattle.present.specs.Present as present
use Rattle.present.proofs.Numbers.{sound80, round_key_linear}
use Rattle.steps.proofs.ShareWise.{sum_linear}
use Rattle.steps.specs.ShareBytes.{share_at, shares_of, sharing}
use Rattle.steps.proofs.View.{map_given, wise_given, turned_more, turned_all}
use Rattle.layers.proofs.shares.add_round_keys.Goals as goal

pub loop-i-preserved : goal.loop-i-preserved
loop-i-preserved c =
    turned_more c.loop-i.invariant c.loop-i-test.true c.add_share.ensures
    (ap (λ (x : ℕ). present.round_key present.size80 (share_at 10 c.args.key.now c.loop-i.i) ⊕ x) (c.loop-i.invariant.ahead c.loop-i.i (omega arith)))

pub returns-clause-block_after : goal.returns-clause-block_after
unfolding sharing shares_of
returns-clause-block_after c =
    let k = share_at 10 c.args.key.now in
    turned_all c.loop-i.invariant c.loop-i-test.false
    ∙ sym (rw (map_given c.args.s.count c.args.s.few (round_key_linear present.size80 sound80) k)
    (wise_given c.args.s.count c.args.s.few (sum_linear 64) (λ i. present.round_key present.size80 (k i)) (share_at 8 c.args.block.now)))
