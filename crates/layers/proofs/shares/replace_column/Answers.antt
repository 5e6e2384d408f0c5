-- `shares::replace_column` meets its contract. The invariant: the nibble is replaced in the shares before number i.
use mathlib.Core.Path.{refl, sym, ap, ◌∙◌}
use Prim.Native.Nat.{ℕ, ◌+◌, ◌*◌}
use native.Mathlib.Omega.{arith}
use borrow.Author.Rules.{rules}
use Rattle.steps.specs.Sharing.{share, share_wise}
use Rattle.present.specs.Present as present
use Rattle.present.proofs.Numbers.{replace_linear}
use Rattle.steps.specs.ShareBytes.{share_at, shares_of, sharing}
use Rattle.steps.proofs.View.{is_given, wise_given, turned_more, turned_all}
use Rattle.layers.proofs.shares.replace_column.Goals as goal

pub loop-i-preserved : goal.loop-i-preserved
loop-i-preserved c = (
  search rules,
  turned_more c.loop-i.invariant.1 c.loop-i-test.true c.replace.ensures
      (ap (λ (x : ℕ). present.replace c.args.k x (share c.args.v.now c.loop-i.i)) (c.loop-i.invariant.1.ahead c.loop-i.i (omega arith))),
)

pub returns-clause-l_after : goal.returns-clause-l_after
unfolding sharing shares_of
returns-clause-l_after c =
    let v = share c.args.v.now in
    let given = is_given c.args.s.count c.args.s.few v c.args.v.now c.requires.v_sharing.0 (λ i k. refl) c.requires.v_sharing.1.past in
    turned_all c.loop-i.invariant.1 c.loop-i-test.false
    ∙ sym (ap (share_wise (present.replace c.args.k) (sharing c.args.w c.args.s.count c.args.l.now)) given
    ∙ wise_given c.args.s.count c.args.s.few (replace_linear (4 * c.args.k + 4) c.args.k (omega arith)) (share_at c.args.w c.args.l.now) v)
