-- `share::add_number` meets its contract.
use mathlib.Core.Path.{refl, ap, ◌∙◌}
use Prim.Native.Nat.{ℕ}
use native.Mathlib.Omega.{arith}
use borrow.Author.Rules.{rules}
use Rattle.xor.specs.Xor.{◌⊕◌}
use Rattle.present.specs.Present.{size80, round_number}
use Rattle.layers.proofs.State.{share_lent, changed_lent}
use Rattle.layers.proofs.share.add_number.Goals as goal

pub returns : goal.returns
returns c =
    changed_lent 10 0 {a = 0} {n = 10} _ _ refl refl (omega arith) (search rules)
    (c.store.ensures ∙ c.add_number.ensures
    ∙ ap (λ (k : ℕ). k ⊕ round_number size80 c.args.r.number) (c.load.ensures ∙ share_lent 10 0 {a = 0} {n = 10} _ refl refl (omega arith)))
