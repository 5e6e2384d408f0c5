-- `rounds::by_table` meets its contract. The invariant: y is the block after so many turns.
use mathlib.Core.Path.{◌≡◌, sym, ap, ap₂, ◌∙◌}
use Prim.Native.Nat.{ℕ, ◌+◌}
use native.Mathlib.Omega.{arith}
use lib.ListN.{get_or, take, drop}
use lib.Seq.{get_or-take, get_or-drop}
use Rattle.xor.specs.Xor.{◌⊕◌}
use Rattle.steps.specs.Iterate.{iterate}
use Rattle.steps.proofs.Iterate.{iterate_none, iterate_next}
use Rattle.unshared.specs.RoundKeys.{turn, by_table}
use Rattle.unshared.proofs.rounds.by_table.Goals as goal

pub loop-key-init : goal.loop-key-init
loop-key-init c = sym (iterate_none 1 _ _)

pub loop-key-preserved : goal.loop-key-preserved
unfolding turn ◌⊕◌
loop-key-preserved c =
    let i = c.loop-key.key-index in
    let keys = c.args.keys.now in
    let f : ℕ → ℕ → ℕ = turn c.args.table.now keys in
    let start = get_or keys 0 0 ⊕ c.args.x in
    let next : 1 + i + 1 ≡ 1 + (i + 1) = omega arith in
    let key : get_or (take 31 (drop 1 keys)) i 0 ≡ get_or keys (1 + i) 0 = get_or-take 31 (drop 1 keys) i 0 (omega arith) ∙ get_or-drop 1 keys i 0 in
    ap₂ ◌⊕◌ key c.add_entries.ensures ∙ ap (f (1 + i)) c.loop-key.invariant ∙ sym (iterate_next 1 (1 + i) f start (omega arith))
    ∙ ap (λ (r : ℕ). iterate 1 r f start) next

pub returns : goal.returns
unfolding by_table ◌⊕◌
returns c =
    let e : 1 + c.loop-key.key-index ≡ 32 = omega arith in
    rw e at c.loop-key.invariant
