-- `round_keys` meets its contract. The invariant: the inverse permutation has met so many keys.
use mathlib.Core.Path.{◌≡◌, ap, ap₂, ◌∙◌}
use mathlib.Core.List.{List, reverse}
use Prim.Native.Nat.{ℕ, ◌+◌, ◌-◌}
use native.Mathlib.Omega.{arith}
use lib.ListN.{length, get_or, set}
use Rattle.steps.specs.Fill.{tabulate}
use Rattle.steps.proofs.Fill.{length_tabulate, get_d_tabulate, tabulate_same, fill_none, fill_more, filled, reverse_tabulate, get_or_fill_past}
use Rattle.present.specs.Present.{size80}
use Rattle.present.specs.Decrypt.{unpermute, round_key_of}
use Rattle.layers.specs.Held.{held}
use Rattle.unshared.specs.RoundKeys.{round_keys, inverse_keys}
use Rattle.unshared.proofs.direction.DecryptionDirection.round_keys.Goals as goal

pub loop-k-init : goal.loop-k-init
loop-k-init c = fill_none _ _

pub loop-k-preserved : goal.loop-k-preserved
loop-k-preserved c =
    let keys = c.round_keys-keys.result in
    let f : ℕ → ℕ = λ j. unpermute (get_or keys j 0) in
    let k = c.loop-k.k-index in
    let here : c.unpermute.result ≡ f k =
    c.unpermute.ensures ∙ ap (λ (l : List ℕ). unpermute (get_or l k 0)) c.loop-k.invariant ∙ ap unpermute (get_or_fill_past k f keys k 0 (omega arith)) in
    ap₂ (λ (l : List ℕ) (v : ℕ). set l k v) c.loop-k.invariant here ∙ fill_more k f keys (omega arith)

pub returns : goal.returns
unfolding inverse_keys round_keys
returns c =
    let key : ℕ → ℕ = round_key_of size80 (held size80 c.args.key) in
    let keys = c.round_keys-keys.result in
    let size : length keys ≡ 32 = ap length c.round_keys-keys.ensures ∙ length_tabulate 32 (λ r. key (r + 1)) in
    let met : c.loop-k.k-items ≡ tabulate 32 (λ r. unpermute (key (r + 1))) =
    filled _ keys c.loop-k.invariant size (omega arith)
    ∙ tabulate_same 32 (λ r. unpermute (get_or keys r 0)) (λ r. unpermute (key (r + 1)))
    (λ r h. ap unpermute (ap (λ (m : List ℕ). get_or m r 0) c.round_keys-keys.ensures ∙ get_d_tabulate 32 (λ j. key (j + 1)) r 0 h)) in
    c.reverse.ensures.after ∙ ap reverse met ∙ reverse_tabulate 32 (λ r. unpermute (key (r + 1)))
    ∙ tabulate_same 32 (λ r. unpermute (key (32 - 1 - r + 1))) (λ r. unpermute (key (32 - r)))
    (λ r h. let d : 32 - 1 - r + 1 ≡ 32 - r = omega arith in ap (λ (j : ℕ). unpermute (key j)) d)
