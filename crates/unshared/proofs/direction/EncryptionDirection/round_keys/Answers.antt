-- `round_keys` meets its contract. The invariant: the key is that of round r, and the first r round keys are written.
use mathlib.Core.Path.{◌≡◌, refl, sym, ap, ◌∙◌}
use Prim.Native.Nat.{◌+◌}
use borrow.Author.Rules.{rules}
use Rattle.steps.specs.Iterate.{iterate}
use Rattle.steps.proofs.Fill.{fill_first, fill_more, filled}
use Rattle.steps.proofs.Iterate.{iterate_none, iterate_next}
use Rattle.present.specs.Present.{size80, update_key}
use Rattle.layers.specs.Held.{held}
use Rattle.unshared.specs.RoundKeys.{round_keys}
use Rattle.unshared.proofs.Held.{round_key_is}
use Rattle.unshared.proofs.direction.EncryptionDirection.round_keys.Goals as goal

pub loop-r-init : goal.loop-r-init
loop-r-init c =
    let k = held size80 c.args.key in
    let first : k ≡ iterate 1 1 (update_key size80) k = sym (iterate_none 1 (update_key size80) k) in
    (first, fill_first _ _ (round_key_is size80 k 1 c.args.key (search rules) first))

pub loop-r-preserved : goal.loop-r-preserved
loop-r-preserved c =
    let k = held size80 c.args.key in
    let next : held size80 c.update-key.result ≡ iterate 1 (c.loop-r.r + 1) (update_key size80) k =
    c.update-key.ensures ∙ ap (update_key size80 c.loop-r.r) c.loop-r.invariant.0 ∙ sym (iterate_next 1 c.loop-r.r (update_key size80) k c.loop-r.auto.r) in (
      next,
      rw (c.loop-r.invariant.1, round_key_is size80 k (c.loop-r.r + 1) c.update-key.result (search rules) next) (fill_more _ _ _ (search rules)),
    )

pub returns : goal.returns
unfolding round_keys
returns c = filled _ _ c.loop-r.invariant.1 refl (search rules)
