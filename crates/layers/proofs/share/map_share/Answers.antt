-- `share::map_share` meets its contract: the bytes of the share are put through the map.
use mathlib.Core.Path.{◌≡◌, ap, ◌∙◌}
use Prim.Native.Nat.{ℕ, ◌*◌}
use native.Mathlib.Omega.{arith}
use Rattle.layers.proofs.State.{share_lent, changed_lent}
use Rattle.layers.proofs.share.map_share.Goals as goal

pub returns : goal.returns
returns g c =
    let w = g.M.ShareMap.BYTES in
    let at : c.BYTES.result * c.args.i ≡ w * c.args.i = ap (λ (b : ℕ). b * c.args.i) c.BYTES.ensures in
    changed_lent w c.args.i _ _ at (omega arith) c.requires (omega arith)
    (c.apply.ensures ∙ ap g.M.ShareMap.image (share_lent w c.args.i _ at (omega arith) c.requires))
