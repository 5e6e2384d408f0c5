-- `share::add_share` meets its contract.
use mathlib.Core.Path.{◌≡◌, refl, sym, ap₂, ◌∙◌}
use Prim.Native.Nat.{◌*◌}
use native.Mathlib.Omega.{arith}
use Rattle.xor.specs.Xor.{◌⊕◌}
use Rattle.xor.specs.Sum.{Small}
use Rattle.xor.proofs.Xor.{⊕-lt}
use Rattle.present.specs.Present as present
use Rattle.steps.specs.ShareBytes.{share_at}
use Rattle.layers.proofs.State.{from_written, bytes_lent, share_lent, changed_lent, round_key_first}
use Rattle.layers.proofs.share.add_share.Goals as goal

pub returns : goal.returns
unfolding ◌⊕◌
returns c =
    let i = c.args.i in
    let small : Small 8 c.args.key.now = λ j. omega (arith, c.type_inv.key j) in
    let key : c.read_u64-round_key.result ≡ present.round_key present.size80 (share_at 10 c.args.key.now i) =
    c.read_u64-round_key.ensures ∙ bytes_lent (10 * i) 8 _ (omega arith) (omega arith) ∙ sym (round_key_first i c.args.key.now small) in
    let block : c.read_u64-x.result ≡ share_at 8 c.args.block.now i = c.read_u64-x.ensures ∙ share_lent 8 i _ refl (omega arith) (omega arith) in
    changed_lent 8 i _ _ refl (omega arith) (omega arith) (omega arith)
    (from_written 8 _ _ c.write_u64.ensures (omega arith) (⊕-lt 64 c.read_u64-round_key.type_inv c.read_u64-x.type_inv) ∙ ap₂ ◌⊕◌ key block)
