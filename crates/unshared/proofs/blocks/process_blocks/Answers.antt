-- `blocks::process_blocks` meets its contract. The invariant: the first i blocks are written.
use mathlib.Core.Path.{◌≡◌, refl, ap, ◌∙◌}
use Prim.Native.Nat.{◌/◌, ◌^◌, ◌<◌}
use native.Mathlib.Omega.{arith}
use borrow.Author.Rules.{rules}
use lib.ListN.{length}
use Rattle.xor.specs.Sum.{Small}
use Rattle.steps.specs.Bytes.{from_bytes}
use Rattle.steps.proofs.Bytes.{from_bytes_lt}
use Rattle.steps.specs.ShareBytes.{share_at}
use Rattle.steps.proofs.View.{turned_none, turned_more}
use Rattle.layers.proofs.State.{share_lent, changed_lent, from_written}
use Rattle.unshared.proofs.ManyBlocks.{blocks_turned}
use Rattle.unshared.proofs.blocks.process_blocks.Goals as goal

pub loop-i-init : goal.loop-i-init
loop-i-init g c = (λ j. search rules, turned_none)

pub loop-i-preserved : goal.loop-i-preserved
loop-i-preserved g c =
    let i = c.loop-i.i in
    let f = g.D.Direction.image (from_bytes c.args.key.now) in
    let small : Small 8 c.args.key.now = λ j. omega (arith, c.type_inv.key j) in
    let bound : from_bytes c.args.key.now < 2 ^ 80 = rw c.requires.key at (from_bytes_lt c.args.key.now small) in (
      λ j. (c.type_inv.out j).fits,
      turned_more {f = λ j. f (share_at 8 c.args.blocks.now j)} c.loop-i.invariant.1 c.loop-i-test.true
          (changed_lent 8 i _ _ refl (omega arith) (omega arith) (omega arith) (from_written 8 _ _ c.write_u64.ensures (omega arith) (search rules)))
          (c.process.ensures _ bound (c.round_keys-keys.ensures ∙ ap g.D.Direction.schedule c.load.ensures)
          ∙ ap f (c.read_u64-x.ensures ∙ share_lent 8 i _ refl (omega arith) (omega arith))),
    )

pub returns : goal.returns
returns g c =
    let n = length c.args.blocks.now / 8 in
    let f = g.D.Direction.image (from_bytes c.args.key.now) in
    let e : c.loop-i.i ≡ n = omega arith in
    blocks_turned f n c.args.blocks.now {out = c.loop-i.out} c.loop-i.invariant.0 (omega arith) (rw e at c.loop-i.invariant.1)
