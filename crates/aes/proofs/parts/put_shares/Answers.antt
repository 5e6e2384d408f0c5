-- `parts::put_shares` meets its contract: a loop over the shares.
use mathlib.Core.Path.{refl, ap, ◌∙◌}
use Prim.Native.Nat.{◌+◌, ◌*◌, ◌/◌, ◌≤◌}
use native.Mathlib.Numerals.{add-one}
use native.Mathlib.Omega.{arith}
use lib.ListN.{length}
use Rattle.rijndael.specs.Strings.{put_shares, put_places, share_byte}
use Rattle.aes.proofs.Bounds.{within, few, next_share}
use Rattle.aes.proofs.Fills.{put_copied}
use Rattle.aes.proofs.parts.put_shares.Goals as goal

pub loop-i-init : goal.loop-i-init
unfolding put_shares
loop-i-init g c = refl

pub loop-i-preserved : goal.loop-i-preserved
unfolding put_shares
loop-i-preserved g c =
    let m = g.row.N / 9 in
    let n = g.row.P / 9 in
    let i = c.loop-i.i in
    let part = c.args.part.now in
    let fits : i * m + c.args.at + n ≤ length c.loop-i.string =
    omega (arith, within m c.loop-i-test.true, few g.row.N c.args.s.few, c.requires, c.loop-i.auto.string, c.told-a) in
    let has : i * n + n ≤ length part = omega (arith, within n c.loop-i-test.true, few g.row.P c.args.s.few, c.told-part) in
    put_copied c.loop-i.string part (i * m + c.args.at) n (i * n) fits has (next_share i n) (omega arith) c.copy_from_slice.ensures.after
    ∙ rw (add-one i) (ap (put_places (i * m + c.args.at) n (share_byte n part i)) c.loop-i.invariant)
