-- `parts::put_shares` meets its contract: a loop over the shares.
use mathlib.Core.Path.{◌≡◌}
use Prim.Native.Nat.{◌/◌}
use Rattle.rijndael.specs.Strings.{put_shares}
use Rattle.aes.proofs.parts.put_shares.Given as goal

abbrev pub invariant-loop-i : goal.invariant-loop-i
invariant-loop-i g l = l.string ≡ put_shares l.i (g.row.N / 9) l.fn.at (g.row.P / 9) l.initial.string l.part
