-- `shares::map_shares` meets its contract. The invariant: the shares before number i are put through the map.
use Rattle.steps.specs.ShareBytes.{share_at}
use Rattle.steps.proofs.View.{Turned}
use Rattle.layers.proofs.shares.map_shares.Given as goal

abbrev pub invariant-loop-i : goal.invariant-loop-i
invariant-loop-i g l = Turned g.M.ShareMap.BYTES l.fn.s.count (λ j. g.M.ShareMap.image (share_at g.M.ShareMap.BYTES l.initial.l j)) l.i l.initial.l l.l
