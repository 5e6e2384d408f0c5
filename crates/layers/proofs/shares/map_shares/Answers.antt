-- `shares::map_shares` meets its contract. The invariant: the shares before number i are put through the map.
use mathlib.Core.Path.{sym, ap, ◌∙◌}
use native.Mathlib.Omega.{arith}
use Rattle.steps.specs.ShareBytes.{share_at, shares_of, sharing}
use Rattle.steps.proofs.View.{map_given, turned_more, turned_all}
use Rattle.layers.proofs.shares.map_shares.Goals as goal

pub loop-i-preserved : goal.loop-i-preserved
loop-i-preserved g c =
    turned_more c.loop-i.invariant c.loop-i-test.true c.map_share.ensures (ap g.M.ShareMap.image (c.loop-i.invariant.ahead c.loop-i.i (omega arith)))

pub returns-clause-l_after : goal.returns-clause-l_after
unfolding sharing shares_of
returns-clause-l_after g c =
    turned_all c.loop-i.invariant c.loop-i-test.false
    ∙ sym (map_given c.args.s.count c.args.s.few g.met.M.ShareMap.linear (share_at g.M.ShareMap.BYTES c.args.l.now))
