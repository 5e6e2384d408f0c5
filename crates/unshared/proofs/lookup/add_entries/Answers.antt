-- `lookup::add_entries` meets its contract. The invariant: the entries of the first j bytes are added.
use mathlib.Core.Path.{◌≡◌}
use native.Mathlib.Omega.{arith}
use Rattle.xor.specs.Xor.{◌⊕◌}
use Rattle.unshared.specs.Lookup.{entries}
use Rattle.unshared.proofs.Tables.{none_added, one_more_added}
use Rattle.unshared.proofs.lookup.add_entries.Goals as goal

pub loop-j-init : goal.loop-j-init
loop-j-init c = none_added c.args.table.now c.args.x

pub loop-j-preserved : goal.loop-j-preserved
unfolding ◌⊕◌
loop-j-preserved c = one_more_added c.args.table.now c.args.x c.loop-j.j c.loop-j.invariant c.place.ensures.0

pub returns : goal.returns
unfolding entries
returns c =
    let e : c.loop-j.j ≡ 8 = omega arith in
    rw e at c.loop-j.invariant
