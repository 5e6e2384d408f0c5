-- `lookup::add_entries` meets its contract. The invariant: the entries of the first j bytes are added.
use mathlib.Core.Path.{◌≡◌}
use Rattle.xor.specs.Sum.{sum_of}
use Rattle.unshared.specs.Lookup.{byte_entry}
use Rattle.unshared.proofs.lookup.add_entries.Given as goal

abbrev pub invariant-loop-j : goal.invariant-loop-j
invariant-loop-j l = l.y ≡ sum_of l.j (byte_entry l.table l.x)
