-- `record_all` meets its contract. The invariant: the elements that are left lead to where all do.
use mathlib.Core.Path.{◌≡◌}
use Prim.Native.Nat.{◌+◌}
use lib.ListN.{length, drop}
use Rattle.steps.specs.Machine.{recorded_all}
use Rattle.steps.proofs.machine.Machine.record_all.Given as goal

abbrev pub invariant-loop-v : goal.invariant-loop-v
invariant-loop-v g l =
    let s = g.Self.Machine.state l.self in
    let first = g.Self.Machine.state l.initial.self in
    record {
      steps : s.counts.steps ≡ first.counts.steps + l.v-index;
      places : length s.watch ≡ length s.values;
      rest : recorded_all (drop l.v-index l.elements) s ≡ recorded_all l.elements first;
    }
