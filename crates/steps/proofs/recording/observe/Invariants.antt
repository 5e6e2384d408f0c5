-- `observe` meets its contract. The invariant: the places before k are as they will be, the others are still to be gone through.
use mathlib.Core.Path.{◌≡◌}
use lib.ListN.{length}
use Rattle.steps.specs.Recorder.{seen}
use Rattle.steps.proofs.Recorder.{seen_from}
use Rattle.steps.proofs.recording.observe.Given as goal

abbrev pub invariant-loop-k : goal.invariant-loop-k
invariant-loop-k l = (length l.values ≡ length l.initial.values) × (seen l.list l.step l.v l.initial.values ≡ seen_from l.list l.step l.v l.values l.k)
