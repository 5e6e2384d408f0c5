-- `key_expansion::power_of_two` meets its contract: one is doubled e times.
use mathlib.Core.Path.{◌≡◌}
use Prim.Native.Nat.{◌<◌}
use Rattle.field.specs.Power.{pow}
use Rattle.aes.proofs.key_expansion.power_of_two.Given as goal

abbrev pub invariant-loop-i : goal.invariant-loop-i
invariant-loop-i l = (l.power ≡ pow 8 2 l._i) × (l.power < 256)
