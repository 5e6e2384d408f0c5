-- `round_keys` meets its contract. The invariant: the key is that of round r, and the first r round keys are written.
use mathlib.Core.Path.{◌≡◌}
use Prim.Native.Nat.{ℕ, ◌+◌}
use Rattle.steps.specs.Fill.{fill}
use Rattle.steps.specs.Iterate.{iterate}
use Rattle.present.specs.Present.{size80, update_key}
use Rattle.present.specs.Decrypt.{round_key_of}
use Rattle.layers.specs.Held.{held}
use Rattle.unshared.proofs.direction.EncryptionDirection.round_keys.Given as goal

-- key r of the list
abbrev pub listed : ℕ → ℕ → ℕ
listed k r = round_key_of size80 k (r + 1)

abbrev pub invariant-loop-r : goal.invariant-loop-r
invariant-loop-r l = (held size80 l.key ≡ iterate 1 l.r (update_key size80) (held size80 l.initial.key)) × (l.keys ≡ fill l.r (listed (held size80 l.initial.key)) l.initial.keys)
