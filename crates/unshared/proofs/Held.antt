-- The laws of the round keys of a key that is held in two parts.
use mathlib.Core.Path.{◌≡◌, sym, ap, ◌∙◌}
use Prim.Native.Nat.{ℕ, ◌-◌, ◌^◌, ◌<◌}
use lib.Pow.{high}
use Rattle.steps.specs.Iterate.{iterate}
use Rattle.present.specs.Present.{Size, key_bits, round_key, update_key}
use Rattle.present.specs.Decrypt.{round_key_of}
use Rattle.layers.specs.declared.key.Key.{Key}
use Rattle.layers.specs.Held.{held}

-- the round key is the first part
round_key_held : (z : Size) (h : Key) → h.low < 2 ^ (key_bits z - 64) → round_key z (held z h) ≡ h.high
unfolding round_key
round_key_held z h l = high h.high (key_bits z - 64) l

-- of the key of round r, that of round r
pub round_key_is : (z : Size) (k r : ℕ) (h : Key) → h.low < 2 ^ (key_bits z - 64) → held z h ≡ iterate 1 r (update_key z) k
    → h.high ≡ round_key_of z k r
unfolding round_key_of
round_key_is z k r h l e = sym (round_key_held z h l) ∙ ap (round_key z) e
