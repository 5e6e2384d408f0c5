-- For inner contracts only. A key as code holds it: its first 64 bits, the round key, and the bits after them.
use Rattle.std.specs.Prelude.{ℕ, ◌+◌, ◌-◌, ◌*◌, ◌^◌}
use Rattle.present.specs.Present.{Size, key_bits}
use Rattle.layers.specs.declared.key.Key.{Key}

-- the number that is held
abbrev pub held : Size → Key → ℕ
held z h = h.high * 2 ^ (key_bits z - 64) + h.low
