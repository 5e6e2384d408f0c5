-- Numbers as bytes, high byte first.
use Rattle.std.specs.Prelude.{List, [], ◌∷◌, ℕ, zero, suc, ◌+◌, ◌*◌, ◌/◌, ◌%◌, ◌^◌, length}

-- the number that a list of bytes stands for
unfoldable pub from_bytes : List ℕ → ℕ
from_bytes [] = 0
from_bytes (b ∷ bytes) = b * 2 ^ (8 * length bytes) + from_bytes bytes

-- the lowest k bytes of a number
unfoldable pub to_bytes : ℕ → ℕ → List ℕ
to_bytes zero x = []
to_bytes (suc k) x = x / 2 ^ (8 * k) % 256 ∷ to_bytes k x
