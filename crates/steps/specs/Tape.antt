-- The tape: the random elements that lent bytes hold. Nothing else says how elements lie in bytes.
use Rattle.std.specs.Prelude.{◌≡◌, cond, List, [], ◌∷◌, ℕ, ◌+◌, ◌/◌, ◌%◌, eqb}

-- both nibbles of each byte, the high one first
unfoldable pub nibbles : List ℕ → List ℕ
nibbles [] = []
nibbles (b ∷ bytes) = b / 16 ∷ b % 16 ∷ nibbles bytes

-- the elements of so many bits that a string of bytes holds, in the order in which they are drawn: two in each byte at width 4, else one
unfoldable pub elements : ℕ → List ℕ → List ℕ
elements width bytes = cond (eqb width 4) (nibbles bytes) bytes

-- how many bytes hold so many elements; an odd number of them at width 4 leaves the last low nibble unread
unfoldable pub bytes_for : ℕ → ℕ → ℕ
bytes_for width count = cond (eqb width 4) ((count + 1) / 2) count

-- so many elements fill their bytes: one more takes a further byte
abbrev pub Full : ℕ → ℕ → Type 0
Full width count = bytes_for width (count + 1) ≡ bytes_for width count + 1
