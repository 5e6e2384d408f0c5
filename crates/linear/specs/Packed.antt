-- For inner contracts only. Bits in a buffer of bytes: eight to a byte in the rows of a matrix, and n to a byte where elements of width n are written.
use Rattle.std.specs.Prelude.{List, ℕ, ◌*◌, length}
use Rattle.xor.specs.Xor.{◌⊕◌}
use Rattle.linear.specs.Bits.{bit_of}
use Rattle.linear.specs.Buffer.{bytes, in_rows}
use Rattle.linear.specs.Row.{Agree}

-- the memory of the bits of a buffer, of which each byte holds n, bit 0 first
abbrev pub bits_of : ℕ → List ℕ → ℕ → ℕ
bits_of n l = bit_of n (bytes l)

-- the bit of row i at column k, where the entries are bits, eight to a byte, and a row has s bytes
abbrev pub bit_cell : ℕ → List ℕ → ℕ → ℕ → ℕ
bit_cell s l = in_rows (s * 8) (bits_of 8 l)

-- the sums of the bytes of two rows
abbrev pub sum_bytes : List ℕ → List ℕ → ℕ → ℕ
sum_bytes l m k = bytes l k ⊕ bytes m k

-- l' is the row l with m added
abbrev pub Added : List ℕ → List ℕ → List ℕ → Type 0
Added l m l' = Agree (length l) (bytes l') (sum_bytes l m)
