-- For inner contracts only. The bytes of a block, looked up in a table.
use Rattle.std.specs.Prelude.{List, ℕ, ◌+◌, ◌*◌, ◌/◌, ◌%◌, ◌^◌, get_or}
use Rattle.xor.specs.Sum.{sum_of}

-- the entry of byte j of a block
unfoldable pub byte_entry : List ℕ → ℕ → ℕ → ℕ
byte_entry table x j = get_or table (256 * j + x / 2 ^ (8 * j) % 256) 0

-- the entries of its eight bytes, added
unfoldable pub entries : List ℕ → ℕ → ℕ
entries table x = sum_of 8 (byte_entry table x)
