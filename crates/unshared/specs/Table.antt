-- The tables of encryption and of decryption: what each byte becomes at its place. Place 0 is the lowest byte of a block.
use Rattle.std.specs.Prelude.{List, ℕ, ◌+◌, ◌*◌, ◌/◌, ◌%◌, ◌^◌}
use Rattle.steps.specs.Fill.{tabulate}
use Rattle.present.specs.Present.{substitute, permute}
use Rattle.present.specs.Decrypt.{unsubstitute, unpermute}

-- f on both nibbles of a byte
unfoldable pub on_byte : (ℕ → ℕ) → ℕ → ℕ
on_byte f v = f (v / 16) * 16 + f (v % 16)

-- entry 256 j + v: what the byte v at place j of a block becomes by f on its nibbles, and then by l
unfoldable pub entry : (ℕ → ℕ) → (ℕ → ℕ) → ℕ → ℕ
entry f l i = l (on_byte f (i % 256) * 2 ^ (8 * (i / 256)))

-- the table of its 2,048 entries
unfoldable pub table_of : (ℕ → ℕ) → (ℕ → ℕ) → List ℕ
table_of f l = tabulate 2048 (entry f l)

-- the table of encryption: substitution, then permutation
abbrev pub encryption_table : List ℕ
encryption_table = table_of substitute permute

-- the table of decryption: the inverse substitution, then the inverse permutation
abbrev pub decryption_table : List ℕ
decryption_table = table_of unsubstitute unpermute
