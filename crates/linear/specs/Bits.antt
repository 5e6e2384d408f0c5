-- The field of two elements, and a matrix over the elements of width n taken apart into bits.
use Rattle.std.specs.Prelude.{ℕ, ◌*◌, ◌/◌, ◌%◌, ◌^◌}
use Rattle.xor.specs.Xor.{◌⊕◌}
use Rattle.field.specs.Mul.{mul}
use Rattle.linear.specs.Scalars.{Scalars}

-- bit i of a
unfoldable pub bit : ℕ → ℕ → ℕ
bit i a = a / 2 ^ i % 2

-- the bits as scalars
abbrev pub bits : Scalars
bits = record { size = 2; add = ◌⊕◌; mul = ◌*◌; inv = λ a. a }

-- the bits of the elements p 0, p 1, .., n bits each, bit 0 first: number k·n + i is bit i of element k
abbrev pub bit_of : ℕ → (ℕ → ℕ) → ℕ → ℕ
bit_of n p c = bit (c % n) (p (c / n))

-- a row of elements taken apart, at bit b: what bit i of unknown k is multiplied with there is bit b of y^i times entry k
abbrev pub row_of : ℕ → ℕ → (ℕ → ℕ) → ℕ → ℕ
row_of n b r c = bit b (mul n (r (c / n)) (2 ^ (c % n)))

-- a matrix of elements taken apart, where m bits of each row are asked for: row x·m + b is row x at bit b. The right side is taken apart with the
-- other columns; its first column, y^0 times the right side at bit b, is the right side over bits
abbrev pub bitwise : ℕ → ℕ → (ℕ → ℕ → ℕ) → ℕ → ℕ → ℕ
bitwise n m M r = row_of n (r % m) (M (r / m))
