-- Addition of field elements, of shares and of bytes: exclusive or.
use Rattle.std.specs.Prelude.{ℕ}
use Rattle.std.specs.Int.Bits.{bit_xor}

infixl 68 ◌⊕◌
-- the sum of a and b, bit by bit without carry
unfoldable pub ◌⊕◌ : ℕ → ℕ → ℕ
a ⊕ b = bit_xor a b
