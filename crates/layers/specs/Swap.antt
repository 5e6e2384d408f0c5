-- For inner contracts only. Bits that are exchanged over a distance: four such exchanges are the permutation, and in the other order its inverse.
use Rattle.std.specs.Prelude.{ℕ, ◌*◌, ◌/◌, ◌%◌, ◌^◌}
use Rattle.std.specs.Int.Bits.{bit_and}
use Rattle.xor.specs.Xor.{◌⊕◌}

-- where the bits of x at the places of the mask differ from those that are k places higher
unfoldable pub difference : ℕ → ℕ → ℕ → ℕ
difference mask k x = bit_and (x / 2 ^ k ⊕ x) mask

-- x with these bits exchanged, in 64 bits
unfoldable pub exchange : ℕ → ℕ → ℕ → ℕ
exchange mask k x = x ⊕ difference mask k x ⊕ difference mask k x * 2 ^ k % 2 ^ 64
