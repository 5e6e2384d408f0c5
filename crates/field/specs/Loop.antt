-- The product's loop, as FIPS 197 tells a product (4.2, 4.2.1): the first factor is doubled again and again, and
-- added where a bit of the second is set, lowest bit first. The loop of `Field::multiply_public` has this as its invariant, and that of
-- `Field::multiply`, whose bits lie one place higher, has it of half the sum and half of what is left.
use Rattle.std.specs.Prelude.{◌≡◌, ℕ, zero, suc, ◌/◌, ◌%◌, ◌^◌}
use Rattle.field.specs.Mul.{double, mul}

-- a doubled k times: y ^ k times a
unfoldable pub doubled : ℕ → ℕ → ℕ → ℕ
doubled n zero a = a
doubled n (suc k) a = doubled n k (double n a)

-- AFTER EACH BIT. What holds of the loop's variables when k bits of b are read, at width n
pub record AfterBits (n a b k sum term rest : ℕ) : Type 0 where
  -- the sum is the first factor times the bits read so far
  pub sum_so_far : sum ≡ mul n a (b % 2 ^ k)
  -- the term that the next bit decides on is the first factor doubled as often
  pub next_term : term ≡ doubled n k a
  -- the bits not read
  pub unread : rest ≡ b / 2 ^ k
