-- Rows and columns of scalars. Both are functions of a place; only the places below a length count.
use Rattle.std.specs.Prelude.{◌≡◌, ℕ, zero, suc, ◌<◌}
use Rattle.linear.specs.Scalars.{Scalars}

-- the entries at the places below k are elements
pub record RowElements (S : Scalars) (k : ℕ) (r : ℕ → ℕ) : Type 0 where
  pub at : (j : ℕ) → j < k → r j < S.size

-- two rows have the same entries at the places below k
pub record Agree (k : ℕ) (r s : ℕ → ℕ) : Type 0 where
  pub at : (j : ℕ) → j < k → r j ≡ s j

-- the product of a row and a column: r(0)·d(0) + .. + r(k-1)·d(k-1)
unfoldable pub dot : Scalars → ℕ → (ℕ → ℕ) → (ℕ → ℕ) → ℕ
dot S zero r d = 0
dot S (suc k) r d = S.add (dot S k r d) (S.mul (r k) (d k))

-- the sum of two rows
abbrev pub plus : Scalars → (ℕ → ℕ) → (ℕ → ℕ) → ℕ → ℕ
plus S r s j = S.add (r j) (s j)

-- a multiple of a row
abbrev pub times : Scalars → ℕ → (ℕ → ℕ) → ℕ → ℕ
times S f r j = S.mul f (r j)
