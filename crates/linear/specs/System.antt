-- Linear equations as an augmented matrix: m rows and the columns 0 to u. The columns before u belong to the unknowns, and column u is the
-- right side. So a solution is a list of factors with which the columns before u add up to column u, and an unknown is free if the columns
-- before its own add up to its own with some factors. The canonical solution is 0 at every free unknown.
use Rattle.std.specs.Prelude.{◌≡◌, ℕ, ◌<◌}
use Rattle.linear.specs.Scalars.{Scalars}
use Rattle.linear.specs.Row.{RowElements, dot}

-- the entries of the m rows at the columns below w are elements
pub record Elements (S : Scalars) (m w : ℕ) (M : ℕ → ℕ → ℕ) : Type 0 where
  pub at : (i : ℕ) → i < m → RowElements S w (M i)

-- in each row, the columns before k, times the factors d, add up to column k
pub record Combination (S : Scalars) (m : ℕ) (M : ℕ → ℕ → ℕ) (k : ℕ) (d : ℕ → ℕ) : Type 0 where
  pub small : RowElements S k d
  pub row : (i : ℕ) → i < m → dot S k (M i) d ≡ M i k

-- column k is a combination of earlier columns
pub record Free (S : Scalars) (m : ℕ) (M : ℕ → ℕ → ℕ) (k : ℕ) : Type 0 where
  pub factors : ℕ → ℕ
  pub combination : Combination S m M k factors

-- p solves the equations in u unknowns, and is 0 at each free unknown
pub record Canonical (S : Scalars) (m : ℕ) (M : ℕ → ℕ → ℕ) (u : ℕ) (p : ℕ → ℕ) : Type 0 where
  pub solves : Combination S m M u p
  pub free : (k : ℕ) → k < u → Free S m M k → p k ≡ 0

-- nothing solves the equations
pub record Inconsistent (S : Scalars) (m : ℕ) (M : ℕ → ℕ → ℕ) (u : ℕ) : Type 0 where
  pub never : (p : ℕ → ℕ) → Combination S m M u p → ⊥
