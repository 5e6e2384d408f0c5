-- For inner contracts only. Gauss-Jordan elimination, column by column: how far a matrix of m rows and w columns has come, and what each step does.
use Rattle.std.specs.Prelude.{◌≡◌, ℕ, ◌≤◌, ◌<◌}
use Rattle.linear.specs.Scalars.{Scalars}
use Rattle.linear.specs.Row.{Agree, plus, times}
use Rattle.linear.specs.System.{Elements, Combination}

-- ---- how far the elimination has come

-- row equivalent: at the columns below w, the combinations of columns of M are those of N
pub record Equivalent (S : Scalars) (m w : ℕ) (M N : ℕ → ℕ → ℕ) : Type 0 where
  pub to : (k : ℕ) (d : ℕ → ℕ) → k < w → Combination S m M k d → Combination S m N k d
  pub from : (k : ℕ) (d : ℕ → ℕ) → k < w → Combination S m N k d → Combination S m M k d

-- row i has its leading entry at a column below c, it is 1, and the other rows have 0 there
pub record LeadingOne (m : ℕ) (M : ℕ → ℕ → ℕ) (c i : ℕ) : Type 0 where
  pub at : ℕ
  pub below : at < c
  pub before : (k : ℕ) → k < at → M i k ≡ 0
  pub one : M i at ≡ 1
  pub alone : (j : ℕ) → j < m → (j ≡ i → ⊥) → M j at ≡ 0

-- the columns below c are reduced, with rank r: the rows below r have leading ones there, and the rows from r on have zeros
pub record Reduced (m : ℕ) (M : ℕ → ℕ → ℕ) (c r : ℕ) : Type 0 where
  pub rank : r ≤ m
  pub leading : (i : ℕ) → i < r → LeadingOne m M c i
  pub rest : (i k : ℕ) → r ≤ i → i < m → k < c → M i k ≡ 0

-- N comes from M by row operations, and its columns below c are reduced, with rank r
pub record Eliminated (S : Scalars) (m w : ℕ) (M N : ℕ → ℕ → ℕ) (c r : ℕ) : Type 0 where
  pub elements : Elements S m w N
  pub equivalent : Equivalent S m w M N
  pub reduced : Reduced m N c r

-- the same with some rank
pub record Reducing (S : Scalars) (m w : ℕ) (M N : ℕ → ℕ → ℕ) (c : ℕ) : Type 0 where
  pub rank : ℕ
  pub eliminated : Eliminated S m w M N c rank

-- ---- the steps for one column

-- p is the first row from r on that is not zero in column c
pub record Pivot (m c r p : ℕ) (M : ℕ → ℕ → ℕ) : Type 0 where
  pub after : r ≤ p
  pub within : p < m
  pub skipped : (i : ℕ) → r ≤ i → i < p → M i c ≡ 0
  pub found : M p c ≡ 0 → ⊥

-- there is none: the rows from r on are zero in column c
abbrev pub ZerosFrom : ℕ → ℕ → ℕ → (ℕ → ℕ → ℕ) → Type 0
ZerosFrom m c r M = (i : ℕ) → r ≤ i → i < m → M i c ≡ 0

-- row r has f times row p added to it, unless it is row p itself; the others are as they were
pub record RowAdded (S : Scalars) (m w f r p : ℕ) (M N : ℕ → ℕ → ℕ) : Type 0 where
  pub row : (p ≡ r → ⊥) → Agree w (N r) (plus S (M r) (times S f (M p)))
  pub itself : p ≡ r → Agree w (N r) (M r)
  pub others : (i : ℕ) → i < m → (i ≡ r → ⊥) → Agree w (N i) (M i)

-- each row below t but r has as much of row r added as it had in column c; the others are as they were
pub record Cleared (S : Scalars) (m w c r t : ℕ) (M N : ℕ → ℕ → ℕ) : Type 0 where
  pub kept : Agree w (N r) (M r)
  pub cleared : (i : ℕ) → i < t → (i ≡ r → ⊥) → Agree w (N i) (plus S (M i) (times S (M i c) (M r)))
  pub rest : (i : ℕ) → t ≤ i → i < m → Agree w (N i) (M i)

-- ---- the end

-- the leading entry of row i, its first that is not zero, stands at column k
pub record LeadingAt (M : ℕ → ℕ → ℕ) (i k : ℕ) : Type 0 where
  pub before : (j : ℕ) → j < k → M i j ≡ 0
  pub here : M i k ≡ 0 → ⊥

-- row i is zero in the columns before u: no entry leads it there
abbrev pub ZerosBefore : (ℕ → ℕ → ℕ) → ℕ → ℕ → Type 0
ZerosBefore M i u = (j : ℕ) → j < u → M i j ≡ 0

-- the unknowns p are read off the right side, column u, of the rows below r; an unknown that leads none of these rows is 0
pub record ReadOff (M : ℕ → ℕ → ℕ) (u r : ℕ) (p : ℕ → ℕ) : Type 0 where
  pub lead : (i k : ℕ) → i < r → k < u → LeadingAt M i k → p k ≡ M i u
  pub none : (k : ℕ) → k < u → ((i : ℕ) → i < r → LeadingAt M i k → ⊥) → p k ≡ 0
