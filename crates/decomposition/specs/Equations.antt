-- For inner contracts only. The linear equations whose unknowns are the coefficients of p1 to pt, and how they lie in the work of Fit.
use Rattle.std.specs.Prelude.{cond, List, ◌≡◌, ℕ, ◌+◌, ◌*◌, ◌≤◌, ◌<◌, ltb, get_or}
use Rattle.linear.specs.Bits.{bitwise, row_of}
use Rattle.linear.specs.Packed.{bit_cell}
use Rattle.linear.specs.Buffer.{cell}
use Rattle.linear.specs.Row.{Agree}
use Rattle.decomposition.specs.Form.{unknown_column}
use Rattle.decomposition.specs.declared.layouts.Layout.{Layout}

-- the equation at input x: the columns, and v as the right side
unfoldable pub equation : Layout → List ℕ → ℕ → ℕ → ℕ → ℕ
equation L basis x v k = cond (ltb k L.unknowns) (unknown_column L basis x k) v

-- the equations: a row for each input, and the table as the right side
abbrev pub system : Layout → List ℕ → List ℕ → ℕ → ℕ → ℕ
system L table basis x = equation L basis x (get_or table x 0)

-- the equations over bits: row x·m + b is the equation at input x, at its bit b
abbrev pub bit_system : Layout → List ℕ → List ℕ → ℕ → ℕ → ℕ
bit_system L table basis = bitwise L.width L.outputs (system L table basis)

-- the rows below x hold their equations
pub record Rows (L : Layout) (table basis : List ℕ) (x : ℕ) (l : List ℕ) : Type 0 where
  pub row : (y : ℕ) → y < x → Agree (L.unknowns + 1) (cell (L.unknowns + 1) l y) (system L table basis y)

-- M is M₀ with the entries of G in the k columns from c on, in the m rows from `row` on: the columns before c and the rows before are as they were
pub record BlockWritten (w : ℕ) (M₀ M : ℕ → ℕ → ℕ) (row m c k : ℕ) (G : ℕ → ℕ → ℕ) : Type 0 where
  pub new : (b j : ℕ) → b < m → c ≤ j → j < c + k → M (row + b) j ≡ G b j
  pub left : (i j : ℕ) → j < c → M i j ≡ M₀ i j
  pub above : (i j : ℕ) → i < row → j < w → M i j ≡ M₀ i j

-- the same at a layout, where the rows are those of an input and the entries are the bits of the row r
abbrev pub BitsWritten : Layout → List ℕ → List ℕ → ℕ → ℕ → ℕ → (ℕ → ℕ) → Type 0
BitsWritten L l₀ l row c k r = BlockWritten (L.stride * 8) (bit_cell L.stride l₀) (bit_cell L.stride l) row L.outputs c k (λ b. row_of L.width b r)

-- the rows below r hold their equations over bits
pub record BitRows (L : Layout) (table basis : List ℕ) (r : ℕ) (l : List ℕ) : Type 0 where
  pub row : (i : ℕ) → i < r → Agree (L.unknowns * L.width + 1) (bit_cell L.stride l i) (bit_system L table basis i)
