-- For inner contracts only. How a matrix lies in a buffer of bytes and a solution in another, over elements and over bits. The elimination and the
-- solver are stated of a shape.
use Rattle.std.specs.Prelude.{Bool, ◌||◌, List, MatchOption, Option, Result, Ok, Err, eqb, replicate, ◌≡◌, ℕ, ◌+◌, ◌*◌, ◌≤◌, ◌<◌, length}
use Rattle.xor.specs.Sum.{Small}
use Rattle.linear.specs.Bits.{bits}
use Rattle.linear.specs.Buffer.{Written, bytes, in_rows}
use Rattle.linear.specs.Elimination.{Cleared, Eliminated, LeadingAt, Pivot, ReadOff, Reduced, Reducing, RowAdded, ZerosBefore, ZerosFrom}
use Rattle.linear.specs.Packed.{bits_of}
use Rattle.linear.specs.Row.{Agree, times}
use Rattle.linear.specs.Scalars.{Scalars, ScalarLaws, scalars}
use Rattle.linear.specs.System.{Canonical, Elements, Inconsistent}

pub record Shape : Type 0 where
  -- what the entries are
  pub scalars : Scalars
  pub rows : ℕ
  -- the entries of a row, and its bytes
  pub columns : ℕ
  pub stride : ℕ
  -- the columns before this one belong to the unknowns, and this one is the right side
  pub unknowns : ℕ
  -- the entries that the bytes of a matrix hold, row after row
  pub entries : List ℕ → ℕ → ℕ
  -- the multiples of a row, by their factor, that a copy of the row holds
  pub multiple : List ℕ → ℕ → ℕ → ℕ
  -- a solution is written as elements of this width, and each holds so many of the unknowns
  pub width : ℕ
  pub share : ℕ
  -- the unknowns that the bytes of a solution hold
  pub solution : List ℕ → ℕ → ℕ

-- the entry of row i at column k
abbrev pub cells : Shape → List ℕ → ℕ → ℕ → ℕ
cells s l = in_rows s.columns (s.entries l)

-- what the elimination asks of a shape
pub record ShapeLaws (s : Shape) : Type 0 where
  pub field : ScalarLaws s.scalars
  pub right_side : s.unknowns < s.columns
  pub bytes : 0 < s.stride
  pub none : (n k : ℕ) → s.solution (replicate n 0) k ≡ 0

-- ---- the matrix in the bytes l

-- they have room for it
abbrev pub Room : Shape → List ℕ → Type 0
Room s l = s.rows * s.stride ≤ length l

-- row i is one of its rows
pub record InRow (s : Shape) (l : List ℕ) (i : ℕ) : Type 0 where
  pub room : Room s l
  pub within : i < s.rows

-- its entries are scalars
abbrev pub ScalarsIn : Shape → List ℕ → Type 0
ScalarsIn s l = Elements s.scalars s.rows s.columns (cells s l)

-- the first row from r on that is not zero in column c, if there is one
abbrev pub PivotIn : Shape → List ℕ → ℕ → ℕ → Option ℕ → Type 0
PivotIn s l c r p = MatchOption p (ZerosFrom s.rows c r (cells s l)) (λ i. Pivot s.rows c r i (cells s l))

-- the first column of an unknown in which row i is not zero, if there is one
abbrev pub LeadingIn : Shape → List ℕ → ℕ → Option ℕ → Type 0
LeadingIn s l i k = MatchOption k (ZerosBefore (cells s l) i s.unknowns) (λ j. (j < s.unknowns) × LeadingAt (cells s l) i j)

-- row i is now v, where it was one of the matrix in l₀, and the other rows are as they were
abbrev pub RowWritten : Shape → List ℕ → List ℕ → ℕ → (ℕ → ℕ) → Type 0
RowWritten s l₀ l i = Written (s.entries l₀) (s.entries l) (i * s.columns) s.columns

-- row p has been added to row r, unless it is row r
abbrev pub RowAddedIn : Shape → List ℕ → List ℕ → ℕ → ℕ → Type 0
RowAddedIn s l₀ l r p = RowAdded s.scalars s.rows s.columns 1 r p (cells s l₀) (cells s l)

-- each row but row r has had as much of row r added as it had in column c
abbrev pub ClearedIn : Shape → List ℕ → List ℕ → ℕ → ℕ → Type 0
ClearedIn s l₀ l c r = Cleared s.scalars s.rows s.columns c r s.rows (cells s l₀) (cells s l)

-- the columns below c are reduced, with rank r
abbrev pub EliminatedIn : Shape → List ℕ → List ℕ → ℕ → ℕ → Type 0
EliminatedIn s l₀ l c r = Eliminated s.scalars s.rows s.columns (cells s l₀) (cells s l) c r

-- the columns of the unknowns are
abbrev pub ReducingIn : Shape → List ℕ → List ℕ → Type 0
ReducingIn s l₀ l = Reducing s.scalars s.rows s.columns (cells s l₀) (cells s l) s.unknowns

-- what clearing column c by row r asks
pub record ClearReady (s : Shape) (l : List ℕ) (c r : ℕ) : Type 0 where
  pub room : Room s l
  pub scalars : ScalarsIn s l
  pub column : c < s.columns
  pub row : r < s.rows

-- ---- a copy of a row

-- it holds the multiples of the row r
pub record Multiples (s : Shape) (copy : List ℕ) (r : ℕ → ℕ) : Type 0 where
  pub multiple : (f : ℕ) → f < s.scalars.size → Agree s.columns (s.multiple copy f) (times s.scalars f r)

-- ---- a solution

-- the bytes are as many as it takes
abbrev pub SolutionRoom : Shape → List ℕ → Type 0
SolutionRoom s l = length l * s.share ≡ s.unknowns

-- what reading a solution off the first r rows asks, which are all that are not zero
pub record ReadReady (s : Shape) (l out : List ℕ) (r : ℕ) : Type 0 where
  pub room : Room s l
  pub solution_room : SolutionRoom s out
  pub scalars : ScalarsIn s l
  pub reduced : Reduced s.rows (cells s l) s.unknowns r

-- the first r rows are read off, and what is written are elements
pub record ReadOffIn (s : Shape) (l out : List ℕ) (r : ℕ) : Type 0 where
  pub read : ReadOff (cells s l) s.unknowns r (s.solution out)
  pub small : Small s.width out

-- the answer for the equations M. Ok: the canonical solution is written, as elements. Err: there is no solution, and nothing is written
abbrev pub Solved : {E : Type 0} → Shape → (ℕ → ℕ → ℕ) → List ℕ → List ℕ → Result (Unit {0}) E → Type 0
Solved s M out out' (Ok u) = Canonical s.scalars s.rows M s.unknowns (s.solution out') × Small s.width out'
Solved s M out out' (Err e) = Inconsistent s.scalars s.rows M s.unknowns × (out' ≡ out)

-- ---- the two shapes of m rows in u unknowns

-- the widths over whose elements there is code
abbrev pub narrow : ℕ → Bool
narrow n = eqb n 4 || eqb n 6

-- over the elements of width n: each entry and each unknown is a byte
abbrev pub element_shape : ℕ → ℕ → ℕ → Shape
element_shape n m u = record {
  scalars = scalars n;
  rows = m;
  columns = u + 1;
  stride = u + 1;
  unknowns = u;
  entries = bytes;
  multiple = λ l f. times (scalars n) f (bytes l);
  width = n;
  share = 1;
  solution = bytes;
}

-- over bits: a row has s bytes, eight entries each, and n unknowns make up an element. A copy holds 0 and 1 times a row, from byte 0 on and from byte
-- 64 on
abbrev pub bit_shape : ℕ → ℕ → ℕ → ℕ → Shape
bit_shape s n m u = record {
  scalars = bits;
  rows = m;
  columns = s * 8;
  stride = s;
  unknowns = u;
  entries = bits_of 8;
  multiple = λ l f k. bits_of 8 l (f * 64 * 8 + k);
  width = n;
  share = n;
  solution = bits_of n;
}
