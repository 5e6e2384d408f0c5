-- The record of a decomposition, and the operation Read.
use Rattle.std.specs.Prelude.{Bool, true, cond, ◌&&◌, ◌||◌, List, [], ◌∷◌, ◌++◌, ◌≡◌, ℕ, leb, eqb, length, get_or, take, drop}
use Rattle.xor.specs.Sum.{Small}
use Rattle.refusal.specs.Large.{test_below}
use Rattle.refusal.specs.Outcome.{Outcome, done, test}
use Rattle.decomposition.specs.Layout.{known, paired, head, layout, record_size, Pair}
use Rattle.decomposition.specs.declared.layouts.Layout.{Layout}

-- ---- the record

-- version 2: the letters `DCP`, the version as two bytes, high first, the width and the output bits; then the basis; then p1 to pt
unfoldable pub headed : ℕ → ℕ → List ℕ → List ℕ → List ℕ
headed n m basis p = 68 ∷ 67 ∷ 80 ∷ 0 ∷ 2 ∷ n ∷ m ∷ (basis ++ p)

-- the record at a layout
abbrev pub record_of : Layout → List ℕ → List ℕ → List ℕ
record_of L basis p = headed L.width L.outputs basis p

-- version 1, which is read and no longer written, has no byte for the output bits and means as many as the width has
unfoldable pub old_record : ℕ → List ℕ → List ℕ → List ℕ
old_record n basis p = 68 ∷ 67 ∷ 80 ∷ 0 ∷ 1 ∷ n ∷ (basis ++ p)

-- the version that a record names, by the lower of its two bytes
abbrev pub version_of : List ℕ → ℕ
version_of r = get_or r 4 0

-- the width
abbrev pub width_of : List ℕ → ℕ
width_of r = get_or r 5 0

-- and the output bits
unfoldable pub outputs_of : List ℕ → ℕ
outputs_of r = cond (eqb (version_of r) 2) (get_or r 6 0) (width_of r)

-- how it lies in bytes
abbrev pub layout_of : List ℕ → Layout
layout_of r = layout (width_of r) (outputs_of r)

-- its coefficients: what follows the head
abbrev pub coefficients_of : List ℕ → List ℕ
coefficients_of r = drop (head (version_of r)) r

-- the parts of the coefficients: the basis
abbrev pub basis_of : Layout → List ℕ → List ℕ
basis_of L coefficients = take L.basis coefficients

-- and p1 to pt
abbrev pub solution_of : Layout → List ℕ → List ℕ
solution_of L coefficients = drop L.basis coefficients

-- the mark is right, and the version is 1 or 2
unfoldable pub marked : List ℕ → Bool
marked r =
    eqb (get_or r 0 0) 68 && (eqb (get_or r 1 0) 67 && (eqb (get_or r 2 0) 80
    && (eqb (get_or r 3 0) 0 && (eqb (version_of r) 1 || eqb (version_of r) 2))))

-- ---- Read

-- the tests that follow once width and output bits are known
abbrev pub read_at : Layout → List ℕ → Outcome
read_at L r =
    test (eqb (length r) (record_size (version_of r) L)) 2 0
    (test_below L.inputs (head (version_of r)) (coefficients_of r)
    (done (L.width ∷ [])))

-- those of the output bits; a record that ends with its width, where its version has a byte for them, is too short
abbrev pub read_pair : List ℕ → Outcome
read_pair r =
    test (leb (head (version_of r)) (length r)) 2 0
    (test (paired (width_of r) (outputs_of r)) 9 0
    (read_at (layout_of r) r))

-- the same of parts: the coefficients, which follow a head of so many bytes
abbrev pub coefficients_tests : Layout → ℕ → List ℕ → Outcome
coefficients_tests L head cs = test (eqb (length cs) L.coefficients) 2 0 (test_below L.inputs head cs (done (L.width ∷ [])))

-- and before these the output bits
abbrev pub pair_tests : ℕ → ℕ → ℕ → List ℕ → Outcome
pair_tests n m head cs = test (paired n m) 9 0 (coefficients_tests (layout n m) head cs)

-- what Read answers
unfoldable pub read_outcome : List ℕ → Outcome
read_outcome r =
    test (leb 6 (length r)) 2 0
    (test (marked r) 5 0
    (test (known (width_of r)) 1 0
    (read_pair r)))

-- a record that Read accepts, of width n (proofs/ReadOutcome.antt, `read_accepted` and `accepted_read`)
pub record Accepted (n : ℕ) (r : List ℕ) : Type 0 where
  pub mark : marked r ≡ true
  pub pair : Pair n (outputs_of r)
  pub named : width_of r ≡ n
  pub whole : length r ≡ record_size (version_of r) (layout n (outputs_of r))
  pub elements : Small n (coefficients_of r)

-- two records that Read accepts with the same width, output bits and coefficients, whatever their versions: they are one to every operation
-- (proofs/Theorems.antt, `old_same`, `same_check`)
pub record SameRecord (n : ℕ) (r r' : List ℕ) : Type 0 where
  pub accepted : Accepted n r
  pub accepted' : Accepted n r'
  pub outputs : outputs_of r ≡ outputs_of r'
  pub coefficients : coefficients_of r ≡ coefficients_of r'
