-- The operation Check.
use Rattle.std.specs.Prelude.{cond, List, [], ◌∷◌, ℕ, suc, ◌%◌, leb, eqb, length}
use Rattle.refusal.specs.Outcome.{Outcome, done, test, and_then}
use Rattle.refusal.specs.Large.{test_below}
use Rattle.field.specs.Mul.{mul}
use Rattle.decomposition.specs.Form.{form, value_of}
use Rattle.decomposition.specs.Record.{coefficients_of, basis_of, solution_of, layout_of, read_outcome}
use Rattle.decomposition.specs.declared.layouts.Layout.{Layout}

-- the form of a record's coefficients at x
abbrev pub form_in : Layout → List ℕ → ℕ → ℕ
form_in L coefficients = form L (basis_of L coefficients) (solution_of L coefficients)

-- product i of these, p(i+1)·q(i+1)
abbrev pub product_in : Layout → List ℕ → ℕ → ℕ → ℕ
product_in L coefficients x i = mul L.width (value_of L (solution_of L coefficients) i x) (value_of L (basis_of L coefficients) i x)

-- the form of a record at x
abbrev pub record_form : Layout → List ℕ → ℕ → ℕ
record_form L r = form_in L (coefficients_of r)

-- its output at x: the low output bits of the form
abbrev pub record_output : Layout → List ℕ → ℕ → ℕ
record_output L r x = record_form L r x % L.entries

-- the first input at which f and the table differ; the table's length if there is none
unfoldable pub first_difference : (ℕ → ℕ) → List ℕ → ℕ
first_difference f [] = 0
first_difference f (y ∷ l) = cond (eqb (f 0) y) (suc (first_difference (λ x. f (suc x)) l)) 0

-- the tests of the table
abbrev pub check_at : Layout → List ℕ → List ℕ → Outcome
check_at L r table =
    test (eqb (length table) L.inputs) 2 0
    (test_below L.entries 0 table
    (test (leb (length table) (first_difference (record_output L r) table)) 6 (first_difference (record_output L r) table)
    (done [])))

-- what Check answers
unfoldable pub check_outcome : List ℕ → List ℕ → Outcome
check_outcome r table = and_then (read_outcome r) (check_at (layout_of r) r table)
