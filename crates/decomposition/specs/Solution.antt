-- The p that Fit finds, as a definition: all p are tried in order, and the first that meets the table is taken.
-- A list of u elements below b is a number of u digits, the first element its lowest digit. The order of these numbers goes by the last element first, and
-- by its highest bit first; so the first p that meets the table is 0 wherever a bit is free, and is THE decomposition (proofs/Total.antt, `solution_is`).
use Rattle.std.specs.Prelude.{Bool, cond, List, [], ◌∷◌, ℕ, zero, suc, ◌/◌, ◌%◌, ◌^◌, leb, ltb, length}
use Rattle.decomposition.specs.Check.{first_difference}
use Rattle.decomposition.specs.Form.{form}
use Rattle.decomposition.specs.declared.layouts.Layout.{Layout}

-- the u lowest digits of k in base b, the lowest first
unfoldable pub digits : ℕ → ℕ → ℕ → List ℕ
digits b zero k = []
digits b (suc u) k = k % b ∷ digits b u (k / b)

-- the first number below the bound that satisfies P; the bound if there is none
unfoldable pub first_below : ℕ → (ℕ → Bool) → ℕ
first_below zero P = 0
first_below (suc bound) P = cond (P 0) 0 (suc (first_below bound (λ k. P (suc k))))

-- do the low output bits of the form with p equal the table at all inputs?
unfoldable pub meets : Layout → List ℕ → List ℕ → List ℕ → Bool
meets L table basis p = leb (length table) (first_difference (λ x. form L basis p x % 2 ^ L.outputs) table)

-- how many p there are: each unknown is one of 2 ^ n elements, as many as there are inputs
unfoldable pub candidates : Layout → ℕ
candidates L = L.inputs ^ L.unknowns

-- p number k
unfoldable pub candidate : Layout → ℕ → List ℕ
candidate L k = digits L.inputs L.unknowns k

-- the number of the first p that meets the table
unfoldable pub solution_number : Layout → List ℕ → List ℕ → ℕ
solution_number L table basis = first_below (candidates L) (λ k. meets L table basis (candidate L k))

-- is there one?
unfoldable pub solvable : Layout → List ℕ → List ℕ → Bool
solvable L table basis = ltb (solution_number L table basis) (candidates L)

-- the first p that meets the table
unfoldable pub solution : Layout → List ℕ → List ℕ → List ℕ
solution L table basis = candidate L (solution_number L table basis)
