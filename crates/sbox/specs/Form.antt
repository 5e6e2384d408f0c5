-- What the masked S-box computes: the form p1 · q1 + .. + p(t-1) · q(t-1) + pt at the joined input, of polynomials as lists of coefficients.
use Rattle.std.specs.Prelude.{◌≡◌, List, ℕ, suc, ◌-◌, length}
use Rattle.xor.specs.Sum.{Small}
use Rattle.field.specs.Polynomial.{value}
use Rattle.steps.specs.Fill.{tabulate}
use Rattle.decomposition.specs.Layout.{terms_of, layout, Pair}
use Rattle.decomposition.specs.Form.{form_of_values, polynomial_in}
use Rattle.decomposition.specs.Record.{basis_of, solution_of}
use Rattle.product.specs.ByShare.{nth}

-- ---- the form

-- at x: qs has the coefficients of the basis q1 to q(t-1), ps those of p1 to pt
unfoldable pub form_of : ℕ → List (List ℕ) → List (List ℕ) → ℕ → ℕ
form_of n qs ps x = form_of_values n (length qs) (λ i. value n (nth qs i) x) (λ i. value n (nth ps i) x)

-- all coefficients of these polynomials are below 2 ^ n
abbrev pub SmallAll : ℕ → List (List ℕ) → Type 0
SmallAll n css = (k : ℕ) → Small n (nth css k)

-- qs and ps are the coefficients of a form: there is one p more, and all coefficients are below 2 ^ n
pub record Coefficients (n : ℕ) (qs ps : List (List ℕ)) : Type 0 where
  pub one_more : length ps ≡ suc (length qs)
  pub small_basis : SmallAll n qs
  pub small : SmallAll n ps

-- ---- the polynomials of a record

-- t - 1, the number of polynomials in the basis, by width and output bits
unfoldable pub basis_size : ℕ → ℕ → ℕ
basis_size n m = terms_of n m - 1

-- the basis among a record's coefficients, at width n with m output bits
unfoldable pub basis_in : ℕ → ℕ → List ℕ → List (List ℕ)
basis_in n m coefficients = tabulate (basis_size n m) (polynomial_in (layout n m) (basis_of (layout n m) coefficients))

-- and p1 to pt
unfoldable pub solution_in : ℕ → ℕ → List ℕ → List (List ℕ)
solution_in n m coefficients = tabulate (suc (basis_size n m)) (polynomial_in (layout n m) (solution_of (layout n m) coefficients))

-- qs and ps are what an accepted record gives: the coefficients of a form of t terms, for a pair of width and output bits
pub record AcceptedForm (n m : ℕ) (qs ps : List (List ℕ)) : Type 0 where
  pub pair : Pair n m
  pub size : length qs ≡ basis_size n m
  pub coefficients : Coefficients n qs ps
