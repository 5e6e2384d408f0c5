-- A record that Read accepts gives the coefficients of a form, and the form of these coefficients is the form of the record.
use mathlib.Core.Path.{◌≡◌, sym, ap, ap₂, ◌∙◌}
use mathlib.Core.List.{List, []}
use Prim.Native.Nat.{ℕ, suc, ◌*◌}
use native.Mathlib.Decide.{dec_lt}
use native.Mathlib.Omega.{arith}
use lib.ListN.{length, drop, get_or-eq_default}
use lib.Pow.{pow_pos}
use Rattle.xor.specs.Xor.{◌⊕◌}
use Rattle.xor.specs.Sum.{Small}
use Rattle.xor.proofs.Sum.{small_take, small_drop, sum_of_same}
use Rattle.field.specs.Mul.{mul}
use Rattle.field.specs.Polynomial.{value}
use Rattle.steps.specs.Fill.{tabulate}
use Rattle.steps.proofs.Fill.{length_tabulate, get_d_tabulate}
use Rattle.decomposition.specs.Layout.{layout, sized, Pair}
use Rattle.decomposition.specs.Form.{polynomial_in, value_of, form}
use Rattle.decomposition.specs.Record.{outputs_of, coefficients_of, basis_of, solution_of, Accepted}
use Rattle.decomposition.specs.Check.{form_in}
use Rattle.decomposition.specs.declared.layouts.Layout.{Layout}
use Rattle.product.specs.ByShare.{nth}
use Rattle.sbox.specs.Form.{form_of, basis_size, basis_in, solution_in, AcceptedForm}

-- the polynomials of small coefficients have small coefficients
polynomials_small : (n k : ℕ) (L : Layout) (l : List ℕ) → Small n l → (i : ℕ) → Small n (nth (tabulate k (polynomial_in L l)) i)
polynomials_small n k L l h i j = elim (dec_lt i k) [
  | yes g ↦
      rw (get_d_tabulate k (polynomial_in L l) i [] g)
      (small_take n L.exponents (drop (i * L.exponents) l) (small_drop n (i * L.exponents) l h) j)
  | no g ↦ let none : nth (tabulate k (polynomial_in L l)) i ≡ [] =
      get_or-eq_default (tabulate k (polynomial_in L l)) [] {n = i} (omega (arith, length_tabulate k (polynomial_in L l))) in
      rw none (pow_pos n)
]

-- small coefficients, for a pair of width and output bits, are those of a form
pub accepted_form : (n m : ℕ) → Pair n m → (cs : List ℕ) → Small n cs → AcceptedForm n m (basis_in n m cs) (solution_in n m cs)
unfolding basis_in solution_in
accepted_form n m pair cs elements =
    let L = layout n m in
    let k = basis_size n m in
    let counted : length (tabulate k (polynomial_in L (basis_of L cs))) ≡ k = length_tabulate k (polynomial_in L (basis_of L cs)) in
    let further : length (tabulate (suc k) (polynomial_in L (solution_of L cs))) ≡ suc k = length_tabulate (suc k) (polynomial_in L (solution_of L cs)) in
    record {
      pair = pair;
      size = counted;
      coefficients = record {
        one_more = further ∙ sym (ap suc counted);
        small_basis = polynomials_small n k L (basis_of L cs) (small_take n L.basis cs elements);
        small = polynomials_small n (suc k) L (solution_of L cs) (small_drop n L.basis cs elements);
      };
    }

-- so are those of an accepted record
pub accepted_record : (n : ℕ) (r : List ℕ) → Accepted n r
    → let m = outputs_of r in AcceptedForm n m (basis_in n m (coefficients_of r)) (solution_in n m (coefficients_of r))
accepted_record n r a = accepted_form n (outputs_of r) a.pair (coefficients_of r) a.elements

-- and their form, polynomial by polynomial, is the form that Check compares
pub record_form_lem : (n m : ℕ) (cs : List ℕ) (x : ℕ) → form_of n (basis_in n m cs) (solution_in n m cs) x ≡ form_in (layout n m) cs x
unfolding form_of basis_in solution_in basis_size form value_of layout sized
record_form_lem n m cs x =
    let L = layout n m in
    let k = basis_size n m in
    let q = polynomial_in L (basis_of L cs) in
    let p = polynomial_in L (solution_of L cs) in
    rw (length_tabulate k q)
    (ap₂ ◌⊕◌
    (sum_of_same k (λ i h. ap₂ (mul n)
    (ap (λ (c : List ℕ). value n c x) (get_d_tabulate (suc k) p i [] (omega arith)))
    (ap (λ (c : List ℕ). value n c x) (get_d_tabulate k q i [] h))))
    (ap (λ (c : List ℕ). value n c x) (get_d_tabulate (suc k) p k [] (omega arith))))
