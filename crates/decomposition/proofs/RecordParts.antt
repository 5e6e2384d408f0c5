-- The parts of a written record, read back.
use mathlib.Core.Bool.{true}
use mathlib.Core.List.{List, ◌++◌}
use mathlib.Core.Path.{◌≡◌, refl, ap, ap₂, ◌∙◌, sym}
use Prim.Native.Nat.{ℕ, ◌+◌}
use native.Mathlib.Omega.{arith}
use lib.ListN.{length, drop, length-append, take}
use lib.Seq.{drop-append_seam, take_at}
use Rattle.decomposition.specs.Check.{record_form}
use Rattle.decomposition.specs.Form.{form}
use Rattle.decomposition.specs.Record.{headed, version_of, width_of, outputs_of, coefficients_of, basis_of, marked, record_of, solution_of}
use Rattle.decomposition.specs.declared.layouts.Layout.{Layout}

module _ (n m : ℕ) (basis p : List ℕ) where
  -- the list of bytes that a record is
  pub record_length : length (headed n m basis p) ≡ 7 + (length basis + length p)
  unfolding headed
  record_length = omega (arith, length-append basis p)

  pub record_entries : coefficients_of (headed n m basis p) ≡ basis ++ p
  unfolding headed
  record_entries = refl

  pub record_version : version_of (headed n m basis p) ≡ 2
  unfolding headed
  record_version = refl

  pub record_width : width_of (headed n m basis p) ≡ n
  unfolding headed
  record_width = refl

  pub record_outputs : outputs_of (headed n m basis p) ≡ m
  unfolding headed outputs_of
  record_outputs = refl

  pub record_marked : marked (headed n m basis p) ≡ true
  unfolding headed marked
  record_marked = refl

module _ (L : Layout) (basis p : List ℕ) (e : length basis ≡ L.basis) where
  pub record_basis : basis_of L (coefficients_of (record_of L basis p)) ≡ basis
  record_basis = ap (take L.basis) (record_entries L.width L.outputs basis p) ∙ take_at basis p L.basis e

  pub record_solution : solution_of L (coefficients_of (record_of L basis p)) ≡ p
  record_solution = ap₂ drop (sym e) (record_entries L.width L.outputs basis p) ∙ drop-append_seam basis p

  -- so the form of the record is that of its parts
  pub record_form_lem : (x : ℕ) → record_form L (record_of L basis p) x ≡ form L basis p x
  record_form_lem x = ap₂ (λ (q s : List ℕ). form L q s x) record_basis record_solution
