-- What the ghost fields say has one proof at most.
use mathlib.Core.Logic.{inl, inr, ∥∥₁_elim}
use mathlib.Core.Path.{ap}
use Prim.Native.Nat.{ℕ}
use native.Mathlib.Nat.{ℕ_set}
use native.Mathlib.Bridge.{le_prop}
use native.Mathlib.Omega.{arith}
use Rattle.field.specs.Mul.{Narrow}
use Rattle.decomposition.specs.Layout.{Sizes}
use Rattle.decomposition.specs.declared.layouts.Layout.{Layout}

narrow_prop : (n : ℕ) → IsProp (Narrow n)
narrow_prop n (inl p) (inl q) = ap inl (ℕ_set _ _ p q)
narrow_prop n (inl p) (inr q) = absurd (omega arith)
narrow_prop n (inr p) (inl q) = absurd (omega arith)
narrow_prop n (inr p) (inr q) = ap inr (ℕ_set _ _ p q)

sizes_prop : (L : Layout) → IsProp (Sizes L)
sizes_prop L x y = λ i. record {
  width = narrow_prop L.width x.width y.width i;
  inputs = ℕ_set _ _ x.inputs y.inputs i;
  entries = ℕ_set _ _ x.entries y.entries i;
  some_outputs = le_prop x.some_outputs y.some_outputs i;
  few_outputs = le_prop x.few_outputs y.few_outputs i;
  listed = ℕ_set _ _ x.listed y.listed i;
  unknowns = ℕ_set _ _ x.unknowns y.unknowns i;
  basis = ℕ_set _ _ x.basis y.basis i;
  coefficients = ℕ_set _ _ x.coefficients y.coefficients i;
  element_work = λ h. ℕ_set _ _ (x.element_work h) (y.element_work h) i;
  bit_work = λ h. ℕ_set _ _ (x.bit_work h) (y.bit_work h) i;
  bit_room = le_prop x.bit_room y.bit_room i;
  few_bytes = le_prop x.few_bytes y.few_bytes i;
  bit_row = λ h. ℕ_set _ _ (x.bit_row h) (y.bit_row h) i;
  byte = le_prop x.byte y.byte i;
  some_exponents = le_prop x.some_exponents y.some_exponents i;
  few_exponents = le_prop x.few_exponents y.few_exponents i;
  some_terms = le_prop x.some_terms y.some_terms i;
  few_terms = le_prop x.few_terms y.few_terms i;
}

pub sizes_of : {L : Layout} → ∥ Sizes L ∥₁ → Sizes L
sizes_of {L} h = ∥∥₁_elim h (sizes_prop L) (λ x. x)
