-- How the equations come to lie in the work.
use mathlib.Core.List.{List}
use mathlib.Core.Path.{◌≡◌, ap, ◌∙◌}
use Prim.Native.Nat.{ℕ, ◌+◌, ◌-◌, ◌*◌, ◌<◌}
use native.Mathlib.Decide.{ℕ_discrete, dec_lt}
use native.Mathlib.Nat.{suc-mul}
use native.Mathlib.Numerals.{add-one}
use native.Mathlib.Omega.{arith}
use lib.ListN.{get_or}
use Rattle.xor.specs.Sum.{Small as SmallList}
use Rattle.linear.specs.Buffer.{cell, Overwritten, Written}
use Rattle.linear.specs.Scalars.{scalars}
use Rattle.linear.specs.System.{Elements}
use Rattle.linear.proofs.Buffer.{overwritten_other, overwritten_row}
use Rattle.decomposition.specs.Equations.{Rows, system}
use Rattle.decomposition.specs.Layout.{Sizes}
use Rattle.decomposition.specs.declared.layouts.Layout.{Layout}
use Rattle.decomposition.proofs.Columns.{equation_small}

-- ---- the equations

-- no row is there yet
pub rows_none : (L : Layout) (table basis l : List ℕ) → Rows L table basis 0 l
rows_none L table basis l = record { row = λ y h. absurd (omega arith) }

-- one row more
pub rows_more : {L : Layout} {x : ℕ} {table basis l l' : List ℕ} → Rows L table basis x l
    → Overwritten l l' (x * (L.unknowns + 1)) (L.unknowns + 1) (system L table basis x) → Rows L table basis (x + 1) l'
rows_more {L} {x} {table} {basis} {l} {l'} r u = record {
  row = λ y h. elim (ℕ_discrete y x) [
    | yes p ↦ rw p (overwritten_row (L.unknowns + 1) x u)
    | no ne ↦ record { at = λ k g. (overwritten_other (L.unknowns + 1) x y u ne).at k g ∙ (r.row y (omega arith)).at k g }
  ];
}

-- the equations are made of elements
pub rows_elements : {L : Layout} {table basis l : List ℕ} → Sizes L → SmallList L.width table → SmallList L.width basis
    → Rows L table basis L.inputs l → Elements (scalars L.width) L.inputs (L.unknowns + 1) (cell (L.unknowns + 1) l)
rows_elements {L} {table} {basis} z st sb r = record {
  at = λ x h. record {
    at = λ k g. rw ((r.row x h).at k g) (equation_small z basis sb x (get_or table x 0) k (omega (arith, z.inputs)) (st x));
  };
}

-- ---- bytes written one after the other

-- two runs of bytes
pub overwritten_join : {f₀ f f' : ℕ → ℕ} {a k e : ℕ} {v v' : ℕ → ℕ} → Written f₀ f a k v → Written f f' (a + k) e v'
    → ((j : ℕ) → j < e → v' j ≡ v (k + j)) → Written f₀ f' a (k + e) v
overwritten_join {f₀} {f} {f'} {a} {k} {e} {v} {v'} u w h = record {
  new = λ j b. elim (dec_lt j k) [
    | yes g ↦ w.low (a + j) (omega arith) ∙ u.new j g
    | no g ↦
        let i : ℕ = j - k in
        let q : k + i ≡ j = omega arith in
        let q' : a + k + i ≡ a + j = omega arith in
        rw (← q') (w.new i (omega arith) ∙ h i (omega arith) ∙ ap v q)
  ];
  low = λ j b. w.low j (omega arith) ∙ u.low j b;
  high = λ j b. w.high j (omega arith) ∙ u.high j (omega arith);
}

pub next_block : (i e : ℕ) → (i + 1) * e ≡ i * e + e
next_block i e = ap (λ (y : ℕ). y * e) (add-one i) ∙ suc-mul i e
