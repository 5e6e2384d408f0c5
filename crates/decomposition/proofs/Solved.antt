-- What the solver's answer says of the decomposition.
use mathlib.Core.List.{List, ◌++◌, append-nil}
use mathlib.Core.Path.{◌≡◌, refl, sym, ap, subst, ◌∙◌}
use Prim.Native.Nat.{ℕ, ◌+◌, ◌*◌}
use native.Mathlib.Omega.{arith}
use lib.ListN.{length, get_or, take, drop, length-drop, drop_of_length-le}
use lib.Seq.{drop_at, length-take-le}
use borrow.Rule.Slice.PartMut.{put_mid, post_of}
use Rattle.std.specs.Prelude.{Result, Ok, Err}
use Rattle.std.specs.Result.{result_or}
use Rattle.xor.specs.Sum.{Small as SmallList}
use Rattle.linear.specs.Bits.{bits}
use Rattle.linear.specs.Packed.{bit_cell, bits_of}
use Rattle.linear.specs.Buffer.{cell}
use Rattle.linear.specs.Scalars.{scalars}
use Rattle.linear.specs.Shape.{Solved, bit_shape, element_shape}
use Rattle.linear.specs.System.{Canonical, Inconsistent}
use Rattle.linear.proofs.System.{canonical_rows, inconsistent_rows}
use Rattle.decomposition.specs.Equations.{BitRows, Rows, bit_system, system}
use Rattle.decomposition.specs.Fit.{Decomposed}
use Rattle.decomposition.specs.Layout.{Sizes}
use Rattle.decomposition.specs.declared.layouts.Layout.{Layout}
use Rattle.decomposition.proofs.Decomposition.{canonical_decomposition, elements_decomposition, elements_none, inconsistent_none}

-- ---- over elements, at equal widths

module _ {L : Layout} (z : Sizes L) (table basis : List ℕ) (sb : SmallList L.width basis) (same : L.outputs ≡ L.width)
    (st : SmallList L.outputs table) (w o p : List ℕ) (rows : Rows L table basis L.inputs w) (e : length p ≡ L.unknowns) where
  pub elements_solved : {E : Type 0} (r : Result (Unit {0}) E) → Solved (element_shape L.width L.inputs L.unknowns) (cell (L.unknowns + 1) w) o p r
      → Decomposed L table basis o p r
  elements_solved (Ok u) s =
      let g : Canonical (scalars L.width) L.inputs (system L table basis) L.unknowns (λ k. get_or p k 0) = canonical_rows (omega arith) rows.row s.0 in
      elements_decomposition z table basis sb same st p e
      (subst (λ (m : ℕ). Canonical (scalars L.width) m (system L table basis) L.unknowns (λ k. get_or p k 0)) z.inputs g)
  elements_solved (Err d) s =
      let g : Inconsistent (scalars L.width) L.inputs (system L table basis) L.unknowns = inconsistent_rows (omega arith) rows.row s.0 in (
        elements_none z table basis sb same st (subst (λ (m : ℕ). Inconsistent (scalars L.width) m (system L table basis) L.unknowns) z.inputs g),
        s.1,
      )

-- ---- over bits

module _ {L : Layout} (z : Sizes L) (table basis : List ℕ) (sb : SmallList L.width basis) (st : SmallList L.outputs table) (w o p : List ℕ)
    (rows : BitRows L table basis (L.inputs * L.outputs) w) (e : length p ≡ L.unknowns) where
  pub bits_solved : {E : Type 0} (r : Result (Unit {0}) E)
      → Solved (bit_shape L.stride L.width (L.inputs * L.outputs) (L.unknowns * L.width)) (bit_cell L.stride w) o p r → Decomposed L table basis o p r
  bits_solved (Ok u) s =
      let g : Canonical bits (L.inputs * L.outputs) (bit_system L table basis) (L.unknowns * L.width) (bits_of L.width p) =
      canonical_rows (omega arith) rows.row s.0 in
      canonical_decomposition z table basis sb st p e s.1
      (subst (λ (m : ℕ). Canonical bits (m * L.outputs) (bit_system L table basis) (L.unknowns * L.width) (bits_of L.width p)) z.inputs g)
  bits_solved (Err d) s =
      let g : Inconsistent bits (L.inputs * L.outputs) (bit_system L table basis) (L.unknowns * L.width) = inconsistent_rows (omega arith) rows.row s.0 in (
        inconsistent_none z table basis sb
            (subst (λ (m : ℕ). Inconsistent bits (m * L.outputs) (bit_system L table basis) (L.unknowns * L.width)) z.inputs g),
        s.1,
      )

-- ---- an answer with another error in place of its own

pub success_of : {E F : Type 0} (given : F) (r : Result (Unit {0}) E) {answer : Result (Unit {0}) F} {u : Unit {0}} → answer ≡ result_or r (Err given)
    → answer ≡ Ok u → r ≡ Ok u
success_of given (Ok v) h g = refl
success_of {F = F} given (Err e) {u = u} h g = let clash : ◌≡◌ {A = Result (Unit {0}) F} (Err given) (Ok u) = sym h ∙ g in cc

pub error_of : {E F : Type 0} {given : F} (r : Result (Unit {0}) E) {answer : Result (Unit {0}) F} {d : F} → answer ≡ result_or r (Err given)
    → answer ≡ Err d → (e : E) × (r ≡ Err e) × (d ≡ given)
error_of {F = F} (Ok v) {d = d} h g = let clash : ◌≡◌ {A = Result (Unit {0}) F} (Ok v) (Err d) = sym h ∙ g in cc
error_of {F = F} {given = given} (Err e) {d = d} h g = let same : ◌≡◌ {A = Result (Unit {0}) F} (Err given) (Err d) = sym h ∙ g in (e, refl, cc)

-- the last k bytes of a list of h + k, after they were lent and written
pub put_tail : (h k : ℕ) (l p : List ℕ) → length l ≡ h + k → drop h (put_mid h k l p) ≡ p
put_tail h k l p e =
    drop_at (take h l) (p ++ post_of h k l) h (length-take-le h l (omega arith))
    ∙ ap (λ (y : List ℕ). p ++ y) (drop_of_length-le (drop h l) {i = k} (omega (arith, length-drop h l)))
    ∙ append-nil p
