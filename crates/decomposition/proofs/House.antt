-- THE HOUSE BASIS decomposes every table of width 4: the columns of its 16 equations have a right inverse, which is tested by computation. So House fit
-- ends as Fit does, and has no refusal but those of its tests.
use mathlib.Core.Bool.{Bool, true, false, cond}
use mathlib.Core.List.{List, [], ◌∷◌, flatten, map}
use mathlib.Core.Logic.{◌⊎◌, inl, inr}
use mathlib.Core.Path.{◌≡◌, refl, sym, ap, ap₂, subst, ◌∙◌}
use Prim.Native.Nat.{ℕ, ◌+◌, ◌*◌, ◌/◌, ◌%◌, ◌^◌, ◌<◌}
use native.Mathlib.Decide.{dec_lt}
use native.Mathlib.Nat.{mod-eq_of_lt}
use native.Mathlib.Omega.{arith}
use lib.Arith.{digits_div, digits_mod}
use lib.Dec.{eqb, leb, ltb, ltb→lt}
use lib.ListN.{length, get_or, replicate}
use borrow.Author.Tests.{eq-eqb, leb-true, lt-ltb, ne_eqb}
use Rattle.xor.specs.Sum.{Small}
use Rattle.refusal.specs.Large.{first_large}
use Rattle.refusal.specs.Outcome.{Outcome, done, refused, test, and_then, written}
use Rattle.refusal.proofs.Large.{all_small}
use Rattle.refusal.proofs.Outcome.{done_values, passed}
use Rattle.field.specs.Polynomial.{classes, exponents, combination, value}
use Rattle.field.proofs.Inverses.{products}
use Rattle.field.proofs.Tests.{all_at, same_below}
use Rattle.linear.specs.Row.{RowElements, dot}
use Rattle.linear.specs.Scalars.{scalars}
use Rattle.linear.proofs.Inverse.{RightInverse, inverse_solves}
use Rattle.linear.proofs.Row.{dot_agree, dot_below}
use Rattle.linear.proofs.Scalars.{laws_of}
use Rattle.decomposition.specs.Fit.{FitEnd, Found, fit_end, fit_lengths, fit_outcome, fit_record, fit_tests, fit_work, house_basis, house_call, house_end, house_outcome}
use Rattle.decomposition.specs.Form.{Computes, factor, form, monomial, unknown_column, value_of}
use Rattle.decomposition.specs.Layout.{Sizes, layout, sized, terms_of}
use Rattle.decomposition.specs.Record.{record_of}
use Rattle.decomposition.specs.Solution.{candidates, solution, solution_number, solvable}
use Rattle.decomposition.specs.declared.layouts.Layout.{Layout}
use Rattle.decomposition.proofs.Columns.{column_small, form_columns, form_small}
use Rattle.std.specs.List.{range_with_len}
use Rattle.std.proofs.lemmas.List.FromFn.{get_or-map-range_with_len, length-map-range_with_len}
use Rattle.decomposition.proofs.Decomposition.{small_list}
use Rattle.decomposition.proofs.Ready.{fit_at_pair, passed_at}
use Rattle.decomposition.proofs.Sizes.{same_pair, sizes}
use Rattle.decomposition.proofs.Tests.{fit_lengths_lem}
use Rattle.decomposition.proofs.Total.{fit_end_lem, not_solvable}

-- ---- a basis whose columns have a right inverse, where all bits come out

module _ {L : Layout} (z : Sizes L) (same : L.outputs ≡ L.width) (basis : List ℕ) (sb : Small L.width basis) (R : ℕ → ℕ → ℕ)
    (i : RightInverse (scalars L.width) (2 ^ L.width) L.unknowns (unknown_column L basis) R)
    (table : List ℕ) (st : Small L.outputs table) where
  entries : RowElements (scalars L.width) (2 ^ L.width) (λ y. get_or table y 0)
  entries = record { at = λ y l. subst (λ (m : ℕ). get_or table y 0 < 2 ^ m) same (st y) }

  -- unknown k: row k of the inverse, times the table
  unknown : ℕ → ℕ
  unknown k = dot (scalars L.width) (2 ^ L.width) (R k) (λ y. get_or table y 0)

  p : List ℕ
  p = map unknown (range_with_len 0 L.unknowns)

  elements : Small L.width p
  unfolding p unknown
  elements =
      let e = length-map-range_with_len unknown 0 L.unknowns in
      small_list L.width p
      (λ k l. let h : k < L.unknowns = omega (arith, e) in
      rw (get_or-map-range_with_len unknown 0 L.unknowns k k 0 h (omega arith)) (dot_below (laws_of z.width) (2 ^ L.width) (i.elements.at k h) entries))

  -- every table is met
  pub inverse_reaches : (q : List ℕ) × Computes L table basis q
  unfolding p unknown
  inverse_reaches = (
    p,
    record {
      unknowns = length-map-range_with_len unknown 0 L.unknowns;
      elements = elements;
      equal = λ x h.
          mod-eq_of_lt (subst (λ (m : ℕ). form L basis p x < 2 ^ m) (sym same) (form_small z basis sb x h p elements))
          ∙ sym (form_columns z basis sb x h p elements)
          ∙ dot_agree (scalars L.width) L.unknowns {r = unknown_column L basis x} {s = unknown_column L basis x} {d = λ k. get_or p k 0} {e = unknown}
          (record { at = λ k l. refl }) (record { at = λ k l. get_or-map-range_with_len unknown 0 L.unknowns k k 0 l (omega arith) })
          ∙ inverse_solves (laws_of z.width) (2 ^ L.width) L.unknowns (unknown_column L basis) R (λ y. get_or table y 0)
          (record { at = λ y l. record { at = λ k g. column_small z basis sb y l k } }) i entries x h;
    },
  )

-- ---- the equations of the house basis

-- the columns at each input, input after input
unfoldable columns : List ℕ
columns =
    0 ∷ 0 ∷ 0 ∷ 0 ∷ 0 ∷ 0 ∷ 0 ∷ 0 ∷ 0 ∷ 1 ∷ 0 ∷ 0 ∷ 0 ∷ 0 ∷ 0 ∷ 0 ∷ 0 ∷ 0 ∷
    1 ∷ 1 ∷ 1 ∷ 1 ∷ 1 ∷ 1 ∷ 1 ∷ 1 ∷ 1 ∷ 1 ∷ 1 ∷ 1 ∷ 1 ∷ 1 ∷ 1 ∷ 1 ∷ 1 ∷ 1 ∷
    9 ∷ 1 ∷ 2 ∷ 8 ∷ 11 ∷ 4 ∷ 6 ∷ 14 ∷ 5 ∷ 1 ∷ 2 ∷ 4 ∷ 3 ∷ 5 ∷ 8 ∷ 12 ∷ 15 ∷ 10 ∷
    14 ∷ 1 ∷ 3 ∷ 15 ∷ 13 ∷ 5 ∷ 6 ∷ 9 ∷ 4 ∷ 1 ∷ 3 ∷ 5 ∷ 2 ∷ 4 ∷ 15 ∷ 10 ∷ 8 ∷ 12 ∷
    13 ∷ 1 ∷ 4 ∷ 12 ∷ 9 ∷ 3 ∷ 7 ∷ 11 ∷ 2 ∷ 1 ∷ 4 ∷ 3 ∷ 5 ∷ 2 ∷ 12 ∷ 15 ∷ 10 ∷ 8 ∷
    11 ∷ 1 ∷ 5 ∷ 10 ∷ 14 ∷ 2 ∷ 7 ∷ 13 ∷ 3 ∷ 1 ∷ 5 ∷ 2 ∷ 4 ∷ 3 ∷ 10 ∷ 8 ∷ 12 ∷ 15 ∷
    0 ∷ 0 ∷ 0 ∷ 0 ∷ 0 ∷ 0 ∷ 0 ∷ 0 ∷ 0 ∷ 1 ∷ 6 ∷ 7 ∷ 6 ∷ 7 ∷ 1 ∷ 1 ∷ 1 ∷ 1 ∷
    0 ∷ 0 ∷ 0 ∷ 0 ∷ 0 ∷ 0 ∷ 0 ∷ 0 ∷ 0 ∷ 1 ∷ 7 ∷ 6 ∷ 7 ∷ 6 ∷ 1 ∷ 1 ∷ 1 ∷ 1 ∷
    8 ∷ 12 ∷ 10 ∷ 1 ∷ 15 ∷ 15 ∷ 12 ∷ 10 ∷ 1 ∷ 1 ∷ 8 ∷ 12 ∷ 15 ∷ 10 ∷ 10 ∷ 8 ∷ 12 ∷ 15 ∷
    12 ∷ 6 ∷ 3 ∷ 4 ∷ 13 ∷ 8 ∷ 1 ∷ 10 ∷ 15 ∷ 1 ∷ 9 ∷ 13 ∷ 14 ∷ 11 ∷ 15 ∷ 10 ∷ 8 ∷ 12 ∷
    10 ∷ 8 ∷ 15 ∷ 1 ∷ 12 ∷ 12 ∷ 8 ∷ 15 ∷ 1 ∷ 1 ∷ 10 ∷ 8 ∷ 12 ∷ 15 ∷ 15 ∷ 10 ∷ 8 ∷ 12 ∷
    8 ∷ 7 ∷ 4 ∷ 2 ∷ 9 ∷ 10 ∷ 1 ∷ 15 ∷ 12 ∷ 1 ∷ 11 ∷ 9 ∷ 13 ∷ 14 ∷ 12 ∷ 15 ∷ 10 ∷ 8 ∷
    12 ∷ 15 ∷ 8 ∷ 1 ∷ 10 ∷ 10 ∷ 15 ∷ 8 ∷ 1 ∷ 1 ∷ 12 ∷ 15 ∷ 10 ∷ 8 ∷ 8 ∷ 12 ∷ 15 ∷ 10 ∷
    15 ∷ 7 ∷ 5 ∷ 3 ∷ 14 ∷ 12 ∷ 1 ∷ 8 ∷ 10 ∷ 1 ∷ 13 ∷ 14 ∷ 11 ∷ 9 ∷ 10 ∷ 8 ∷ 12 ∷ 15 ∷
    10 ∷ 6 ∷ 2 ∷ 5 ∷ 11 ∷ 15 ∷ 1 ∷ 12 ∷ 8 ∷ 1 ∷ 14 ∷ 11 ∷ 9 ∷ 13 ∷ 8 ∷ 12 ∷ 15 ∷ 10 ∷
    15 ∷ 10 ∷ 12 ∷ 1 ∷ 8 ∷ 8 ∷ 10 ∷ 12 ∷ 1 ∷ 1 ∷ 15 ∷ 10 ∷ 8 ∷ 12 ∷ 12 ∷ 15 ∷ 10 ∷ 8 ∷ []

-- a right inverse, row after row: its column y is a solution for the table that is 1 at y and 0 elsewhere
unfoldable inverse : List ℕ
inverse =
    0 ∷ 1 ∷ 8 ∷ 15 ∷ 12 ∷ 10 ∷ 1 ∷ 1 ∷ 10 ∷ 15 ∷ 15 ∷ 12 ∷ 8 ∷ 10 ∷ 8 ∷ 12 ∷
    0 ∷ 0 ∷ 13 ∷ 11 ∷ 14 ∷ 9 ∷ 7 ∷ 6 ∷ 10 ∷ 14 ∷ 15 ∷ 13 ∷ 8 ∷ 11 ∷ 9 ∷ 12 ∷
    0 ∷ 0 ∷ 11 ∷ 13 ∷ 9 ∷ 14 ∷ 6 ∷ 7 ∷ 14 ∷ 10 ∷ 13 ∷ 15 ∷ 11 ∷ 8 ∷ 12 ∷ 9 ∷
    1 ∷ 0 ∷ 3 ∷ 2 ∷ 5 ∷ 4 ∷ 6 ∷ 7 ∷ 14 ∷ 14 ∷ 13 ∷ 13 ∷ 11 ∷ 11 ∷ 9 ∷ 9 ∷
    0 ∷ 0 ∷ 5 ∷ 4 ∷ 2 ∷ 3 ∷ 1 ∷ 1 ∷ 14 ∷ 9 ∷ 13 ∷ 11 ∷ 11 ∷ 13 ∷ 14 ∷ 9 ∷
    1 ∷ 1 ∷ 1 ∷ 1 ∷ 1 ∷ 1 ∷ 1 ∷ 1 ∷ 1 ∷ 1 ∷ 1 ∷ 1 ∷ 1 ∷ 1 ∷ 1 ∷ 1 ∷
    0 ∷ 1 ∷ 5 ∷ 4 ∷ 2 ∷ 3 ∷ 7 ∷ 6 ∷ 10 ∷ 11 ∷ 15 ∷ 14 ∷ 8 ∷ 9 ∷ 13 ∷ 12 ∷
    0 ∷ 1 ∷ 9 ∷ 14 ∷ 13 ∷ 11 ∷ 0 ∷ 0 ∷ 6 ∷ 3 ∷ 7 ∷ 4 ∷ 7 ∷ 5 ∷ 2 ∷ 6 ∷
    0 ∷ 1 ∷ 3 ∷ 2 ∷ 5 ∷ 4 ∷ 6 ∷ 7 ∷ 15 ∷ 14 ∷ 12 ∷ 13 ∷ 10 ∷ 11 ∷ 9 ∷ 8 ∷
    1 ∷ 0 ∷ 0 ∷ 0 ∷ 0 ∷ 0 ∷ 0 ∷ 0 ∷ 0 ∷ 0 ∷ 0 ∷ 0 ∷ 0 ∷ 0 ∷ 0 ∷ 0 ∷
    1 ∷ 0 ∷ 2 ∷ 3 ∷ 4 ∷ 5 ∷ 0 ∷ 0 ∷ 11 ∷ 3 ∷ 14 ∷ 4 ∷ 9 ∷ 5 ∷ 2 ∷ 13 ∷
    0 ∷ 0 ∷ 8 ∷ 15 ∷ 12 ∷ 10 ∷ 0 ∷ 0 ∷ 10 ∷ 5 ∷ 15 ∷ 3 ∷ 8 ∷ 2 ∷ 4 ∷ 12 ∷
    1 ∷ 0 ∷ 4 ∷ 5 ∷ 3 ∷ 2 ∷ 0 ∷ 0 ∷ 7 ∷ 8 ∷ 6 ∷ 10 ∷ 6 ∷ 12 ∷ 15 ∷ 7 ∷
    0 ∷ 0 ∷ 14 ∷ 9 ∷ 11 ∷ 13 ∷ 1 ∷ 1 ∷ 6 ∷ 14 ∷ 7 ∷ 13 ∷ 7 ∷ 11 ∷ 9 ∷ 6 ∷
    0 ∷ 0 ∷ 12 ∷ 10 ∷ 15 ∷ 8 ∷ 7 ∷ 6 ∷ 2 ∷ 7 ∷ 5 ∷ 6 ∷ 4 ∷ 6 ∷ 7 ∷ 3 ∷
    1 ∷ 0 ∷ 10 ∷ 12 ∷ 8 ∷ 15 ∷ 1 ∷ 1 ∷ 14 ∷ 12 ∷ 13 ∷ 8 ∷ 11 ∷ 15 ∷ 10 ∷ 9 ∷
    0 ∷ 0 ∷ 0 ∷ 0 ∷ 0 ∷ 0 ∷ 0 ∷ 0 ∷ 0 ∷ 0 ∷ 0 ∷ 0 ∷ 0 ∷ 0 ∷ 0 ∷ 0 ∷
    0 ∷ 0 ∷ 0 ∷ 0 ∷ 0 ∷ 0 ∷ 0 ∷ 0 ∷ 0 ∷ 0 ∷ 0 ∷ 0 ∷ 0 ∷ 0 ∷ 0 ∷ 0 ∷ []

-- the columns are those of the form
columns_right : (i : ℕ) → i < 288 → unknown_column (layout 4 4) house_basis (i / 18) (i % 18) ≡ get_or columns i 0
unfolding products exponents classes flatten monomial value_of value combination factor unknown_column house_basis columns layout sized terms_of
columns_right = same_below 288 (λ i. unknown_column (layout 4 4) house_basis (i / 18) (i % 18)) (λ i. get_or columns i 0) tt

-- the inverse is made of elements
inverse_small : (i : ℕ) → i < 288 → get_or inverse i 0 < 16
unfolding inverse
inverse_small i h = ltb→lt (get_or inverse i 0) 16 (all_at 288 (λ j. ltb (get_or inverse j 0) 16) tt i h)

-- it is a right inverse of the columns
inverse_right : (i : ℕ) → i < 256
    → dot (scalars 4) 18 (λ k. get_or columns (i / 16 * 18 + k) 0) (λ k. get_or inverse (k * 16 + i % 16) 0) ≡ cond (eqb (i / 16) (i % 16)) 1 0
unfolding products columns inverse dot
inverse_right =
    same_below 256 (λ i. dot (scalars 4) 18 (λ k. get_or columns (i / 16 * 18 + k) 0) (λ k. get_or inverse (k * 16 + i % 16) 0))
    (λ i. cond (eqb (i / 16) (i % 16)) 1 0) tt

-- ---- at each input and unknown

column_is : (x k : ℕ) → x < 16 → k < 18 → unknown_column (layout 4 4) house_basis x k ≡ get_or columns (x * 18 + k) 0
column_is x k h g =
    ap₂ (unknown_column (layout 4 4) house_basis) (sym (digits_div x g)) (sym (digits_mod x g)) ∙ columns_right (x * 18 + k) (omega arith)

product_is : (x y : ℕ) → x < 16 → y < 16
    → dot (scalars 4) 18 (unknown_column (layout 4 4) house_basis x) (λ k. get_or inverse (k * 16 + y) 0) ≡ cond (eqb x y) 1 0
product_is x y h g =
    dot_agree (scalars 4) 18 {e = λ k. get_or inverse (k * 16 + y) 0} (record { at = λ k l. column_is x k h l }) (record { at = λ k l. refl })
    ∙ (rw (digits_div x g, digits_mod x g) at (inverse_right (x * 16 + y) (omega arith)))

right_inverse : RightInverse (scalars 4) 16 18 (unknown_column (layout 4 4) house_basis) (λ k y. get_or inverse (k * 16 + y) 0)
right_inverse = record {
  elements = record { at = λ k h. record { at = λ y g. inverse_small (k * 16 + y) (omega arith) } };
  one = λ x h. product_is x x h h ∙ rw (eq-eqb x x refl) refl;
  zero = λ x y h g n. product_is x y h g ∙ rw (ne_eqb x y (λ e. n (sym e))) refl;
}

pub house_small : Small 4 house_basis
unfolding house_basis
house_small = small_list 4 house_basis (λ k l. ltb→lt (get_or house_basis k 0) 16 (all_at 9 (λ j. ltb (get_or house_basis j 0) 16) tt k l))

-- EVERY TABLE is met by some p over the house basis.
pub house_reaches : (table : List ℕ) → Small 4 table → (p : List ℕ) × Computes (layout 4 4) table house_basis p
unfolding layout sized terms_of exponents classes flatten
house_reaches table st =
    inverse_reaches (sizes 4 4 (same_pair 4 refl)) refl house_basis house_small (λ k y. get_or inverse (k * 16 + y) 0) right_inverse table st

-- so the search for p finds one
house_solvable : (table : List ℕ) → length table ≡ 16 → Small 4 table → solvable (layout 4 4) table house_basis ≡ true
unfolding solvable layout sized
house_solvable table e st =
    let L = layout 4 4 in
    elim (dec_lt (solution_number L table house_basis) (candidates L)) [
      | yes h ↦ lt-ltb (solution_number L table house_basis) (candidates L) h
      | no h ↦
          let x = house_reaches table st in
          absurd ((not_solvable (sizes 4 4 (same_pair 4 refl)) table house_basis e st house_small (omega arith)).never x.0 x.1)
    ]

-- ---- House fit

module _ (table work out : List ℕ) where
  -- its tests are those of a fit: the basis is passed
  pub house_tests : fit_tests (layout 4 4) table house_basis (length work) (length out) ≡ house_outcome table work out
  unfolding house_outcome house_basis first_large layout sized
  house_tests = refl

  -- what they come to at a layout that is this one
  pub house_told : (L : Layout) {T : Outcome} → L ≡ layout 4 4 → fit_tests L table house_basis (length work) (length out) ≡ T → house_outcome table work out ≡ T
  house_told L e h =
      sym house_tests ∙ sym (ap (λ (M : Layout). fit_tests M table house_basis (length work) (length out)) e) ∙ h

  -- where they are passed, the table is one of 16 entries below 16, and nothing is handed back
  pub house_passed : {values : List ℕ} → house_outcome table work out ≡ done values → (length table ≡ 16) × Small 4 table × ([] ≡ values)
  unfolding house_outcome layout sized
  house_passed h =
      let a = passed (fit_lengths (layout 4 4) (length table) (length house_basis) (length work) (length out)) 2 0 _ h in
      let first = first_large 16 table in
      let b = passed (leb (length table) first) 3 (0 + first) _ a.1 in (
        (fit_lengths_lem (layout 4 4) (length table) (length house_basis) (length work) (length out) a.0).0,
        all_small 16 table (omega arith) (leb-true (length table) first b.0),
        done_values b.1,
      )

  -- they refuse by 2 or by 3
  pub house_number : {number place : ℕ} → house_outcome table work out ≡ refused number place → (number ≡ 2) ⊎ (number ≡ 3)
  unfolding house_outcome
  house_number {number} {place} =
      go (fit_lengths (layout 4 4) (length table) (length house_basis) (length work) (length out)) (leb (length table) (first_large 16 table))
    where
      go : (b b' : Bool) → test b 2 0 (test b' 3 (0 + first_large 16 table) (done [])) ≡ refused number place → (number ≡ 2) ⊎ (number ≡ 3)
      go true true h = absurd (let q : ◌≡◌ {A = ℕ} 0 1 = cc in omega arith)
      go true false h = inr cc
      go false b' h = inl cc

  -- a fit over the house basis comes to no more than its tests
  fit_outcome_lem : fit_outcome 4 4 (house_call table work out) ≡ house_outcome table work out
  unfolding fit_outcome
  fit_outcome_lem = ap (λ (o : Outcome). and_then o last) house_tests ∙ go (house_outcome table work out) refl
    where
      last : Outcome
      last = test (solvable (layout 4 4) table house_basis) 4 0 (done [])

      go : (o : Outcome) → house_outcome table work out ≡ o → and_then o last ≡ o
      go (refused number place) e = refl
      go (done values) e = let a = house_passed e in rw (house_solvable table a.0 a.1) (ap done a.2)

  -- HOUSE FIT IS A FIT over the house basis.
  pub house_end_lem : fit_end 4 4 (house_call table work out) ≡ house_end table work out
  unfolding fit_work fit_record
  house_end_lem =
      let L = layout 4 4 in
      ap₂ (λ (o t : Outcome). record {
        outcome = o;
        work = written t (replicate (length work) 0) work;
        out = written o (record_of L house_basis (solution L table house_basis)) out;
      }) fit_outcome_lem house_tests

  -- where a test refuses, nothing is changed
  pub house_refuses : {number place : ℕ} → house_outcome table work out ≡ refused number place
      → record { outcome = refused number place; work = work; out = out } ≡ house_end table work out
  house_refuses h = rw h refl

  -- where the tests are passed, what is found is the record, and the outcome is success
  pub house_finds : (e : FitEnd) → house_outcome table work out ≡ done []
      → (e.work ≡ replicate (length work) 0) × Found (layout 4 4) (house_call table work out) e.out e.outcome
      → record { outcome = done []; work = e.work; out = e.out } ≡ house_end table work out
  house_finds e h f =
      let c = house_call table work out in
      let k = same_pair 4 refl in
      let q : e ≡ house_end table work out =
      fit_end_lem 4 4 c e (fit_at_pair (layout 4 4) c 4 4 k refl e (passed_at (layout 4 4) c e (house_tests ∙ h) f)) ∙ house_end_lem in
      ap (λ (o : Outcome). record { outcome = o; work = e.work; out = e.out }) (sym (ap (λ (x : FitEnd). x.outcome) q ∙ h)) ∙ q
