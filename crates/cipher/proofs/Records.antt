-- The laws of records: those that pass the tests of a table, and what the code asks of them.
use mathlib.Core.Path.{◌≡◌, refl, sym, ap, ap₂, ◌∙◌}
use mathlib.Core.Bool.{Bool, false, true}
use mathlib.Core.List.{List, [], ◌∷◌}
use Prim.Native.Nat.{ℕ, ◌%◌, ◌≤◌}
use native.Mathlib.Omega.{arith}
use borrow.Author.Tests.{eqb-true, le-leb, lt-leb}
use lib.Dec.{eqb}
use lib.ListN.{length}
use Rattle.std.specs.Prelude.{Some, None}
use Rattle.xor.specs.Sum.{Small}
use Rattle.refusal.specs.Outcome.{done, refused, test}
use Rattle.refusal.specs.Large.{first_large, found}
use Rattle.refusal.proofs.Outcome.{passed, then_passed}
use Rattle.refusal.proofs.Large.{found_some, found_nothing}
use Rattle.decomposition.specs.declared.layouts.Layout.{Layout}
use Rattle.decomposition.specs.Layout.{layout, sized, record_size}
use Rattle.decomposition.specs.Record.{coefficients_of, layout_of, version_of, width_of, outputs_of, read_outcome, Accepted}
use Rattle.decomposition.specs.Check.{form_in, record_output, first_difference, check_outcome}
use Rattle.decomposition.proofs.ReadOutcome.{read_values, read_accepted}
use Rattle.decomposition.proofs.Sizes.{outputs_4, layout_width, layout_4_4}
use Rattle.decomposition.proofs.Theorems.{check_whole}
use Rattle.present.specs.Present.{table}
use Rattle.present.specs.Decrypt.{inverse_table}
use Rattle.cipher.specs.OpenOperations.{both_tests}
use Rattle.cipher.specs.Ciphering.{RecordOf, Realizes, Nibbles, computes_table, record_tests}

-- ---- the test of the table

pub table_nibbles : Nibbles table
unfolding table first_large
table_nibbles = (refl, refl)

-- Check answers by the test, where Read accepts the record
pub check_tests : (t r : List ℕ) → Nibbles t → read_outcome r ≡ done (4 ∷ [])
    → check_outcome r t ≡ test (computes_table t r) 6 (first_difference (record_output (layout 4 4) r) t) (done [])
unfolding check_outcome computes_table layout sized
check_tests t r h e = let a = read_accepted r 4 e in rw (e, a.named, outputs_4 4 (outputs_of r) a.pair refl, h.0, h.1)

-- a last test that is not passed
pub last_fails : (b : Bool) (number place : ℕ) {n p : ℕ} → test b number place (done []) ≡ refused n p → b ≡ false
last_fails false number place e = refl
last_fails true number place e = let z : ◌≡◌ {A = ℕ} 0 1 = cc in absurd (omega arith)

-- ---- a record that passes its tests

-- Read and Check accept it
pub record_of : (t r : List ℕ) → Nibbles t → {numbers : List ℕ} → record_tests t r ≡ done numbers → RecordOf t r
unfolding record_tests
record_of t r h e =
    let a = then_passed (read_outcome r) _ e in
    let b = passed (eqb (width_of r) 4) 1 0 _ a.2 in
    let c = passed (computes_table t r) 6 0 _ b.1 in
    let four : width_of r ≡ 4 = eqb-true (width_of r) 4 b.0 in
    let read : read_outcome r ≡ done (4 ∷ []) = a.1 ∙ ap done (sym (read_values r a.1).1 ∙ ap (λ (n : ℕ). n ∷ []) four) in
    record { read = read; checked = check_tests t r h read ∙ ap (λ (b : Bool). test b 6 (first_difference (record_output (layout 4 4) r) t) (done [])) c.0 }

-- and one that they accept passes
pub of_passes : (t r : List ℕ) → Nibbles t → RecordOf t r → record_tests t r ≡ done []
unfolding record_tests
of_passes t r n h =
    let four : width_of r ≡ 4 = (read_accepted r 4 h.read).named in
    let place = first_difference (record_output (layout 4 4) r) t in
    let c = passed (computes_table t r) 6 place (done []) (sym (check_tests t r n h.read) ∙ h.checked) in
    rw (h.read, four, c.0) refl

-- those of PRESENT's table
pub present_record : (r : List ℕ) {numbers : List ℕ} → record_tests table r ≡ done numbers → RecordOf table r
present_record r = record_of table r table_nibbles

-- a record that Read accepts with width 4 and Check with PRESENT's table passes the tests of Block
pub present_passes : (r : List ℕ) → RecordOf table r → record_tests table r ≡ done []
present_passes r = of_passes table r table_nibbles

-- those of the inverse table
pub inverse_nibbles : Nibbles inverse_table
unfolding inverse_table first_large
inverse_nibbles = (refl, refl)

-- two records that pass the tests of an opening, and that they pass
pub both_records : (r q : List ℕ) {numbers : List ℕ} → both_tests r q ≡ done numbers → RecordOf table r × RecordOf inverse_table q
unfolding both_tests
both_records r q e =
    let a = then_passed (record_tests table r) _ e in
    (present_record r a.1, record_of inverse_table q inverse_nibbles a.2)

pub both_pass : (r q : List ℕ) → RecordOf table r → RecordOf inverse_table q → both_tests r q ≡ done []
unfolding both_tests
both_pass r q h k = rw (present_passes r h, of_passes inverse_table q inverse_nibbles k) refl

-- ---- the tests, from what Read hands on: a layout and coefficients

module _ (t r : List ℕ) {L : Layout} {cs : List ℕ} (read : read_outcome r ≡ done (L.width ∷ [])) (same : (L ≡ layout_of r) × (cs ≡ coefficients_of r)) where
  named : L.width ≡ width_of r
  named = ap (λ (l : Layout). l.width) same.0 ∙ layout_width (width_of r) (outputs_of r)

  pub other_width : eqb L.width 4 ≡ false → record_tests t r ≡ refused 1 0
  unfolding record_tests
  other_width e = rw (read, ← named, e) refl

  module _ (e : eqb L.width 4 ≡ true) where
    accepted_four : Accepted 4 r
    accepted_four = read_accepted r 4 (read ∙ ap (λ (n : ℕ). done (n ∷ [])) (eqb-true _ _ e))

    pub layout_four : L ≡ layout 4 4
    layout_four = same.0 ∙ ap₂ layout accepted_four.named (outputs_4 4 (outputs_of r) accepted_four.pair refl)

    pub inputs_four : L.inputs ≡ 16
    inputs_four = ap (λ (l : Layout). l.inputs) (layout_four ∙ layout_4_4)

    pub nibbles_read : Small 4 cs
    nibbles_read = rw same.1 accepted_four.elements

    -- what Check compares
    abbrev pub difference : ℕ
    difference = first_difference (λ x. form_in L cs x % L.entries) t

    difference_is : difference ≡ first_difference (record_output (layout 4 4) r) t
    difference_is = ap₂ (λ (l : Layout) (c : List ℕ). first_difference (λ x. form_in l c x % l.entries) t) layout_four same.1

    pub table_differs : {at : ℕ} → found difference (length t) ≡ Some at → record_tests t r ≡ refused 6 0
    unfolding record_tests computes_table
    table_differs h = rw (read, ← named, e, ← difference_is, lt-leb (length t) difference (found_some h).0) refl

    pub table_agrees : found difference (length t) ≡ None → record_tests t r ≡ done []
    unfolding record_tests computes_table
    table_agrees h = rw (read, ← named, e, ← difference_is, le-leb (length t) difference (found_nothing h)) refl

-- ---- the coefficients of a record of a table

module _ {t r : List ℕ} (h : RecordOf t r) where
  accepted : Accepted 4 r
  accepted = read_accepted r 4 h.read

  four : outputs_of r ≡ 4
  four = outputs_4 4 (outputs_of r) accepted.pair refl

  -- it is as long as the code asks
  pub record_room : record_size (version_of r) (layout 4 4) ≤ length r
  record_room = let w = rw four at accepted.whole in omega (arith, w)

  -- they are nibbles,
  pub record_small : Small 4 (coefficients_of r)
  record_small = accepted.elements

  -- and the form with them is the table
  pub record_realizes : Realizes t (coefficients_of r)
  record_realizes x small =
      let named = accepted.named in
      rw (named, four) at (check_whole r t h.checked (four ∙ sym named) x (rw named small))
