-- What holds of a record that Read accepts, and of one that Check accepts.
use mathlib.Core.List.{List, [], ◌∷◌}
use mathlib.Core.Path.{◌≡◌, refl, sym, ap, ap₂, subst, ◌∙◌}
use mathlib.Core.Bool.{Bool, true, cond}
use Prim.Native.Nat.{ℕ, ◌+◌, ◌-◌, ◌^◌, ◌<◌, ◌≤◌}
use native.Mathlib.Decide.{ℕ_discrete}
use native.Mathlib.Omega.{arith}
use lib.Dec.{leb, eqb}
use lib.ListN.{length, length-drop, drop, take, get_or}
use lib.Pow.{pow_pos}
use lib.Seq.{get_or-drop, drop-drop}
use borrow.Author.Tests.{eqb-true, leb-true, eq-eqb, ne_eqb, le-leb, lt-leb}
use Rattle.xor.proofs.Sum.{small_take, small_drop}
use Rattle.refusal.specs.Large.{first_large, test_below}
use Rattle.refusal.specs.Outcome.{done, refused, test}
use Rattle.refusal.proofs.Large.{all_small, none_large}
use Rattle.refusal.proofs.Outcome.{passed, done_values}
use Rattle.decomposition.specs.Check.{check_at, first_difference, record_form, record_output}
use Rattle.decomposition.specs.Form.{Computes}
use Rattle.decomposition.specs.Layout.{known, Known, paired, head, layout, record_size}
use Rattle.decomposition.specs.Record.{Accepted, marked, version_of, width_of, outputs_of, coefficients_of, layout_of, pair_tests, read_outcome, basis_of, solution_of}
use Rattle.decomposition.proofs.Columns.{form_small}
use Rattle.decomposition.proofs.Differences.{difference_none}
use Rattle.decomposition.proofs.Sizes.{layout_width, sizes}
use Rattle.decomposition.proofs.Tests.{head_few, whole_part}

-- ---- the tests, by the parts of a record

-- as many follow a head as the length leaves
eqb_drop : (r : List ℕ) (h size : ℕ) → h ≤ length r → eqb (length (drop h r)) size ≡ eqb (length r) (h + size)
eqb_drop r h size l = elim (ℕ_discrete (length r) (h + size)) [
  | yes e ↦ rw (eq-eqb (length r) (h + size) e) (eq-eqb (length (drop h r)) size (omega (arith, e, length-drop h r)))
  | no n ↦ rw (ne_eqb (length r) (h + size) n) (ne_eqb (length (drop h r)) size (omega (arith, n, length-drop h r)))
]

-- the two versions: what follows the first six bytes, and what the record says there
abbrev pub rest_of : List ℕ → List ℕ
rest_of r = take (length r - 6) (drop 6 r)

module _ (r : List ℕ) where
  pub outputs_1 : (version_of r ≡ 2 → ⊥) → outputs_of r ≡ width_of r
  unfolding outputs_of
  outputs_1 n = rw (ne_eqb (version_of r) 2 n) refl

  pub part_1 : (version_of r ≡ 2 → ⊥) → coefficients_of r ≡ rest_of r
  part_1 n = ap (λ (b : Bool). drop (cond b 7 6) r) (ne_eqb (version_of r) 2 n) ∙ sym (whole_part 6 r)

  pub outputs_2 : version_of r ≡ 2 → outputs_of r ≡ get_or (rest_of r) 0 0
  unfolding outputs_of
  outputs_2 e = rw (eq-eqb (version_of r) 2 e) (sym (get_or-drop 6 r 0 0) ∙ ap (λ (l : List ℕ). get_or l 0 0) (sym (whole_part 6 r)))

  pub part_2 : version_of r ≡ 2 → coefficients_of r ≡ take (length (rest_of r) - 1) (drop 1 (rest_of r))
  part_2 e =
      ap (λ (b : Bool). drop (cond b 7 6) r) (eq-eqb (version_of r) 2 e)
      ∙ sym (whole_part 1 (rest_of r) ∙ ap (drop 1) (whole_part 6 r) ∙ drop-drop 1 6 r)

  rest_length : length (rest_of r) ≡ length r - 6
  rest_length = ap length (whole_part 6 r) ∙ length-drop 6 r

-- past the tests of length, mark and width they go on by the version
module _ (r : List ℕ) (long : 6 ≤ length r) (right : marked r ≡ true) (known : Known (width_of r)) where
  parts : head (version_of r) ≤ length r → pair_tests (width_of r) (outputs_of r) (head (version_of r)) (coefficients_of r) ≡ read_outcome r
  unfolding read_outcome
  parts w =
      rw (le-leb 6 (length r) long, right, known, le-leb (head (version_of r)) (length r) w)
      (ap (λ (b : Bool). test (paired (width_of r) (outputs_of r)) 9 0 (test b 2 0 (test_below (layout_of r).inputs (head (version_of r)) (coefficients_of r)
      (done ((layout_of r).width ∷ [])))))
      (eqb_drop r (head (version_of r)) (layout_of r).coefficients w))

  pub tests_1 : (version_of r ≡ 2 → ⊥) → pair_tests (width_of r) (width_of r) 6 (rest_of r) ≡ read_outcome r
  tests_1 n =
      let h : head (version_of r) ≡ 6 = rw (ne_eqb (version_of r) 2 n) refl in
      ap₂ (λ (m h : ℕ). pair_tests (width_of r) m h (rest_of r)) (sym (outputs_1 r n)) (sym h)
      ∙ ap (pair_tests (width_of r) (outputs_of r) (head (version_of r))) (sym (part_1 r n))
      ∙ parts (omega (arith, h))

  pub tests_2 : version_of r ≡ 2 → 1 ≤ length (rest_of r)
      → pair_tests (width_of r) (get_or (rest_of r) 0 0) 7 (take (length (rest_of r) - 1) (drop 1 (rest_of r))) ≡ read_outcome r
  tests_2 e l =
      let h : head (version_of r) ≡ 7 = rw (eq-eqb (version_of r) 2 e) refl in
      ap₂ (λ (m h : ℕ). pair_tests (width_of r) m h (take (length (rest_of r) - 1) (drop 1 (rest_of r)))) (sym (outputs_2 r e)) (sym h)
      ∙ ap (pair_tests (width_of r) (outputs_of r) (head (version_of r))) (sym (part_2 r e))
      ∙ parts (omega (arith, h, l, rest_length r))

  pub short_2 : version_of r ≡ 2 → length (rest_of r) < 1 → refused 2 0 ≡ read_outcome r
  unfolding read_outcome
  short_2 e l =
      let h : head (version_of r) ≡ 7 = rw (eq-eqb (version_of r) 2 e) refl in
      rw (le-leb 6 (length r) long, right, known, lt-leb (head (version_of r)) (length r) (omega (arith, h, l, rest_length r))) refl

-- ---- what holds of an accepted record

-- it is of the width that it names, and this is what Read hands back
pub read_values : (r : List ℕ) {values : List ℕ} → read_outcome r ≡ done values → Accepted (width_of r) r × (width_of r ∷ [] ≡ values)
unfolding read_outcome
read_values r h =
    let n = width_of r in
    let m = outputs_of r in
    let v = version_of r in
    let L = layout n m in
    let cs = coefficients_of r in
    let a = passed (leb 6 (length r)) 2 0 _ h in
    let b = passed (marked r) 5 0 _ a.1 in
    let c = passed (known n) 1 0 _ b.1 in
    let d = passed (leb (head v) (length r)) 2 0 _ c.1 in
    let e = passed (paired n m) 9 0 _ d.1 in
    let f = passed (eqb (length r) (record_size v L)) 2 0 _ e.1 in
    let g = passed (leb (length cs) (first_large L.inputs cs)) 3 (head v + first_large L.inputs cs) _ f.1 in
    let i : L.inputs ≡ 2 ^ n = (sizes n m (record { width = c.0; outputs = e.0 })).inputs ∙ ap (λ (k : ℕ). 2 ^ k) (layout_width n m) in (
      record {
        mark = b.0;
        pair = record { width = c.0; outputs = e.0 };
        named = refl;
        whole = eqb-true (length r) (record_size v L) f.0;
        elements = λ k.
            rw (← i) (all_small L.inputs cs (omega (arith, i, pow_pos n)) (leb-true (length cs) (first_large L.inputs cs) g.0) k);
      },
      ap (λ (k : ℕ). k ∷ []) (sym (layout_width n m)) ∙ done_values g.1,
    )

pub read_accepted : (r : List ℕ) (n : ℕ) → read_outcome r ≡ done (n ∷ []) → Accepted n r
read_accepted r n h =
    let a = read_values r h in
    let e : width_of r ≡ n = cc a.1 in
    subst (λ (k : ℕ). Accepted k r) e a.0

-- the head of an accepted record lies within it
pub head_within : (r : List ℕ) (n : ℕ) → Accepted n r → (6 ≤ length r) × (head (version_of r) ≤ length r)
head_within r n a = let h = head_few (version_of r) in (omega (arith, a.whole, h), omega (arith, a.whole))

-- and Read accepts such a record
pub accepted_read : (r : List ℕ) (n : ℕ) → Accepted n r → read_outcome r ≡ done (n ∷ [])
unfolding read_outcome
accepted_read r n a =
    let m = outputs_of r in
    let v = version_of r in
    let L = layout n m in
    let cs = coefficients_of r in
    let w = head_within r n a in
    let i : 2 ^ n ≡ L.inputs = ap (λ (k : ℕ). 2 ^ k) (sym (layout_width n m)) ∙ sym (sizes n m a.pair).inputs in
    rw (
      le-leb 6 (length r) w.0,
      a.mark,
      a.named,
      a.pair.width,
      le-leb (head v) (length r) w.1,
      a.pair.outputs,
      eq-eqb (length r) (record_size v L) a.whole,
      le-leb (length cs) (first_large L.inputs cs) (none_large L.inputs cs (λ k. rw (← i) (a.elements k))),
      layout_width n m,
    ) refl

-- where Check's tests of the table are passed too, its form computes the table
pub accepted_computes : (n : ℕ) (r table : List ℕ) → Accepted n r → let L = layout n (outputs_of r) in check_at L r table ≡ done []
    → Computes L table (basis_of L (coefficients_of r)) (solution_of L (coefficients_of r))
accepted_computes n r table x h =
    let m = outputs_of r in
    let L = layout n m in
    let cs = coefficients_of r in
    let z = sizes n m x.pair in
    let first = first_difference (record_output L r) table in
    let a = passed (eqb (length table) L.inputs) 2 0 _ h in
    let b = passed (leb (length table) (first_large L.entries table)) 3 (0 + first_large L.entries table) _ a.1 in
    let c = passed (leb (length table) first) 6 first _ b.1 in
    record {
      unknowns = length-drop L.basis cs ∙ omega (arith, length-drop (head (version_of r)) r, x.whole, z.coefficients);
      elements = λ k. rw (layout_width n m, get_or-drop L.basis cs k 0) (x.elements (L.basis + k));
      equal = λ y l. rw (← z.entries) (difference_none (record_output L r) table (leb-true (length table) first c.0) y
          (omega (arith, eqb-true (length table) L.inputs a.0, z.inputs)));
    }

-- its form is an element
pub accepted_small : (n : ℕ) (r : List ℕ) → Accepted n r → (x : ℕ) → x < 2 ^ n → record_form (layout n (outputs_of r)) r x < 2 ^ n
accepted_small n r a x h =
    let m = outputs_of r in
    let L = layout n m in
    let cs = coefficients_of r in
    let e = layout_width n m in
    subst (λ (k : ℕ). record_form L r x < 2 ^ k) e
    (form_small (sizes n m a.pair) (basis_of L cs) (λ k. rw e (small_take n L.basis cs a.elements k)) x (rw e h)
    (solution_of L cs) (λ k. rw e (small_drop n L.basis cs a.elements k)))
