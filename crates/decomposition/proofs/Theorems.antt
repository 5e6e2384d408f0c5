-- What is proved of decompositions, of Fit and House fit, and of the records that they write.
use mathlib.Core.List.{List, [], ◌∷◌}
use mathlib.Core.Logic.{◌⊎◌, ⊎_elim}
use mathlib.Core.Path.{◌≡◌, refl, sym, ap, ap₂, subst, ◌∙◌}
use Prim.Native.Nat.{ℕ, ◌%◌, ◌^◌, ◌<◌}
use native.Mathlib.Nat.{mod-eq_of_lt}
use native.Mathlib.Omega.{arith}
use lib.Dec.{leb, eqb}
use lib.ListN.{length, get_or, replicate}
use borrow.Author.Tests.{eq-eqb}
use Rattle.xor.specs.Sum.{Small}
use Rattle.refusal.specs.Large.{first_large, test_below}
use Rattle.refusal.specs.Outcome.{Outcome, done, refused, test, and_then, written}
use Rattle.refusal.proofs.Large.{below_passes, none_large}
use Rattle.refusal.proofs.Outcome.{then_passed}
use Rattle.field.proofs.Polynomial.{length_exponents_4, length_exponents_6}
use Rattle.decomposition.specs.Check.{check_outcome, check_at, first_difference, form_in, record_form}
use Rattle.decomposition.specs.Fit.{FitCall, FitEnd, fit_lengths, fit_tests, all_tests, FitReady, fit_outcome, fit_work, fit_record, fit_end, house_basis, house_call, house_end, house_outcome, Written, Found, AfterTests, IsFit}
use Rattle.decomposition.specs.Form.{Computes, Decomposition, ElementDecomposition, NoDecomposition, form, value_of}
use Rattle.decomposition.specs.Layout.{known, paired, layout, sized, terms_of, Known, Pair}
use Rattle.decomposition.specs.Reach.{des_table, sum_over, zero_sum_inputs}
use Rattle.decomposition.specs.Record.{Accepted, SameRecord, basis_of, coefficients_of, layout_of, old_record, outputs_of, read_outcome, record_of, solution_of, width_of}
use Rattle.decomposition.specs.Solution.{candidate, candidates, meets, solution, solution_number, solvable}
use Rattle.decomposition.specs.declared.layouts.Layout.{Layout}
use Rattle.decomposition.proofs.Accepted.{old_record_lem, written_check, written_read}
use Rattle.decomposition.proofs.Decomposition.{decomposition_exists, decomposition_unique, decomposition_elements, elements_are, zero_decomposition}
use Rattle.decomposition.proofs.House.{house_end_lem, house_number, house_reaches, house_small}
use Rattle.decomposition.proofs.Reach.{des_entries, des_length, des_sum, form_sum, table_sum}
use Rattle.decomposition.proofs.ReadOutcome.{read_values, accepted_computes, accepted_read, accepted_small}
use Rattle.decomposition.proofs.Settled.{Passed, fit_cases, fit_settled, tests_passed}
use Rattle.decomposition.proofs.Sizes.{each_pair, layout_outputs, layout_width, same_pair, sizes}
use Rattle.decomposition.proofs.Total.{fit_total}

-- ---- THE decomposition, for each pair of width n and m output bits

module _ (n m : ℕ) (table basis : List ℕ) (st : Small m table) (sb : Small n basis) where
  table_small : Small (layout n m).outputs table
  table_small = λ k. rw (layout_outputs n m) (st k)

  basis_small : Small (layout n m).width basis
  basis_small = λ k. rw (layout_width n m) (sb k)

  -- there is at most one
  pub at_most_one : Pair n m → (p q : List ℕ) → Decomposition (layout n m) table basis p → Decomposition (layout n m) table basis q → p ≡ q
  at_most_one w p q d e = decomposition_unique (sizes n m w) table basis basis_small table_small p q d e

  -- there is one whenever any p meets the table
  pub one_exists : Pair n m → (p : List ℕ) → Computes (layout n m) table basis p → (q : List ℕ) × Decomposition (layout n m) table basis q
  one_exists w p c = decomposition_exists (sizes n m w) table basis basis_small table_small p c

-- its low output bits are the table
pub meets_table : (n m : ℕ) (table basis p : List ℕ) → Decomposition (layout n m) table basis p
    → (x : ℕ) → x < 2 ^ n → form (layout n m) basis p x % 2 ^ m ≡ get_or table x 0
meets_table n m table basis p d x h =
    ap (λ (k : ℕ). form (layout n m) basis p x % 2 ^ k) (sym (layout_outputs n m)) ∙ d.computes.equal x (rw (layout_width n m) h)

-- where all bits count it is the decomposition over elements, and that one is it
pub equal_widths : (n : ℕ) → Known n → (table basis p : List ℕ) → Small n table → Small n basis
    → let L = layout n n in
    (Decomposition L table basis p → ElementDecomposition L table basis p) × (ElementDecomposition L table basis p → Decomposition L table basis p)
equal_widths n w table basis p st sb =
    let z = sizes n n (same_pair n w) in
    let same = layout_outputs n n ∙ sym (layout_width n n) in
    let b = basis_small n n table basis st sb in
    let t = table_small n n table basis st sb in
    (decomposition_elements z table basis b same t p, elements_are z table basis b same t p)

-- ---- Fit, and House fit, which is a fit at (4, 4)

-- every call has an end that meets what is asked: the one that the contracts equate with
pub one_end : (n m : ℕ) (c : FitCall) → IsFit n m c (fit_end n m c)
one_end = fit_total

-- and no other end does: the outcome is settled, and every byte lent for writing
pub one_outcome : (n m : ℕ) (c : FitCall) (e e' : FitEnd) → IsFit n m c e → IsFit n m c e' → e ≡ e'
one_outcome = fit_settled

-- it refuses by 4 only if no p meets the table
pub four_means_none : (n m : ℕ) (c : FitCall) (place : ℕ) → fit_outcome n m c ≡ refused 4 place
    → (p : List ℕ) → Computes (layout n m) c.table c.basis p → ⊥
four_means_none n m c place h p k =
    ⊎_elim (λ x. x.other (number_of (sym x.is ∙ h)))
    (λ x. (subst (Found (layout n m) c (fit_record n m c)) h x.found).none.never p k) (fit_cases n m c (fit_end n m c) (fit_total n m c))
  where
    number_of : {k p : ℕ} → refused k p ≡ refused 4 place → k ≡ 4
    number_of e = cc

-- it succeeds whenever no test refuses and any p meets the table
pub succeeds : (n m : ℕ) (c : FitCall) (p : List ℕ) → all_tests n m c ≡ done [] → Computes (layout n m) c.table c.basis p
    → fit_outcome n m c ≡ done []
succeeds n m c p t k = go (fit_outcome n m c) (subst (AfterTests (layout n m) c (fit_end n m c)) t (fit_total n m c)).1
  where
    go : (r : Outcome) → Found (layout n m) c (fit_record n m c) r → r ≡ done []
    go (done values) h = ap done h.nothing_more
    go (refused number place) h = absurd (h.none.never p k)

-- and refuses by 4 whenever no test refuses and no p does
pub none_means_four : (n m : ℕ) (c : FitCall) → all_tests n m c ≡ done [] → NoDecomposition (layout n m) c.table c.basis
    → fit_outcome n m c ≡ refused 4 0
none_means_four n m c t none = go (fit_outcome n m c) (subst (AfterTests (layout n m) c (fit_end n m c)) t (fit_total n m c)).1
  where
    go : (r : Outcome) → Found (layout n m) c (fit_record n m c) r → r ≡ refused 4 0
    go (done values) h = absurd (none.never h.p h.decomposition.computes)
    go (refused number place) h = ap₂ refused h.number_is h.place_is

-- ---- the record that a fit writes

module _ (n m : ℕ) (c : FitCall) {values : List ℕ} (f : fit_outcome n m c ≡ done values) where
  passed_all : Passed n m c (record { outcome = done values; work = fit_work n m c; out = fit_record n m c })
  passed_all = ⊎_elim (λ x. absurd (never x.is)) (λ x. x)
      (fit_cases n m c _ (subst (λ (o : Outcome). IsFit n m c (record { outcome = o; work = fit_work n m c; out = fit_record n m c })) f (fit_total n m c)))
    where
      never : {k p : ℕ} → done values ≡ refused k p → ⊥
      never e = let q : ◌≡◌ {A = ℕ} 0 1 = cc in omega arith

  -- Read accepts it
  pub fit_then_read : read_outcome (fit_record n m c) ≡ done (n ∷ [])
  fit_then_read =
      let x = passed_all in
      let d = x.found.decomposition.computes in
      ap read_outcome x.found.whole
      ∙ written_read n m x.pair c.basis x.found.p x.ready.whole d.unknowns x.ready.elements d.elements

  -- Check accepts it with the table
  pub fit_then_check : check_outcome (fit_record n m c) c.table ≡ done []
  fit_then_check =
      let x = passed_all in
      let d = x.found.decomposition.computes in
      ap (λ (r : List ℕ). check_outcome r c.table) x.found.whole
      ∙ written_check n m x.pair c.basis x.found.p x.ready.whole d.unknowns x.ready.elements d.elements c.table
      x.ready.inputs x.ready.entries d.equal

-- ---- House fit

-- every table of 16 entries below 16 has a decomposition over the house basis
pub house_decomposes : (table : List ℕ) → Small 4 table → (p : List ℕ) × Decomposition (layout 4 4) table house_basis p
house_decomposes table st = let x = house_reaches table st in one_exists 4 4 table house_basis st house_small (same_pair 4 refl) x.0 x.1

-- so a House fit ends as the fit over the house basis does,
pub house_is_fit : (table work out : List ℕ) → fit_end 4 4 (house_call table work out) ≡ house_end table work out
house_is_fit = house_end_lem

-- refuses by 2 or by 3 alone,
pub house_refusals : (table work out : List ℕ) {number place : ℕ} → house_outcome table work out ≡ refused number place → (number ≡ 2) ⊎ (number ≡ 3)
house_refusals = house_number

-- and past its tests writes the record of THE decomposition
pub house_succeeds : (table work out : List ℕ) {values : List ℕ} → house_outcome table work out ≡ done values
    → Written (layout 4 4) (house_call table work out) (house_end table work out).out values
house_succeeds table work out {values} h =
    let e = house_is_fit table work out in
    let c = house_call table work out in
    subst (λ (l : List ℕ). Written (layout 4 4) c l values) (ap (λ (x : FitEnd). x.out) e)
    (passed_all 4 4 c (ap (λ (x : FitEnd). x.outcome) e ∙ h)).found

-- Fit never answers 4 where the caller passes the house basis
pub house_never_four : (n m : ℕ) (c : FitCall) → c.basis ≡ house_basis → (place : ℕ) → fit_outcome n m c ≡ refused 4 place → ⊥
unfolding layout sized terms_of house_basis
house_never_four n m c b place h =
    ⊎_elim (λ x. x.other (number_of (sym x.is ∙ h)))
    (λ x. each_pair Never at_4 (λ y. absurd (other_length (rw length_exponents_6 at y.whole) (λ e. omega arith)))
    (λ y. absurd (other_length (rw length_exponents_6 at y.whole) (λ e. omega arith))) n m x.pair x.ready (four_means_none n m c place h))
    (fit_cases n m c (fit_end n m c) (fit_total n m c))
  where
    number_of : {k p : ℕ} → refused k p ≡ refused 4 place → k ≡ 4
    number_of e = cc

    Never : ℕ → ℕ → Type 0
    Never n m = FitReady (layout n m) c → ((p : List ℕ) → Computes (layout n m) c.table c.basis p → ⊥) → ⊥

    at_4 : Never 4 4
    at_4 y none =
        let x = house_reaches c.table y.entries in
        none x.0 (subst (λ (basis : List ℕ). Computes (layout 4 4) c.table basis x.0) (sym b) x.1)

    other_length : {k : ℕ} → length c.basis ≡ k → (k ≡ 9 → ⊥) → ⊥
    other_length e n = n (sym e ∙ ap length b)

-- ---- Check

-- the low output bits of the form of a record that Check accepts are the table
pub check_computes : (r table : List ℕ) → check_outcome r table ≡ done []
    → let L = layout_of r in Computes L table (basis_of L (coefficients_of r)) (solution_of L (coefficients_of r))
unfolding check_outcome
check_computes r table = go (read_outcome r) refl
  where
    go : (T : Outcome) → read_outcome r ≡ T → let L = layout_of r in
        and_then T (check_at L r table) ≡ done [] → Computes L table (basis_of L (coefficients_of r)) (solution_of L (coefficients_of r))
    go (refused number place) e h = absurd (let q : ◌≡◌ {A = ℕ} 0 1 = cc in omega arith)
    go (done values) e h = accepted_computes (width_of r) r table (read_values r e).0 h

pub check_output : (r table : List ℕ) → check_outcome r table ≡ done [] → (x : ℕ) → x < 2 ^ width_of r
    → record_form (layout_of r) r x % 2 ^ outputs_of r ≡ get_or table x 0
check_output r table e x h =
    ap (λ (m : ℕ). record_form (layout_of r) r x % 2 ^ m) (sym (layout_outputs (width_of r) (outputs_of r)))
    ∙ (check_computes r table e).equal x (rw (layout_width (width_of r) (outputs_of r)) h)

-- the form itself is the table where all its bits come out
pub check_whole : (r table : List ℕ) → check_outcome r table ≡ done [] → outputs_of r ≡ width_of r → (x : ℕ) → x < 2 ^ width_of r
    → record_form (layout_of r) r x ≡ get_or table x 0
unfolding check_outcome
check_whole r table e same x h = sym (mod-eq_of_lt small) ∙ check_output r table e x h
  where
    accepted : Accepted (width_of r) r
    accepted = (read_values r (then_passed (read_outcome r) _ e).1).0

    small : record_form (layout_of r) r x < 2 ^ outputs_of r
    small = subst (λ (m : ℕ). record_form (layout_of r) r x < 2 ^ m) (sym same) (accepted_small (width_of r) r accepted x h)

-- ---- versions

-- the record of version 1 with the coefficients of one of version 2 is the same record,
pub old_same : (n : ℕ) → Known n → (basis p : List ℕ) → length basis ≡ (layout n n).basis → length p ≡ (layout n n).unknowns → Small n basis → Small n p
    → SameRecord n (old_record n basis p) (record_of (layout n n) basis p)
old_same = old_record_lem

-- Read accepts both, with the same answer,
pub same_read : (n : ℕ) (r r' : List ℕ) → SameRecord n r r' → read_outcome r ≡ read_outcome r'
same_read n r r' e = accepted_read r n e.accepted ∙ sym (accepted_read r' n e.accepted')

-- and so does Check, with every table.
pub same_check : (n : ℕ) (r r' table : List ℕ) → SameRecord n r r' → check_outcome r table ≡ check_outcome r' table
unfolding check_outcome
same_check n r r' table e =
    ap (λ (o : Outcome). and_then o (check_at (layout_of r) r table)) (same_read n r r' e)
    ∙ ap₂ (λ (k m : ℕ). and_then (read_outcome r') (check_at (layout k m) r table)) (e.accepted.named ∙ sym e.accepted'.named) e.outputs
    ∙ ap (λ (cs : List ℕ). and_then (read_outcome r') (checked cs)) e.coefficients
  where
    -- the tests of the table by the coefficients
    checked : List ℕ → Outcome
    checked cs =
        let L = layout_of r' in
        let first = first_difference (λ x. form_in L cs x % L.entries) table in
        test (eqb (length table) L.inputs) 2 0 (test_below L.entries 0 table (test (leb (length table) first) 6 first (done [])))

-- ---- the work

-- How many bytes of work are asked for plays a part in the test of that length alone. So outcome and record are what they were when the work had room for
-- the powers of all inputs too, 448 bytes at (4, 4) and 6,144 at (6, 6): for every w, table and basis, a fit that asked for w bytes and was lent w
module _ (n m w : ℕ) (table basis work work' out : List ℕ) (before : length work ≡ w) (now_asked : length work' ≡ (layout n m).work) where
  -- the layout with a work of w bytes
  abbrev layout_before : Layout
  layout_before =
      let L = layout n m in
      record {
        width = L.width;
        outputs = L.outputs;
        inputs = L.inputs;
        entries = L.entries;
        exponents = L.exponents;
        terms = L.terms;
        unknowns = L.unknowns;
        basis = L.basis;
        coefficients = L.coefficients;
        stride = L.stride;
        work = w;
      }

  abbrev outcome_before : Outcome
  outcome_before =
      and_then (test (known n) 1 0 (test (paired n m) 9 0 (fit_tests layout_before table basis (length work) (length out))))
      (test (solvable layout_before table basis) 4 0 (done []))

  abbrev call_now : FitCall
  call_now = record { table = table; basis = basis; work = work'; out = out }

  -- came to the same outcome
  pub outcome_as_before : outcome_before ≡ fit_outcome n m call_now
  unfolding fit_outcome fit_lengths solvable solution_number candidates candidate meets form value_of
  outcome_as_before = rw (before, now_asked, eq-eqb w w refl, eq-eqb (layout n m).work (layout n m).work refl) refl

  -- and left the same record
  pub record_as_before : written outcome_before (record_of layout_before basis (solution layout_before table basis)) out ≡ fit_record n m call_now
  unfolding fit_record solution solution_number candidates candidate meets form value_of
  record_as_before = ap (λ (o : Outcome). written o (record_of (layout n m) basis (solution (layout n m) table basis)) out) outcome_as_before

-- ---- the zero table

-- the zero table is decomposed by zero, over any basis
pub zero_table_lem : (n m : ℕ) (c : FitCall) → c.table ≡ replicate (2 ^ n) 0 → all_tests n m c ≡ done []
    → (fit_outcome n m c ≡ done []) × (fit_record n m c ≡ record_of (layout n m) c.basis (replicate (layout n m).unknowns 0))
zero_table_lem n m c q t =
    let L = layout n m in
    let zeros : List ℕ = replicate L.unknowns 0 in
    let a = tests_passed n m c t in
    let z = sizes n m a.0 in
    let y = a.1 in
    let i : L.inputs ≡ 2 ^ n = z.inputs ∙ ap (λ (k : ℕ). 2 ^ k) (layout_width n m) in
    let d : Decomposition L c.table c.basis zeros =
    subst (λ (table : List ℕ). Decomposition L table c.basis zeros) (ap (λ (k : ℕ). replicate k 0) i ∙ sym q)
    (zero_decomposition z c.basis y.elements) in
    let e = succeeds n m c zeros t d.computes in
    let g = (passed_all n m c e).found in (
      e,
      g.whole
          ∙ ap (record_of L c.basis) (decomposition_unique z c.table c.basis y.elements y.entries g.p zeros g.decomposition d),
    )

-- paper check (k): with the house basis
pub zero_house : (work out : List ℕ) → length work ≡ 304 → length out ≡ 34
    → let e = house_end (replicate 16 0) work out in (e.outcome ≡ done []) × (e.out ≡ record_of (layout 4 4) house_basis (replicate 18 0))
unfolding layout sized terms_of house_basis first_large fit_lengths
zero_house work out lw lo =
    let a = rw length_exponents_4 at (zero_table_lem 4 4 (house_call (replicate 16 0) work out) refl (rw (lw, lo, length_exponents_4) refl)) in
    let h = sym (house_is_fit (replicate 16 0) work out) in
    (ap (λ (e : FitEnd). e.outcome) h ∙ a.0, ap (λ (e : FitEnd). e.out) h ∙ a.1)

-- ---- what cannot be decomposed

-- over three lists of inputs every form of width 6 sums to 0, whatever its basis
pub form_sums : (c : ℕ) → c < 3 → (m : ℕ) (basis p : List ℕ) → Small 6 p → sum_over (zero_sum_inputs c) (form (layout 6 m) basis p) ≡ 0
form_sums = form_sum

-- so a table with another sum has no decomposition, over any basis
pub other_sum_none : (c : ℕ) → c < 3 → (m : ℕ) (table basis : List ℕ) → 0 < sum_over (zero_sum_inputs c) (λ x. get_or table x 0)
    → NoDecomposition (layout 6 m) table basis
other_sum_none c h m table basis s = record { never = λ p d. let e = table_sum c h m table basis p d in omega arith }

-- the S-boxes of DES are such tables
pub des_none : (k : ℕ) → k < 8 → (basis : List ℕ) → NoDecomposition (layout 6 4) (des_table k) basis
des_none k h basis = other_sum_none 1 (omega arith) 4 (des_table k) basis (des_sum k h)

-- and Fit answers 4 for each of them, over every basis
pub des_refused : (k : ℕ) → k < 8 → (basis work out : List ℕ) → length basis ≡ 38 → Small 6 basis → length work ≡ 11008 → length out ≡ 102
    → fit_outcome 6 4 (record { table = des_table k; basis = basis; work = work; out = out }) ≡ refused 4 0
unfolding layout sized terms_of fit_lengths
des_refused k h basis work out lb sb lw lo =
    none_means_four 6 4 (record { table = des_table k; basis = basis; work = work; out = out })
    (rw (des_length k h, des_entries k h, lb, lw, lo, length_exponents_6) (rw lb at (below_passes 64 64 basis (done []) (none_large 64 basis sb))))
    (des_none k h basis)
