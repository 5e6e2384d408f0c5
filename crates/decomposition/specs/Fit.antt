-- The operations Fit and House fit.
use Rattle.std.specs.Prelude.{Bool, ◌&&◌, List, [], ◌∷◌, ◌≡◌, ℕ, Result, MatchResult, eqb, length, replicate}
use Rattle.xor.specs.Sum.{Small}
use Rattle.refusal.specs.Outcome.{Outcome, done, refused, test, and_then, written}
use Rattle.refusal.specs.Large.{test_below}
use Rattle.decomposition.specs.Form.{Decomposition, NoDecomposition}
use Rattle.decomposition.specs.Layout.{known, paired, layout, record_size}
use Rattle.decomposition.specs.Record.{record_of}
use Rattle.decomposition.specs.Solution.{solvable, solution}
use Rattle.decomposition.specs.declared.layouts.Layout.{Layout}

-- ---- a call and its end

-- what the slices of a call hold at entry, out being where the record goes
pub record FitCall : Type 0 where
  pub table : List ℕ
  pub basis : List ℕ
  pub work : List ℕ
  pub out : List ℕ

-- how it ends: the outcome, and what the slices lent for writing hold at exit
pub record FitEnd : Type 0 where
  pub outcome : Outcome
  pub work : List ℕ
  pub out : List ℕ

-- ---- the tests

-- the lengths of table, basis, work and out: each is that of the layout; the record is one of version 2
unfoldable pub fit_lengths : Layout → ℕ → ℕ → ℕ → ℕ → Bool
fit_lengths L table basis work out = eqb table L.inputs && (eqb basis L.basis && (eqb work L.work && eqb out (record_size 2 L)))

-- the lengths, work and out being those of the work and of the record, then the entries of table and basis, counted through both
abbrev pub fit_tests : Layout → List ℕ → List ℕ → ℕ → ℕ → Outcome
fit_tests L table basis work out =
    test (fit_lengths L (length table) (length basis) work out) 2 0
    (test_below L.entries 0 table
    (test_below L.inputs (length table) basis
    (done [])))

-- the width, the output bits, and then these
abbrev pub all_tests : ℕ → ℕ → FitCall → Outcome
all_tests n m c = test (known n) 1 0 (test (paired n m) 9 0 (fit_tests (layout n m) c.table c.basis (length c.work) (length c.out)))

-- what holds where all are passed
pub record FitReady (L : Layout) (c : FitCall) : Type 0 where
  pub inputs : length c.table ≡ L.inputs
  pub whole : length c.basis ≡ L.basis
  pub room : length c.work ≡ L.work
  pub record_room : length c.out ≡ record_size 2 L
  pub entries : Small L.outputs c.table
  pub elements : Small L.width c.basis

-- ---- Fit (width, output bits, table, basis, work, record out)

-- the outcome: after the tests, 4 if no p meets the table
unfoldable pub fit_outcome : ℕ → ℕ → FitCall → Outcome
fit_outcome n m c = and_then (all_tests n m c) (test (solvable (layout n m) c.table c.basis) 4 0 (done []))

-- what the work holds in the end: where the tests are passed it is all zero
unfoldable pub fit_work : ℕ → ℕ → FitCall → List ℕ
fit_work n m c = written (all_tests n m c) (replicate (length c.work) 0) c.work

-- what out holds in the end: on success the record of the basis and of the p found
unfoldable pub fit_record : ℕ → ℕ → FitCall → List ℕ
fit_record n m c = written (fit_outcome n m c) (record_of (layout n m) c.basis (solution (layout n m) c.table c.basis)) c.out

-- the end of a call at width n with m output bits: the contract of Fit equates with it
abbrev pub fit_end : ℕ → ℕ → FitCall → FitEnd
fit_end n m c = record { outcome = fit_outcome n m c; work = fit_work n m c; out = fit_record n m c }

-- ---- House fit (table, work, record out): a fit of width 4 with 4 output bits over the house basis, which decomposes every table

-- the house basis: q1 = x + x² + x^12
unfoldable pub house_basis : List ℕ
house_basis = 0 ∷ 1 ∷ 1 ∷ 0 ∷ 0 ∷ 0 ∷ 0 ∷ 1 ∷ 0 ∷ []

-- the outcome: the lengths, then the entries of the table, and no more
unfoldable pub house_outcome : List ℕ → List ℕ → List ℕ → Outcome
house_outcome table work out =
    test (fit_lengths (layout 4 4) (length table) (length house_basis) (length work) (length out)) 2 0
    (test_below 16 0 table
    (done []))

-- the end: on success the work is all zero, and out holds the record of the house basis and of the p found
abbrev pub house_end : List ℕ → List ℕ → List ℕ → FitEnd
house_end table work out = record {
  outcome = house_outcome table work out;
  work = written (house_outcome table work out) (replicate (length work) 0) work;
  out = written (house_outcome table work out) (record_of (layout 4 4) house_basis (solution (layout 4 4) table house_basis)) out;
}

-- the same call, as a call of Fit: it ends so (proofs/Theorems.antt, `house_is_fit`)
abbrev pub house_call : List ℕ → List ℕ → List ℕ → FitCall
house_call table work out = record { table = table; basis = house_basis; work = work; out = out }

-- ---- what is asked of a fit, with no word on how p is found. proofs/Total.antt: the end defined above meets it, and no other end does

-- the record of THE decomposition is written
pub record Written (L : Layout) (c : FitCall) (out values : List ℕ) : Type 0 where
  pub p : List ℕ
  pub decomposition : Decomposition L c.table c.basis p
  pub whole : out ≡ record_of L c.basis p
  pub nothing_more : values ≡ []

-- a refusal by 4: no p meets the table, and nothing is written
pub record NoneFound (L : Layout) (c : FitCall) (out : List ℕ) (number place : ℕ) : Type 0 where
  pub number_is : number ≡ 4
  pub place_is : place ≡ 0
  pub none : NoDecomposition L c.table c.basis
  pub unchanged : out ≡ c.out

-- the outcome where all tests are passed: one or the other
abbrev pub Found : Layout → FitCall → List ℕ → Outcome → Type 0
Found L c out (done values) = Written L c out values
Found L c out (refused number place) = NoneFound L c out number place

-- the end e by what the tests come to: where one refuses, that is the outcome, and nothing is changed; else the work is all zero, and the decomposition
-- is found or there is none
abbrev pub AfterTests : Layout → FitCall → FitEnd → Outcome → Type 0
AfterTests L c e (refused number place) = (e.outcome ≡ refused number place) × (e.work ≡ c.work) × (e.out ≡ c.out)
AfterTests L c e (done values) = (e.work ≡ replicate (length c.work) 0) × Found L c e.out e.outcome

-- the call c at width n with m output bits may end so
abbrev pub IsFit : ℕ → ℕ → FitCall → FitEnd → Type 0
IsFit n m c e = AfterTests (layout n m) c e (all_tests n m c)

-- ---- inner contracts

-- what the solution of the equations comes to: p' is THE decomposition; or it is an error, no p meets the table, and nothing is written
abbrev pub Decomposed : {E : Type 0} → Layout → List ℕ → List ℕ → List ℕ → List ℕ → Result (Unit {0}) E → Type 0
Decomposed L table basis p p' answer = MatchResult answer (λ _. Decomposition L table basis p') (λ _. NoDecomposition L table basis × (p' ≡ p))
