-- The tests of Fit: where one refuses, and what holds where all are passed.
use mathlib.Core.List.{List}
use mathlib.Core.Path.{◌≡◌, refl, sym, subst}
use Prim.Native.Nat.{ℕ, ◌+◌, ◌<◌}
use native.Mathlib.Omega.{arith}
use lib.Dec.{leb}
use lib.ListN.{length, replicate}
use lib.Pow.{pow_pos}
use borrow.Author.Tests.{leb-true}
use Rattle.xor.specs.Sum.{Small}
use Rattle.refusal.specs.Large.{first_large}
use Rattle.refusal.specs.Outcome.{Outcome, done, refused}
use Rattle.refusal.proofs.Large.{all_small}
use Rattle.refusal.proofs.Outcome.{passed}
use Rattle.decomposition.specs.Fit.{FitCall, FitEnd, fit_lengths, fit_tests, FitReady, AfterTests, Found, IsFit}
use Rattle.decomposition.specs.Layout.{Sizes, layout, Pair, record_size}
use Rattle.decomposition.proofs.Sizes.{some_entries}
use Rattle.decomposition.proofs.Tests.{fit_lengths_lem}
use Rattle.decomposition.specs.declared.layouts.Layout.{Layout}

-- where all are passed, lengths and entries are right; work and out are the lengths of the work and the record
pub record Tested (L : Layout) (table basis : List ℕ) (work out : ℕ) : Type 0 where
  pub inputs : length table ≡ L.inputs
  pub whole : length basis ≡ L.basis
  pub room : work ≡ L.work
  pub record_room : out ≡ record_size 2 L
  pub entries : Small L.outputs table
  pub elements : Small L.width basis

pub tested : {L : Layout} → Sizes L → (table basis : List ℕ) (work out : ℕ) {values : List ℕ} → fit_tests L table basis work out ≡ done values
    → Tested L table basis work out
tested {L} z table basis work out h =
    let a = passed (fit_lengths L (length table) (length basis) work out) 2 0 _ h in
    let e = fit_lengths_lem L (length table) (length basis) work out a.0 in
    let first = first_large L.entries table in
    let second = first_large L.inputs basis in
    let f = passed (leb (length table) first) 3 (0 + first) _ a.1 in
    let g = passed (leb (length basis) second) 3 (length table + second) _ f.1 in
    let p : 0 < L.inputs = omega (arith, z.inputs, pow_pos L.width) in
    record {
      inputs = e.0;
      whole = e.1;
      room = e.2;
      record_room = e.3;
      entries = λ k. rw (← z.entries) (all_small L.entries table (some_entries z) (leb-true (length table) first f.0) k);
      elements = λ k. rw (← z.inputs) (all_small L.inputs basis p (leb-true (length basis) second g.0) k);
    }

module _ (L : Layout) (c : FitCall) where
  -- what the tests refuse is refused, and nothing is changed
  pub refused_at : (number place : ℕ) {T : Outcome} → T ≡ refused number place
      → AfterTests L c (record { outcome = refused number place; work = c.work; out = c.out }) T
  refused_at number place h =
      subst (AfterTests L c (record { outcome = refused number place; work = c.work; out = c.out })) (sym h) (refl, refl, refl)

  pub passed_at : (e : FitEnd) {T : Outcome} {values : List ℕ} → T ≡ done values
      → (e.work ≡ replicate (length c.work) 0) × Found L c e.out e.outcome → AfterTests L c e T
  passed_at e h x = subst (AfterTests L c e) (sym h) x

  pub fit_ready : Sizes L → {values : List ℕ} → fit_tests L c.table c.basis (length c.work) (length c.out) ≡ done values → FitReady L c
  fit_ready z h =
      let t = tested z c.table c.basis (length c.work) (length c.out) h in
      record { inputs = t.inputs; whole = t.whole; room = t.room; record_room = t.record_room; entries = t.entries; elements = t.elements }

  -- a fit at the layout of a pair
  pub fit_at_pair : (n m : ℕ) → Pair n m → L ≡ layout n m → (e : FitEnd)
      → AfterTests L c e (fit_tests L c.table c.basis (length c.work) (length c.out)) → IsFit n m c e
  fit_at_pair n m w i e h =
      rw (w.width, w.outputs)
      (subst (λ (M : Layout). AfterTests M c e (fit_tests M c.table c.basis (length c.work) (length c.out))) i h)
