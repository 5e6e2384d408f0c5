-- The tests that the operations make, passed and failed.
use mathlib.Core.Bool.{Bool, true, false, cond, and-eq-true_iff}
use mathlib.Core.List.{List, []}
use mathlib.Core.Path.{◌≡◌, sym, ap, ◌∙◌}
use Prim.Native.Nat.{ℕ, ◌-◌, ◌≤◌}
use native.Mathlib.Omega.{arith}
use lib.ListN.{length, take, drop, length-drop}
use lib.Seq.{take-length}
use lib.Dec.{eqb}
use borrow.Author.Tests.{eqb-true}
use Rattle.refusal.specs.Outcome.{Outcome, done, refused, test}
use Rattle.refusal.proofs.Outcome.{passed}
use Rattle.decomposition.specs.Fit.{fit_lengths}
use Rattle.decomposition.specs.Layout.{Pair, head, known, paired, record_size}
use Rattle.decomposition.specs.declared.layouts.Layout.{Layout}

-- all from place k on
pub whole_part : (k : ℕ) (l : List ℕ) → take (length l - k) (drop k l) ≡ drop k l
whole_part k l = ap (λ (j : ℕ). take j (drop k l)) (sym (length-drop k l)) ∙ take-length (drop k l)

-- a head has six bytes or seven
pub head_few : (version : ℕ) → (6 ≤ head version) × (head version ≤ 7)
head_few version = go (eqb version 2)
  where
    go : (b : Bool) → (6 ≤ cond b 7 6) × (cond b 7 6 ≤ 7)
    go true = (omega arith, omega arith)
    go false = (omega arith, omega arith)

-- the lengths that Fit takes
pub fit_lengths_lem : (L : Layout) (table basis work out : ℕ) → fit_lengths L table basis work out ≡ true
    → (table ≡ L.inputs) × (basis ≡ L.basis) × (work ≡ L.work) × (out ≡ record_size 2 L)
unfolding fit_lengths
fit_lengths_lem L table basis work out e =
    let a = (and-eq-true_iff (eqb table L.inputs) _).0 e in
    let b = (and-eq-true_iff (eqb basis L.basis) _).0 a.1 in
    let c = (and-eq-true_iff (eqb work L.work) _).0 b.1 in
    (eqb-true _ _ a.0, eqb-true _ _ b.0, eqb-true _ _ c.0, eqb-true _ _ c.1)

-- the tests of width and output bits: where one refuses, that is the outcome, whatever would come next
pub pair_stops : (n m : ℕ) (next : Outcome) {number place : ℕ} → test (known n) 1 0 (test (paired n m) 9 0 (done [])) ≡ refused number place
    → test (known n) 1 0 (test (paired n m) 9 0 next) ≡ refused number place
pair_stops n m next {number} {place} = go (known n) (paired n m)
  where
    go : (b b' : Bool) → test b 1 0 (test b' 9 0 (done [])) ≡ refused number place → test b 1 0 (test b' 9 0 next) ≡ refused number place
    go true true h = let z : ◌≡◌ {A = ℕ} 0 1 = cc in absurd (omega arith)
    go true false h = h
    go false b' h = h

-- and where both are passed, the two are a pair
pub pair_passes : (n m : ℕ) {values : List ℕ} → test (known n) 1 0 (test (paired n m) 9 0 (done [])) ≡ done values → Pair n m
pair_passes n m h =
    let a = passed (known n) 1 0 _ h in
    record { width = a.0; outputs = (passed (paired n m) 9 0 _ a.1).0 }
