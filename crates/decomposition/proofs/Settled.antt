-- What a fit comes to, and that it is settled.
use mathlib.Core.Bool.{Bool, true, false}
use mathlib.Core.List.{List}
use mathlib.Core.Logic.{◌⊎◌, inl, inr}
use mathlib.Core.Path.{◌≡◌, refl, sym, ap, ◌∙◌, ap₂}
use Prim.Native.Nat.{ℕ, ◌+◌}
use native.Mathlib.Omega.{arith}
use lib.Dec.{leb}
use lib.ListN.{length}
use Rattle.refusal.specs.Large.{first_large}
use Rattle.refusal.specs.Outcome.{Outcome, done, refused, test}
use Rattle.refusal.proofs.Outcome.{passed}
use Rattle.decomposition.specs.Fit.{FitCall, FitEnd, fit_lengths, all_tests, FitReady, AfterTests, Found, IsFit}
use Rattle.decomposition.specs.Layout.{Sizes, known, paired, layout, Pair}
use Rattle.decomposition.specs.Record.{record_of}
use Rattle.decomposition.specs.declared.layouts.Layout.{Layout}
use Rattle.decomposition.proofs.Decomposition.{decomposition_unique}
use Rattle.decomposition.proofs.Ready.{fit_ready}
use Rattle.decomposition.proofs.Sizes.{sizes}

-- ---- what a fit comes to

other_number : (b : Bool) (number place : ℕ) (next : Outcome) {k p : ℕ} → (number ≡ 4 → ⊥) → (next ≡ refused k p → k ≡ 4 → ⊥)
    → test b number place next ≡ refused k p → k ≡ 4 → ⊥
other_number true number place next l f h q = f h q
other_number false number place next {k} l f h q = let e : number ≡ k = cc in l (e ∙ q)

-- no test refuses by 4
tests_number : (n m : ℕ) (c : FitCall) {k p : ℕ} → all_tests n m c ≡ refused k p → k ≡ 4 → ⊥
tests_number n m c =
    let L = layout n m in
    let table = c.table in
    let basis = c.basis in
    let first = first_large L.entries table in
    let second = first_large L.inputs basis in
    other_number (known n) 1 0 _ (λ q. omega arith)
    (other_number (paired n m) 9 0 _ (λ q. omega arith)
    (other_number (fit_lengths L (length table) (length basis) (length c.work) (length c.out)) 2 0 _ (λ q. omega arith)
    (other_number (leb (length table) first) 3 (0 + first) _ (λ q. omega arith)
    (other_number (leb (length basis) second) 3 (length table + second) _ (λ q. omega arith)
    (λ h. absurd (let q : ◌≡◌ {A = ℕ} 0 1 = cc in omega arith))))))

-- a test refuses the call, and not by 4
pub record Refusal (e : FitEnd) : Type 0 where
  pub number : ℕ
  pub place : ℕ
  pub other : number ≡ 4 → ⊥
  pub is : e.outcome ≡ refused number place

-- all tests are passed
pub record Passed (n m : ℕ) (c : FitCall) (e : FitEnd) : Type 0 where
  pub pair : Pair n m
  pub ready : FitReady (layout n m) c
  pub found : Found (layout n m) c e.out e.outcome

-- the pair is one, and lengths and entries are right
pub tests_passed : (n m : ℕ) (c : FitCall) {values : List ℕ} → all_tests n m c ≡ done values → Pair n m × FitReady (layout n m) c
tests_passed n m c q =
    let a = passed (known n) 1 0 _ q in
    let b = passed (paired n m) 9 0 _ a.1 in
    let k : Pair n m = record { width = a.0; outputs = b.0 } in
    (k, fit_ready (layout n m) c (sizes n m k) b.1)

pub fit_cases : (n m : ℕ) (c : FitCall) (e : FitEnd) → IsFit n m c e → Refusal e ⊎ Passed n m c e
fit_cases n m c e = go (all_tests n m c) refl
  where
    go : (T : Outcome) → all_tests n m c ≡ T → AfterTests (layout n m) c e T → Refusal e ⊎ Passed n m c e
    go (refused number place) q h = inl (record { number = number; place = place; other = tests_number n m c q; is = h.0 })
    go (done values) q h = let a = tests_passed n m c q in inr (record { pair = a.0; ready = a.1; found = h.1 })

-- ---- one outcome

-- where all tests are passed, the outcome and the record are settled
found_settled : {L : Layout} → Sizes L → (c : FitCall) → FitReady L c → (out out' : List ℕ) (r r' : Outcome)
    → Found L c out r → Found L c out' r' → (r ≡ r') × (out ≡ out')
found_settled {L} z c h out out' (done v) (done w) x y = (
  ap done (x.nothing_more ∙ sym y.nothing_more),
  x.whole
      ∙ ap (record_of L c.basis)
      (decomposition_unique z c.table c.basis h.elements h.entries x.p y.p x.decomposition y.decomposition)
      ∙ sym y.whole,
)
found_settled z c h out out' (done v) (refused k p) x y = absurd (y.none.never x.p x.decomposition.computes)
found_settled z c h out out' (refused k p) (done w) x y = absurd (x.none.never y.p y.decomposition.computes)
found_settled z c h out out' (refused k p) (refused k' p') x y = (
  ap₂ refused (x.number_is ∙ sym y.number_is) (x.place_is ∙ sym y.place_is),
  x.unchanged ∙ sym y.unchanged,
)

-- two ends with the same outcome, work and record are one
end_same : (e e' : FitEnd) → e.outcome ≡ e'.outcome → e.work ≡ e'.work → e.out ≡ e'.out → e ≡ e'
end_same e e' p q r =
    ap (λ (o : Outcome). record { outcome = o; work = e.work; out = e.out }) p
    ∙ ap₂ (λ (w l : List ℕ). record { outcome = e'.outcome; work = w; out = l }) q r

pub fit_settled : (n m : ℕ) (c : FitCall) (e e' : FitEnd) → IsFit n m c e → IsFit n m c e' → e ≡ e'
fit_settled n m c e e' = go (all_tests n m c) refl
  where
    go : (T : Outcome) → all_tests n m c ≡ T → AfterTests (layout n m) c e T → AfterTests (layout n m) c e' T → e ≡ e'
    go (refused number place) q h g = end_same e e' (h.0 ∙ sym g.0) (h.1 ∙ sym g.1) (h.2 ∙ sym g.2)
    go (done values) q h g =
        let a = tests_passed n m c q in
        let f = found_settled (sizes n m a.0) c a.1 e.out e'.out e.outcome e'.outcome h.1 g.1 in
        end_same e e' f.0 (h.0 ∙ sym g.0) f.1
