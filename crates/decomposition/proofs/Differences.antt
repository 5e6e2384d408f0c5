-- The first input at which a form differs from a table.
use mathlib.Core.List.{List, ◌∷◌, []}
use mathlib.Core.Path.{◌≡◌, refl, sym, ap, ◌∙◌}
use Prim.Native.Nat.{ℕ, suc, ◌<◌, ◌≤◌, zero}
use native.Mathlib.Decide.{ℕ_discrete}
use native.Mathlib.Omega.{arith}
use lib.Dec.{leb}
use lib.ListN.{get_or, length}
use borrow.Author.Tests.{ne_eqb, eq-eqb, le-leb, lt-leb}
use Rattle.std.specs.Prelude.{MatchOption, Option, Some, None}
use Rattle.refusal.specs.Large.{found}
use Rattle.refusal.proofs.Large.{found_one, found_none, found_some, found_nothing}
use Rattle.refusal.specs.Outcome.{Outcome, refused, test}
use Rattle.decomposition.specs.Check.{first_difference}

-- it is x, where f and the table agree before
pub difference_at : (f : ℕ → ℕ) (table : List ℕ) (x : ℕ) → x < length table → ((k : ℕ) → k < x → f k ≡ get_or table k 0)
    → (f x ≡ get_or table x 0 → ⊥) → first_difference f table ≡ x
unfolding first_difference
difference_at f [] x h before n = absurd (omega arith)
difference_at f (y ∷ l) zero h before n = rw (ne_eqb (f 0) y n) refl
difference_at f (y ∷ l) (suc x) h before n =
    rw (eq-eqb (f 0) y (before 0 (omega arith))) (ap suc (difference_at (λ k. f (suc k)) l x (omega arith) (λ k g. before (suc k) (omega arith)) n))

-- where the form computes the table there is none
pub no_difference : (f : ℕ → ℕ) (table : List ℕ) → ((x : ℕ) → x < length table → f x ≡ get_or table x 0) → first_difference f table ≡ length table
unfolding first_difference
no_difference f [] h = refl
no_difference f (y ∷ l) h = rw (eq-eqb (f 0) y (h 0 (omega arith))) (ap suc (no_difference (λ x. f (suc x)) l (λ x g. h (suc x) (omega arith))))

-- so a search of it answers
pub difference_found : (f : ℕ → ℕ) (table : List ℕ) {n : ℕ} (r : Option ℕ) → length table ≡ n
    → MatchOption r ((k : ℕ) → 0 ≤ k → k < n → f k ≡ get_or table k 0)
    (λ x. (0 ≤ x) × (x < n) × (f x ≡ get_or table x 0 → ⊥) × ((k : ℕ) → 0 ≤ k → k < x → f k ≡ get_or table k 0))
    → r ≡ found (first_difference f table) (length table)
difference_found f table None e h = sym (found_none (omega (arith, no_difference f table (λ k l. h k (omega arith) (omega arith)))))
difference_found f table (Some x) e h =
    let within : x < length table = omega (arith, h.1, e) in
    let at = difference_at f table x within (λ k l. h.3 k (omega arith) l) h.2 in
    ap Some (sym at) ∙ sym (found_one (rw at within))

pub difference_none : (f : ℕ → ℕ) (table : List ℕ) → length table ≤ first_difference f table → (x : ℕ) → x < length table → f x ≡ get_or table x 0
unfolding first_difference
difference_none f [] h x l = absurd (omega arith)
difference_none f (y ∷ l) h x g = elim (ℕ_discrete (f 0) y) [
  | yes e ↦
      let d : first_difference f (y ∷ l) ≡ suc (first_difference (λ k. f (suc k)) l) = rw (eq-eqb (f 0) y e) refl in
      at x g e (difference_none (λ k. f (suc k)) l (omega (arith, d)))
  | no n ↦ let d : first_difference f (y ∷ l) ≡ 0 = rw (ne_eqb (f 0) y n) refl in absurd (omega (arith, d))
]
  where
    at : (x : ℕ) → x < length (y ∷ l) → f 0 ≡ y → ((k : ℕ) → k < length l → f (suc k) ≡ get_or l k 0) → f x ≡ get_or (y ∷ l) x 0
    at zero g e h = e
    at (suc k) g e h = h k (omega arith)

-- ---- the test of it

module _ (f : ℕ → ℕ) (table : List ℕ) (next : Outcome) where
  pub differs : {at : ℕ} → found (first_difference f table) (length table) ≡ Some at
      → test (leb (length table) (first_difference f table)) 6 (first_difference f table) next ≡ refused 6 at
  differs h =
      let s = found_some h in
      rw (lt-leb (length table) (first_difference f table) s.0) (ap (refused 6) s.1)

  pub agrees : found (first_difference f table) (length table) ≡ None
      → test (leb (length table) (first_difference f table)) 6 (first_difference f table) next ≡ next
  agrees h = rw (le-leb (length table) (first_difference f table) (found_nothing h)) refl
