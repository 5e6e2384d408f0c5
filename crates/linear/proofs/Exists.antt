-- The elimination carried out on matrices as functions: linear equations have a canonical solution, or none at all.
use mathlib.Core.Bool.{cond}
use mathlib.Core.Logic.{◌⊎◌, inl, inr, ⊎_elim}
use mathlib.Core.Path.{◌≡◌, refl, ap}
use Prim.Native.Nat.{ℕ, zero, suc, ◌+◌, ◌≤◌, ◌<◌, ◌-◌}
use native.Mathlib.Decide.{ℕ_discrete}
use native.Mathlib.Nat.{le_refl}
use native.Mathlib.Omega.{arith}
use lib.Dec.{eqb}
use borrow.Author.Tests.{eq-eqb, ne_eqb}
use Rattle.linear.specs.Elimination.{Cleared, Eliminated, LeadingAt, Pivot, Reduced, RowAdded, ZerosFrom}
use Rattle.linear.specs.Row.{Agree, plus, times}
use Rattle.linear.specs.Scalars.{ScalarLaws, Scalars}
use Rattle.linear.specs.System.{Canonical, Elements, Inconsistent}
use Rattle.linear.proofs.ReadOff.{find_row, leading_apart, read_off_canonical, read_off_none}
use Rattle.linear.proofs.RowOperations.{Scaled}
use Rattle.linear.proofs.Steps.{eliminated_start, step_cleared, step_none, step_pivot_added, step_scaled}

-- the pivot of a column is found row by row, or there is none: the rows from r to t have zeros there, and k rows are left
find_pivot : (m c r : ℕ) (M : ℕ → ℕ → ℕ) (t k : ℕ) → r ≤ t → t + k ≡ m → ((i : ℕ) → r ≤ i → i < t → M i c ≡ 0)
    → ((p : ℕ) × Pivot m c r p M) ⊎ ZerosFrom m c r M
find_pivot m c r M t zero rt e z = inr (λ i a b. z i a (omega arith))
find_pivot m c r M t (suc k) rt e z = elim (ℕ_discrete (M t c) 0) [
  | yes q ↦
      find_pivot m c r M (suc t) k (omega arith) (omega arith)
      (λ i a b. elim (ℕ_discrete i t) [ yes w ↦ rw w q | no n ↦ z i a (omega arith) ])
  | no n ↦ inl (t, record { after = rt; within = omega arith; skipped = z; found = n })
]

pub pivot_or_none : (m c r : ℕ) (M : ℕ → ℕ → ℕ) → r ≤ m → ((p : ℕ) × Pivot m c r p M) ⊎ ZerosFrom m c r M
pivot_or_none m c r M h = find_pivot m c r M r (m - r) (le_refl r) (omega arith) (λ i a b. absurd (omega arith))

-- the matrix with another row in the place of row r
replaced : ℕ → (ℕ → ℕ) → (ℕ → ℕ → ℕ) → ℕ → ℕ → ℕ
replaced r row M i = cond (eqb i r) row (M i)

replaced_here : (r w : ℕ) (row : ℕ → ℕ) (M : ℕ → ℕ → ℕ) → Agree w (replaced r row M r) row
unfolding replaced
replaced_here r w row M = record { at = λ j l. rw (eq-eqb r r refl) refl }

replaced_other : (r w : ℕ) (row : ℕ → ℕ) (M : ℕ → ℕ → ℕ) (i : ℕ) → (i ≡ r → ⊥) → Agree w (replaced r row M i) (M i)
unfolding replaced
replaced_other r w row M i n = record { at = λ j l. rw (ne_eqb i r n) refl }

agree_refl : (w : ℕ) (r : ℕ → ℕ) → Agree w r r
agree_refl w r = record { at = λ j l. refl }

module _ {S : Scalars} (F : ScalarLaws S) (m w : ℕ) where
  pivot_added : (r p : ℕ) (M : ℕ → ℕ → ℕ) → (N : ℕ → ℕ → ℕ) × RowAdded S m w 1 r p M N
  pivot_added r p M = elim (ℕ_discrete p r) [
    | yes e ↦ (M, record { row = λ n. absurd (n e); itself = λ _. agree_refl w (M r); others = λ i l n. agree_refl w (M i) })
    | no ne ↦
        let row : ℕ → ℕ = plus S (M r) (times S 1 (M p)) in
        (replaced r row M, record { row = λ _. replaced_here r w row M; itself = λ e. absurd (ne e); others = λ i l n. replaced_other r w row M i n })
  ]

  scaled : (r f : ℕ) (M : ℕ → ℕ → ℕ) → (N : ℕ → ℕ → ℕ) × Scaled S m w r f M N
  scaled r f M =
      let row : ℕ → ℕ = times S f (M r) in
      (replaced r row M, record { row = replaced_here r w row M; others = λ i l n. replaced_other r w row M i n })

  cleared : (c r : ℕ) (M : ℕ → ℕ → ℕ) → (N : ℕ → ℕ → ℕ) × Cleared S m w c r m M N
  cleared c r M =
      let all : ℕ → ℕ → ℕ = λ i. plus S (M i) (times S (M i c) (M r)) in (
        replaced r (M r) all,
        record {
          kept = replaced_here r w (M r) all;
          cleared = λ i l n. replaced_other r w (M r) all i n;
          rest = λ i g l. absurd (omega arith);
        },
      )

  -- one column more
  column : (c r : ℕ) (M₀ M : ℕ → ℕ → ℕ) → c < w → Eliminated S m w M₀ M c r
      → (N : ℕ → ℕ → ℕ) × (s : ℕ) × Eliminated S m w M₀ N (suc c) s
  column c r M₀ M cw h = ⊎_elim
      (λ pv. let p = pv.0 in
      let rm : r < m = omega (arith, pv.1.after, pv.1.within) in
      let a = pivot_added r p M in
      let x = step_pivot_added F m w c r p M₀ M cw h pv.1 a.0 a.1 in
      let b = scaled r (S.inv (a.0 r c)) a.0 in
      let y = step_scaled F m w c r (S.inv (a.0 r c)) M₀ a.0 b.0 cw rm x.0 x.1 refl b.1 in
      let d = cleared c r b.0 in
      (d.0, suc r, step_cleared F m w c r M₀ b.0 d.0 cw rm y.0 y.1 d.1))
      (λ z. (M, r, step_none F h z))
      (pivot_or_none m c r M h.reduced.rank)

  -- every matrix is reduced by the elimination
  pub eliminated_exists : (M : ℕ → ℕ → ℕ) → Elements S m w M → (c : ℕ) → c ≤ w → (N : ℕ → ℕ → ℕ) × (r : ℕ) × Eliminated S m w M N c r
  eliminated_exists M el zero h = (M, 0, eliminated_start M el)
  eliminated_exists M el (suc c) h =
      let e = eliminated_exists M el c (omega arith) in
      column c e.1 M e.0 h e.2

-- what an unknown is that is read off the rows below r: its row's right side, and 0 where it leads none
Unknown : (ℕ → ℕ → ℕ) → ℕ → ℕ → ℕ → ℕ → Type 0
Unknown M u r k p = ((i : ℕ) → i < r → LeadingAt M i k → p ≡ M i u) × (((i : ℕ) → i < r → LeadingAt M i k → ⊥) → p ≡ 0)

module _ {m c r : ℕ} {M : ℕ → ℕ → ℕ} (h : Reduced m M c r) (u k : ℕ) where
  unknown_from : ((i : ℕ) × (i < r) × LeadingAt M i k) ⊎ ((i : ℕ) → i < r → LeadingAt M i k → ⊥) → (p : ℕ) × Unknown M u r k p
  unfolding Unknown
  unknown_from (inl x) = (M x.0 u, ((λ i l f. ap (λ (y : ℕ). M y u) (row i l f)), (λ n. absurd (n x.0 x.1 x.2))))
    where
      row : (i : ℕ) → i < r → LeadingAt M i k → x.0 ≡ i
      row i l f = elim (ℕ_discrete x.0 i) [ yes e ↦ e | no n ↦ absurd (leading_apart h i x.0 k l x.1 n f x.2) ]
  unknown_from (inr z) = (0, ((λ i l f. absurd (z i l f)), (λ _. refl)))

  unknown : (p : ℕ) × Unknown M u r k p
  unknown = unknown_from (find_row h k r (le_refl r))

-- linear equations have a canonical solution, or none at all
pub canonical_or_inconsistent : {S : Scalars} → ScalarLaws S → (m u : ℕ) (M : ℕ → ℕ → ℕ) → Elements S m (suc u) M
    → ((p : ℕ → ℕ) × Canonical S m M u p) ⊎ Inconsistent S m M u
unfolding Unknown
canonical_or_inconsistent {S} F m u M el =
    let e = eliminated_exists F m (suc u) M el u (omega arith) in
    let N = e.0 in
    let r = e.1 in
    let h = e.2 in
    ⊎_elim
    (λ v. inr (read_off_none F m u (suc u) r (le_refl (suc u)) M N h v.0 v.1.after v.1.within v.1.found))
    (λ z. inl (
      (λ k. (unknown h.reduced u k).0),
      read_off_canonical F m u (suc u) r (le_refl (suc u)) M N h z (λ k. (unknown h.reduced u k).0)
          (record {
            lead = λ i k l b f. (unknown h.reduced u k).1.0 i l f;
            none = λ k b z. (unknown h.reduced u k).1.1 z;
          }),
    ))
    (pivot_or_none m u r N h.reduced.rank)
