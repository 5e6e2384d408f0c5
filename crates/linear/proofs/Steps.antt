-- What the steps of the elimination do to a matrix, and how they make up one column.
use mathlib.Core.Path.{◌≡◌, refl, sym, ap, ap₂, ◌∙◌}
use Prim.Native.Nat.{ℕ, suc, ◌+◌, ◌≤◌, ◌<◌}
use native.Mathlib.Decide.{ℕ_discrete}
use native.Mathlib.Nat.{le_refl}
use native.Mathlib.Numerals.{add-one}
use native.Mathlib.Omega.{arith}
use Rattle.std.proofs.Common.{Option, None, Some, MatchOption}
use Rattle.linear.specs.Elimination.{Eliminated, Cleared, Pivot, RowAdded, ZerosFrom}
use Rattle.linear.specs.Scalars.{Scalars, ScalarLaws}
use Rattle.linear.specs.System.{Elements}
use Rattle.linear.proofs.Elimination.{eliminated_added, eliminated_scaled}
use Rattle.linear.proofs.Reduced.{equivalent_trans, equivalent_refl, reduced_start, reduced_skip, reduced_grow}
use Rattle.linear.proofs.Row.{zero_below, zero_mul, zero_add, one_mul}
use Rattle.linear.proofs.RowOperations.{MultiplesAdded, Scaled}

-- no row is cleared yet
pub cleared_none : (S : Scalars) (m w c r : ℕ) (M : ℕ → ℕ → ℕ) → Cleared S m w c r 0 M M
cleared_none S m w c r M =
    record { kept = record { at = λ j l. refl }; cleared = λ i l. absurd (omega arith); rest = λ i g l. record { at = λ j b. refl } }

-- nothing is done at the start
pub eliminated_start : {S : Scalars} {m w : ℕ} (M : ℕ → ℕ → ℕ) → Elements S m w M → Eliminated S m w M M 0 0
eliminated_start {S} {m} {w} M el = record { elements = el; equivalent = equivalent_refl S m w M; reduced = reduced_start m M }

-- a matrix that is reduced so far is on its own way
pub eliminated_self : {S : Scalars} {m w c r : ℕ} {M N : ℕ → ℕ → ℕ} → Eliminated S m w M N c r → Eliminated S m w N N c r
eliminated_self {S} {m} {w} {c} {r} {M} {N} h = record { elements = h.elements; equivalent = equivalent_refl S m w N; reduced = h.reduced }

pub eliminated_trans : {S : Scalars} {m w c r c' r' : ℕ} {M N O : ℕ → ℕ → ℕ} → Eliminated S m w M N c r → Eliminated S m w N O c' r'
    → Eliminated S m w M O c' r'
eliminated_trans h g = record { elements = g.elements; equivalent = equivalent_trans h.equivalent g.equivalent; reduced = g.reduced }

-- what a search down column c finds
pub pivot_found : (m c r : ℕ) (M : ℕ → ℕ → ℕ) (p : Option ℕ)
    → MatchOption p (ZerosFrom m c r M) (λ i. (r ≤ i) × (i < m) × (M i c ≡ 0 → ⊥) × ((k : ℕ) → r ≤ k → k < i → M k c ≡ 0))
    → MatchOption p (ZerosFrom m c r M) (λ i. Pivot m c r i M)
pivot_found m c r M None h = h
pivot_found m c r M (Some i) h = record { after = h.0; within = h.1; skipped = h.3; found = h.2 }

module _ {S : Scalars} (F : ScalarLaws S) where
  -- adding the pivot row adds a multiple of it to each other row: 1 or 0
  pivot_added_all : {m w r p : ℕ} {M N : ℕ → ℕ → ℕ} → Elements S m w M → p < m → (p ≡ r → ⊥) → RowAdded S m w 1 r p M N → MultiplesAdded S m w p M N
  pivot_added_all {m} {w} {r} {p} {M} {N} el pm n x = record {
    kept = x.others p pm n;
    others = λ i l ne. elim (ℕ_discrete i r) [
      | yes e ↦ record { factor = 1; below = F.one_below; sum = rw e (x.row n) }
      | no g ↦ record {
        factor = 0;
        below = zero_below F;
        sum = record {
          at = λ j b.
              (x.others i l g).at j b ∙ sym (ap (S.add (M i j)) (zero_mul F ((el.at p pm).at j b)) ∙ F.add_zero (M i j));
        };
      }
    ];
  }

  cleared_added : {m w c r : ℕ} {M N : ℕ → ℕ → ℕ} → Elements S m w M → c < w → Cleared S m w c r m M N → MultiplesAdded S m w r M N
  cleared_added {M = M} el cw x =
      record { kept = x.kept; others = λ i l n. record { factor = M i _; below = (el.at i l).at _ cw; sum = x.cleared i l n } }

  -- there is no pivot: the column is done
  pub step_none : {m w c r : ℕ} {M₀ M : ℕ → ℕ → ℕ} → Eliminated S m w M₀ M c r → ZerosFrom m c r M → Eliminated S m w M₀ M (suc c) r
  step_none h z = record { elements = h.elements; equivalent = h.equivalent; reduced = reduced_skip h.reduced z }

  module _ (m w c r p : ℕ) (M₀ M : ℕ → ℕ → ℕ) (cw : c < w) (h : Eliminated S m w M₀ M c r) (pv : Pivot m c r p M) where
    module _ (N : ℕ → ℕ → ℕ) (x : RowAdded S m w 1 r p M N) where
      rm : r < m
      rm = omega (arith, pv.after, pv.within)

      agree_all : p ≡ r → MultiplesAdded S m w r M N
      agree_all e = record {
        kept = x.itself e;
        others = λ i l n. record {
          factor = 0;
          below = zero_below F;
          sum = record {
            at = λ j b.
                (x.others i l n).at j b ∙ sym (ap (S.add (M i j)) (zero_mul F ((h.elements.at r rm).at j b)) ∙ F.add_zero (M i j));
          };
        };
      }

      -- row r is now the pivot row
      pub step_pivot_added : Eliminated S m w M₀ N c r × (N r c ≡ 0 → ⊥)
      step_pivot_added = elim (ℕ_discrete p r) [
        | yes e ↦ (
          eliminated_added F m w c r r M₀ M N (omega arith) (le_refl r) rm h (agree_all e),
          λ z. pv.found (rw e (sym ((x.itself e).at c cw) ∙ z)),
        )
        | no n ↦ (
          eliminated_added F m w c r p M₀ M N (omega arith) pv.after pv.within h (pivot_added_all h.elements pv.within n x),
          λ z. pv.found
              (sym ((x.row n).at c cw
              ∙ ap₂ S.add (pv.skipped r (le_refl r) (let a = pv.after in omega arith)) (one_mul F ((h.elements.at p pv.within).at c cw))
              ∙ zero_add F (M p c)) ∙ z),
        )
      ]

  -- the pivot row is scaled
  pub step_scaled : (m w c r f : ℕ) (M₀ M N : ℕ → ℕ → ℕ) → c < w → r < m → Eliminated S m w M₀ M c r → (M r c ≡ 0 → ⊥) → f ≡ S.inv (M r c)
      → Scaled S m w r f M N → Eliminated S m w M₀ N c r × (N r c ≡ 1)
  step_scaled m w c r f M₀ M N cw rm h nz e x = (
    eliminated_scaled F m w c r r M₀ M N (omega arith) (le_refl r) rm h f fb f_nz x,
    x.row.at c cw ∙ F.mul_comm fb b ∙ unit,
  )
    where
      b : M r c < S.size
      b = (h.elements.at r rm).at c cw

      fb : f < S.size
      fb = rw e (F.inv_below b)

      unit : S.mul (M r c) f ≡ 1
      unit = rw e (F.mul_inv b nz)

      f_nz : f ≡ 0 → ⊥
      f_nz z = let q : ◌≡◌ {A = ℕ} 1 0 = sym unit ∙ ap (S.mul (M r c)) z ∙ F.mul_zero b in omega arith

  -- the other rows are cleared
  pub step_cleared : (m w c r : ℕ) (M₀ M N : ℕ → ℕ → ℕ) → c < w → r < m → Eliminated S m w M₀ M c r → M r c ≡ 1
      → Cleared S m w c r m M N → Eliminated S m w M₀ N (suc c) (suc r)
  step_cleared m w c r M₀ M N cw rm h unit y =
      record { elements = last.elements; equivalent = last.equivalent; reduced = reduced_grow last.reduced rm (y.kept.at c cw ∙ unit) clear }
    where
      last : Eliminated S m w M₀ N c r
      last = eliminated_added F m w c r r M₀ M N (omega arith) (le_refl r) rm h (cleared_added h.elements cw y)

      clear : (i : ℕ) → i < m → (i ≡ r → ⊥) → N i c ≡ 0
      clear i l n = (y.cleared i l n).at c cw
          ∙ ap (S.add (M i c)) (ap (S.mul (M i c)) unit ∙ F.mul_one ((h.elements.at i l).at c cw))
          ∙ F.add_self (M i c)

  -- a column with a pivot, whose row is added to row r: N. That is scaled to O, and the other rows are cleared to P
  module _ {m w c r p : ℕ} {M N : ℕ → ℕ → ℕ} (cw : c < w) (h : Eliminated S m w M M c r) (pv : Pivot m c r p M) (x : RowAdded S m w 1 r p M N) where
    row_within : r < m
    row_within = omega (arith, pv.after, pv.within)

    pivot_added : Eliminated S m w M N c r × (N r c ≡ 0 → ⊥)
    pivot_added = step_pivot_added m w c r p M M cw h pv N x

    pub pivot_unit : (N r c < S.size) × (N r c ≡ 0 → ⊥)
    pivot_unit = ((pivot_added.0.elements.at r row_within).at c cw, pivot_added.1)

    module _ {O : ℕ → ℕ → ℕ} (y : Scaled S m w r (S.inv (N r c)) N O) where
      pub column_scaled : Eliminated S m w M O c r × (O r c ≡ 1)
      column_scaled = step_scaled m w c r (S.inv (N r c)) M N O cw row_within pivot_added.0 pivot_added.1 refl y

      pub column_cleared : {P : ℕ → ℕ → ℕ} → Cleared S m w c r m O P → Eliminated S m w M P (c + 1) (r + 1)
      column_cleared {P} z = rw (add-one, add-one) (step_cleared m w c r M O P cw row_within column_scaled.0 column_scaled.1 z)
