-- A row operation with a row at or below the rank leaves the columns that are reduced as they are.
use mathlib.Core.Path.{◌≡◌, sym, ap, ◌∙◌}
use Prim.Native.Nat.{ℕ, ◌≤◌, ◌<◌}
use native.Mathlib.Decide.{ℕ_discrete}
use native.Mathlib.Omega.{arith}
use Rattle.linear.specs.Elimination.{Eliminated}
use Rattle.linear.specs.Row.{Agree}
use Rattle.linear.specs.Scalars.{Scalars, ScalarLaws}
use Rattle.linear.specs.System.{Elements}
use Rattle.linear.proofs.Reduced.{equivalent_trans, reduced_agree}
use Rattle.linear.proofs.RowOperations.{MultiplesAdded, Scaled, added_back, added_elements, added_keeps, scaled_back, scaled_elements, scaled_keeps}

module _ {S : Scalars} (F : ScalarLaws S) where
  module _ (m w c r p : ℕ) (M₀ M N : ℕ → ℕ → ℕ) (cw : c ≤ w) (rp : r ≤ p) (pm : p < m) (h : Eliminated S m w M₀ M c r) where
    el : Elements S m w M
    el = h.elements

    -- row p has zeros at the columns that are done, so a multiple of it changes nothing there
    added_agree : MultiplesAdded S m w p M N → (i : ℕ) → i < m → Agree c (N i) (M i)
    added_agree x i g = elim (ℕ_discrete i p) [
      | yes e ↦ record { at = λ j l. rw e (x.kept.at j (omega arith)) }
      | no n ↦ let y = x.others i g n in record {
        at = λ j l.
            y.sum.at j (omega arith)
            ∙ ap (S.add (M i j)) (ap (S.mul y.factor) (h.reduced.rest p j rp pm l) ∙ F.mul_zero y.below)
            ∙ F.add_zero (M i j);
      }
    ]

    scaled_agree : (f : ℕ) → f < S.size → Scaled S m w p f M N → (i : ℕ) → i < m → Agree c (N i) (M i)
    scaled_agree f b x i g = elim (ℕ_discrete i p) [
      | yes e ↦ record {
        at = λ j l.
            let z = h.reduced.rest p j rp pm l in
            rw e (x.row.at j (omega arith) ∙ ap (S.mul f) z ∙ F.mul_zero b ∙ sym z);
      }
      | no n ↦ record { at = λ j l. (x.others i g n).at j (omega arith) }
    ]

    pub eliminated_added : MultiplesAdded S m w p M N → Eliminated S m w M₀ N c r
    eliminated_added x = record {
      elements = added_elements F m w p M N pm el x;
      equivalent = equivalent_trans h.equivalent (record {
        to = added_keeps F m w p M N pm el x;
        from = added_keeps F m w p N M pm (added_elements F m w p M N pm el x) (added_back F m w p M N pm el x);
      });
      reduced = reduced_agree (added_agree x) h.reduced;
    }

    pub eliminated_scaled : (f : ℕ) → f < S.size → (f ≡ 0 → ⊥) → Scaled S m w p f M N → Eliminated S m w M₀ N c r
    eliminated_scaled f b nz x = record {
      elements = scaled_elements F m w p M N pm el f b x;
      equivalent = equivalent_trans h.equivalent (record {
        to = scaled_keeps F m w p M N pm el f b x;
        from =
            scaled_keeps F m w p N M pm (scaled_elements F m w p M N pm el f b x) (S.inv f) (F.inv_below b)
            (scaled_back F m w p M N pm el f b nz x);
      });
      reduced = reduced_agree (scaled_agree f b x) h.reduced;
    }
