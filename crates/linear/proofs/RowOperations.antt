-- The row operations of the elimination keep every combination of columns, so they keep the canonical solution.
use mathlib.Core.Path.{◌≡◌, refl, sym, ap, ap₂, ◌∙◌}
use Prim.Native.Nat.{ℕ, ◌<◌}
use native.Mathlib.Decide.{ℕ_discrete}
use native.Mathlib.Omega.{arith}
use Rattle.linear.specs.Row.{RowElements, Agree, dot, times, plus}
use Rattle.linear.specs.Scalars.{Scalars, ScalarLaws}
use Rattle.linear.specs.System.{Elements, Combination}
use Rattle.linear.proofs.Row.{agree_sym, agree_shorter, small_shorter, one_mul, times_small, twice, dot_agree, plus_dot, times_dot}

-- row s is row r with a multiple of row t added
pub record MultipleAdded (S : Scalars) (w : ℕ) (t r s : ℕ → ℕ) : Type 0 where
  pub factor : ℕ
  pub below : factor < S.size
  pub sum : Agree w s (plus S r (times S factor t))

-- each row but p has a multiple of row p added to it
pub record MultiplesAdded (S : Scalars) (m w p : ℕ) (M N : ℕ → ℕ → ℕ) : Type 0 where
  pub kept : Agree w (N p) (M p)
  pub others : (i : ℕ) → i < m → (i ≡ p → ⊥) → MultipleAdded S w (M p) (M i) (N i)

-- row p is multiplied by f, and the others are as they were
pub record Scaled (S : Scalars) (m w p f : ℕ) (M N : ℕ → ℕ → ℕ) : Type 0 where
  pub row : Agree w (N p) (times S f (M p))
  pub others : (i : ℕ) → i < m → (i ≡ p → ⊥) → Agree w (N i) (M i)

module _ {S : Scalars} (F : ScalarLaws S) where
  -- a sum of rows takes part in each combination in which the rows take part
  add_row : {k w : ℕ} {t r s d : ℕ → ℕ} → k < w → RowElements S w t → RowElements S w r → RowElements S k d → MultipleAdded S w t r s → dot S k t d ≡ t k
      → dot S k r d ≡ r k → dot S k s d ≡ s k
  add_row {k} {w} {t} {r} {s} {d} l st sr sd x ht hr =
      let st' : RowElements S k t = small_shorter (omega arith) st in
      let sr' : RowElements S k r = small_shorter (omega arith) sr in
      dot_agree S k (agree_shorter (omega arith) x.sum) (record { at = λ j g. refl })
      ∙ plus_dot F k sr' (times_small F x.below st') sd
      ∙ ap₂ S.add hr (times_dot F k x.below st' sd ∙ ap (S.mul x.factor) ht)
      ∙ sym (x.sum.at k l)

  scale_row : {k w f : ℕ} {r s d : ℕ → ℕ} → k < w → f < S.size → RowElements S w r → RowElements S k d → Agree w s (times S f r) → dot S k r d ≡ r k
      → dot S k s d ≡ s k
  scale_row {k} {w} {f} {r} {s} {d} l b sr sd x hr =
      dot_agree S k (agree_shorter (omega arith) x) (record { at = λ j g. refl })
      ∙ times_dot F k b (small_shorter (omega arith) sr) sd
      ∙ ap (S.mul f) hr
      ∙ sym (x.at k l)

  agree_row : {k w : ℕ} {r s : ℕ → ℕ} (d : ℕ → ℕ) → k < w → Agree w s r → dot S k r d ≡ r k → dot S k s d ≡ s k
  agree_row {k} {w} {r} {s} d l x hr = dot_agree S k (agree_shorter (omega arith) x) (record { at = λ j g. refl }) ∙ hr ∙ sym (x.at k l)

  module _ (m w p : ℕ) (M N : ℕ → ℕ → ℕ) (pm : p < m) (el : Elements S m w M) where
    pub added_keeps : MultiplesAdded S m w p M N → (k : ℕ) (d : ℕ → ℕ) → k < w → Combination S m M k d → Combination S m N k d
    added_keeps x k d l h = record { small = h.small; row = each }
      where
        each : (i : ℕ) → i < m → dot S k (N i) d ≡ N i k
        each i g = elim (ℕ_discrete i p) [
          | yes e ↦ rw e (agree_row d l x.kept (h.row p pm))
          | no n ↦ add_row l (el.at p pm) (el.at i g) h.small (x.others i g n) (h.row p pm) (h.row i g)
        ]

    -- what has been added once is added once more
    pub added_back : MultiplesAdded S m w p M N → MultiplesAdded S m w p N M
    added_back x = record {
      kept = agree_sym x.kept;
      others = λ i g n. let y = x.others i g n in record {
        factor = y.factor;
        below = y.below;
        sum = record {
          at = λ j l.
              sym (twice F (M i j) (S.mul y.factor (M p j)))
              ∙ ap₂ S.add (sym (y.sum.at j l)) (ap (S.mul y.factor) (sym (x.kept.at j l)));
        };
      };
    }

    pub added_elements : MultiplesAdded S m w p M N → Elements S m w N
    added_elements x = record { at = each }
      where
        each : (i : ℕ) → i < m → RowElements S w (N i)
        each i g = elim (ℕ_discrete i p) [
          | yes e ↦ record { at = λ j l. rw (e, x.kept.at j l) ((el.at p pm).at j l) }
          | no n ↦ let y =
              x.others i g n in record {
                at = λ j l. rw (y.sum.at j l)
                    (F.add_below ((el.at i g).at j l) (F.mul_below y.below ((el.at p pm).at j l)));
              }
        ]

    pub scaled_keeps : (f : ℕ) → f < S.size → Scaled S m w p f M N → (k : ℕ) (d : ℕ → ℕ) → k < w → Combination S m M k d → Combination S m N k d
    scaled_keeps f b x k d l h = record { small = h.small; row = each }
      where
        each : (i : ℕ) → i < m → dot S k (N i) d ≡ N i k
        each i g = elim (ℕ_discrete i p) [
          | yes e ↦ rw e (scale_row l b (el.at p pm) h.small x.row (h.row p pm))
          | no n ↦ agree_row d l (x.others i g n) (h.row i g)
        ]

    pub scaled_back : (f : ℕ) → f < S.size → (f ≡ 0 → ⊥) → Scaled S m w p f M N → Scaled S m w p (S.inv f) N M
    scaled_back f b nz x = record {
      row = record {
        at = λ j l.
            sym (ap (S.mul (S.inv f)) (x.row.at j l)
            ∙ sym (F.mul_assoc (F.inv_below b) b ((el.at p pm).at j l))
            ∙ ap (λ (y : ℕ). S.mul y (M p j)) (F.mul_comm (F.inv_below b) b ∙ F.mul_inv b nz)
            ∙ one_mul F ((el.at p pm).at j l));
      };
      others = λ i g n. agree_sym (x.others i g n);
    }

    pub scaled_elements : (f : ℕ) → f < S.size → Scaled S m w p f M N → Elements S m w N
    scaled_elements f b x = record { at = each }
      where
        each : (i : ℕ) → i < m → RowElements S w (N i)
        each i g = elim (ℕ_discrete i p) [
          | yes e ↦ record { at = λ j l. rw (e, x.row.at j l) (F.mul_below b ((el.at p pm).at j l)) }
          | no n ↦ record { at = λ j l. rw ((x.others i g n).at j l) ((el.at i g).at j l) }
        ]
