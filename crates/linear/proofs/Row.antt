-- The laws of the product of a row and a column, over any field.
use mathlib.Core.Path.{◌≡◌, refl, sym, ap, ap₂, ◌∙◌}
use Prim.Native.Nat.{ℕ, zero, suc, ◌≤◌, ◌<◌, ◌+◌}
use native.Mathlib.Decide.{ℕ_discrete}
use native.Mathlib.Nat.{le_refl, add-suc, add-zero}
use native.Mathlib.Omega.{arith}
use Rattle.linear.specs.Row.{Agree, RowElements, dot, plus, times}
use Rattle.linear.specs.Scalars.{Scalars, ScalarLaws}

pub agree_sym : {k : ℕ} {r s : ℕ → ℕ} → Agree k r s → Agree k s r
agree_sym h = record { at = λ j l. sym (h.at j l) }

agree_less : {k : ℕ} {r s : ℕ → ℕ} → Agree (suc k) r s → Agree k r s
agree_less h = record { at = λ j l. h.at j (omega arith) }

pub agree_shorter : {k w : ℕ} {r s : ℕ → ℕ} → k ≤ w → Agree w r s → Agree k r s
agree_shorter e h = record { at = λ j l. h.at j (omega arith) }

pub small_shorter : {S : Scalars} {k w : ℕ} {r : ℕ → ℕ} → k ≤ w → RowElements S w r → RowElements S k r
small_shorter e h = record { at = λ j l. h.at j (omega arith) }

-- the product looks only at the places below its length
pub dot_agree : (S : Scalars) (k : ℕ) {r s d e : ℕ → ℕ} → Agree k r s → Agree k d e → dot S k r d ≡ dot S k s e
unfolding dot
dot_agree S zero h g = refl
dot_agree S (suc k) h g =
    ap₂ S.add (dot_agree S k (agree_less h) (agree_less g)) (ap₂ S.mul (h.at k (le_refl (suc k))) (g.at k (le_refl (suc k))))

module _ {S : Scalars} (F : ScalarLaws S) where
  -- what the places below k + 1 have, those below k have
  small_less : {k : ℕ} {r : ℕ → ℕ} → RowElements S (suc k) r → RowElements S k r
  small_less h = record { at = λ j l. h.at j (omega arith) }

  small_last : {k : ℕ} {r : ℕ → ℕ} → RowElements S (suc k) r → r k < S.size
  small_last {k} h = h.at k (le_refl (suc k))

  pub zero_below : 0 < S.size
  zero_below = omega (arith, F.one_below)

  pub zero_add : (a : ℕ) → S.add 0 a ≡ a
  zero_add a = F.add_comm 0 a ∙ F.add_zero a

  pub zero_mul : {a : ℕ} → a < S.size → S.mul 0 a ≡ 0
  zero_mul h = F.mul_comm zero_below h ∙ F.mul_zero h

  pub one_mul : {a : ℕ} → a < S.size → S.mul 1 a ≡ a
  one_mul h = F.mul_comm F.one_below h ∙ F.mul_one h

  pub plus_small : {k : ℕ} {r s : ℕ → ℕ} → RowElements S k r → RowElements S k s → RowElements S k (plus S r s)
  plus_small h g = record { at = λ j l. F.add_below (h.at j l) (g.at j l) }

  pub times_small : {k f : ℕ} {r : ℕ → ℕ} → f < S.size → RowElements S k r → RowElements S k (times S f r)
  times_small b h = record { at = λ j l. F.mul_below b (h.at j l) }

  -- (a + b) + (c + d) = (a + c) + (b + d)
  pub exchange : (a b c d : ℕ) → S.add (S.add a b) (S.add c d) ≡ S.add (S.add a c) (S.add b d)
  exchange a b c d =
      F.add_assoc a b (S.add c d)
      ∙ ap (S.add a) (sym (F.add_assoc b c d) ∙ ap (λ (x : ℕ). S.add x d) (F.add_comm b c) ∙ F.add_assoc c b d)
      ∙ sym (F.add_assoc a c (S.add b d))

  -- adding twice is adding nothing
  pub twice : (a b : ℕ) → S.add (S.add a b) b ≡ a
  twice a b = F.add_assoc a b b ∙ ap (S.add a) (F.add_self b) ∙ F.add_zero a

  pub dot_below : (k : ℕ) {r d : ℕ → ℕ} → RowElements S k r → RowElements S k d → dot S k r d < S.size
  unfolding dot
  dot_below zero hr hd = zero_below
  dot_below (suc k) hr hd = F.add_below (dot_below k (small_less hr) (small_less hd)) (F.mul_below (small_last hr) (small_last hd))

  pub dot_comm : (k : ℕ) {r d : ℕ → ℕ} → RowElements S k r → RowElements S k d → dot S k r d ≡ dot S k d r
  unfolding dot
  dot_comm zero hr hd = refl
  dot_comm (suc k) hr hd = ap₂ S.add (dot_comm k (small_less hr) (small_less hd)) (F.mul_comm (small_last hr) (small_last hd))

  -- the product is additive in the column
  pub dot_plus : (k : ℕ) {r d e : ℕ → ℕ} → RowElements S k r → RowElements S k d → RowElements S k e → dot S k r (plus S d e) ≡ S.add (dot S k r d) (dot S k r e)
  unfolding dot
  dot_plus zero hr hd he = sym (F.add_zero 0)
  dot_plus (suc k) {r} {d} {e} hr hd he =
      ap₂ S.add (dot_plus k (small_less hr) (small_less hd) (small_less he)) (F.mul_add (small_last hr) (small_last hd) (small_last he))
      ∙ exchange (dot S k r d) (dot S k r e) (S.mul (r k) (d k)) (S.mul (r k) (e k))

  -- a·(f·b) = f·(a·b)
  pub mul_swap : {a b f : ℕ} → a < S.size → b < S.size → f < S.size → S.mul a (S.mul f b) ≡ S.mul f (S.mul a b)
  mul_swap {a} {b} {f} ha hb hf = sym (F.mul_assoc ha hf hb) ∙ ap (λ (x : ℕ). S.mul x b) (F.mul_comm ha hf) ∙ F.mul_assoc hf ha hb

  -- a factor of the column is a factor of the product
  pub dot_times : (k : ℕ) {f : ℕ} {r d : ℕ → ℕ} → f < S.size → RowElements S k r → RowElements S k d → dot S k r (times S f d) ≡ S.mul f (dot S k r d)
  unfolding dot
  dot_times zero hf hr hd = sym (F.mul_zero hf)
  dot_times (suc k) {f} {r} {d} hf hr hd =
      ap₂ S.add (dot_times k hf (small_less hr) (small_less hd)) (mul_swap (small_last hr) (small_last hd) hf)
      ∙ sym (F.mul_add hf (dot_below k (small_less hr) (small_less hd)) (F.mul_below (small_last hr) (small_last hd)))

  -- the same two laws in the row
  pub plus_dot : (k : ℕ) {r s d : ℕ → ℕ} → RowElements S k r → RowElements S k s → RowElements S k d → dot S k (plus S r s) d ≡ S.add (dot S k r d) (dot S k s d)
  plus_dot k hr hs hd =
      dot_comm k (plus_small hr hs) hd ∙ dot_plus k hd hr hs ∙ ap₂ S.add (dot_comm k hd hr) (dot_comm k hd hs)

  pub times_dot : (k : ℕ) {f : ℕ} {r d : ℕ → ℕ} → f < S.size → RowElements S k r → RowElements S k d → dot S k (times S f r) d ≡ S.mul f (dot S k r d)
  times_dot k {f} hf hr hd = dot_comm k (times_small hf hr) hd ∙ dot_times k hf hd hr ∙ ap (S.mul f) (dot_comm k hd hr)

  -- a product of zeros, from the place b on, adds nothing
  pub dot_end : (b k : ℕ) {r d : ℕ → ℕ} → b ≤ k → ((j : ℕ) → b ≤ j → j < k → S.mul (r j) (d j) ≡ 0) → dot S k r d ≡ dot S b r d
  unfolding dot
  dot_end b zero {r} {d} h z = let e : 0 ≡ b = omega arith in ap (λ (x : ℕ). dot S x r d) e
  dot_end b (suc k) {r} {d} h z = elim (ℕ_discrete b (suc k)) [
    | yes e ↦ ap (λ (x : ℕ). dot S x r d) (sym e)
    | no n ↦ ap (S.add (dot S k r d)) (z k (omega arith) (le_refl (suc k))) ∙ F.add_zero (dot S k r d)
        ∙ dot_end b k (omega arith) (λ j l g. z j l (omega arith))
  ]

  pub dot_none : (k : ℕ) {r d : ℕ → ℕ} → ((j : ℕ) → j < k → S.mul (r j) (d j) ≡ 0) → dot S k r d ≡ 0
  unfolding dot
  dot_none k z = dot_end 0 k (omega arith) (λ j l g. z j g)

  -- a product with one entry that is not zero
  pub dot_single : (k p : ℕ) {r d : ℕ → ℕ} → p < k → ((j : ℕ) → j < k → (j ≡ p → ⊥) → S.mul (r j) (d j) ≡ 0) → dot S k r d ≡ S.mul (r p) (d p)
  unfolding dot
  dot_single k p {r} {d} h z =
      dot_end (suc p) k h (λ j l g. z j g (λ e. omega arith))
      ∙ ap (λ (x : ℕ). S.add x (S.mul (r p) (d p))) (dot_none p (λ j l. z j (omega arith) (λ e. omega arith)))
      ∙ zero_add (S.mul (r p) (d p))

  -- a product whose first place is split off
  pub dot_cons : (k : ℕ) (r d : ℕ → ℕ) → dot S (suc k) r d ≡ S.add (S.mul (r 0) (d 0)) (dot S k (λ j. r (suc j)) (λ j. d (suc j)))
  unfolding dot
  dot_cons zero r d = F.add_comm 0 (S.mul (r 0) (d 0))
  dot_cons (suc k) r d =
      ap (λ (x : ℕ). S.add x (S.mul (r (suc k)) (d (suc k)))) (dot_cons k r d)
      ∙ F.add_assoc (S.mul (r 0) (d 0)) (dot S k (λ j. r (suc j)) (λ j. d (suc j))) (S.mul (r (suc k)) (d (suc k)))

  -- a product of two runs of places, one after the other
  pub dot_append : (a b : ℕ) (r d : ℕ → ℕ) → dot S (a + b) r d ≡ S.add (dot S a r d) (dot S b (λ j. r (a + j)) (λ j. d (a + j)))
  unfolding dot
  dot_append a zero r d = ap (λ (k : ℕ). dot S k r d) (add-zero a) ∙ sym (F.add_zero (dot S a r d))
  dot_append a (suc b) r d =
      ap (λ (k : ℕ). dot S k r d) (add-suc a b)
      ∙ ap (λ (x : ℕ). S.add x (S.mul (r (a + b)) (d (a + b)))) (dot_append a b r d)
      ∙ F.add_assoc (dot S a r d) (dot S b (λ j. r (a + j)) (λ j. d (a + j))) (S.mul (r (a + b)) (d (a + b)))
