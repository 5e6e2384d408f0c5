-- Masked S-boxes of sharings that agree but for share u are coupled but for share u.
use mathlib.Core.List.{List, [], ◌∷◌}
use Prim.Native.Nat.{ℕ, zero, suc, ◌+◌, ◌-◌}
use native.Mathlib.Omega.{arith}
use lib.ListN.{length, get_or}
use Rattle.xor.specs.Sum.{Small}
use Rattle.field.specs.Mul.{Ring}
use Rattle.field.specs.Polynomial.{exponents}
use Rattle.steps.specs.Coupling.{Coupled, coupled_return}
use Rattle.steps.specs.Sharing.{share, CloseAt, Close, CloseAll, close_nil, close_cons}
use Rattle.steps.proofs.Coupling.{coupled_bind, coupled_for}
use Rattle.steps.proofs.Sharing.{close_at, close_nth, close_append, coupled_note}
use Rattle.product.proofs.Coupling.{coupled_product}
use Rattle.product.proofs.ByShare.{close_same, close_add, close_mul, coupled_squares, coupled_by_share, constant_small}
use Rattle.sbox.specs.Sbox.{factors, classes_after, powers, term, polynomial, polynomials, form_products, total, sbox}
use Rattle.product.specs.ByShare.{nth, constant}
use Rattle.sbox.specs.Form.{SmallAll, Coefficients}

-- ---- the S-box

module _ {n : ℕ} (ring : Ring n) (s u : ℕ) where
  coupled_classes : (fs : List (ℕ × ℕ)) {ws ws' : List (List ℕ)} → CloseAll n u ws ws'
      → Coupled u (CloseAll n u) (classes_after n s fs ws) (classes_after n s fs ws')
  unfolding classes_after
  coupled_classes [] h = coupled_return h
  coupled_classes (f ∷ fs) h =
      coupled_bind (coupled_product ring u (close_nth h f.0) (close_nth h f.1) s) λ y y' hy.
      coupled_bind (coupled_squares ring s u (n - 1) hy) λ ys ys' hys.
      coupled_classes fs (close_append h hys)

  coupled_powers : {a a' : List ℕ} → Close n u a a' → Coupled u (CloseAll n u) (powers n s a) (powers n s a')
  unfolding powers
  coupled_powers h = coupled_bind (coupled_squares ring s u (n - 1) h) λ xs xs' hx. coupled_classes (factors n) hx

  coupled_polynomial : (cs : List ℕ) {ws ws' : List (List ℕ)} → Small n cs → CloseAll n u ws ws'
      → Coupled u (Close n u) (polynomial n s ws cs) (polynomial n s ws' cs)
  unfolding polynomial term
  coupled_polynomial cs hc hw =
      coupled_by_share s λ i.
      coupled_for u (λ r. CloseAt n u i) 0 (length (exponents n) - 1) (omega arith)
      (λ r v v' k l h. coupled_bind (coupled_note i (close_mul ring (close_same (hc (r + 1))) (close_at (close_nth hw r) i)))
      (λ t t' ht. coupled_note i (close_add h ht)))
      (constant i (get_or cs 0 0)) (constant i (get_or cs 0 0)) (close_same (constant_small n i (get_or cs 0 0) (hc 0)))

  coupled_polynomials : (css : List (List ℕ)) {ws ws' : List (List ℕ)} → SmallAll n css → CloseAll n u ws ws'
      → Coupled u (CloseAll n u) (polynomials n s ws css) (polynomials n s ws' css)
  unfolding polynomials
  coupled_polynomials [] hc hw = coupled_return close_nil
  coupled_polynomials (cs ∷ css) hc hw =
      coupled_bind (coupled_polynomial cs (hc 0) hw) λ a a' ha.
      coupled_bind (coupled_polynomials css (λ k. hc (suc k)) hw) λ l l' hl.
      coupled_return (close_cons ha hl)

  coupled_products : {ps ps' qs qs' : List (List ℕ)} → CloseAll n u ps ps' → CloseAll n u qs qs' → (j k : ℕ)
      → Coupled u (CloseAll n u) (form_products n s ps qs j k) (form_products n s ps' qs' j k)
  unfolding form_products
  coupled_products hp hq j zero = coupled_return close_nil
  coupled_products hp hq j (suc k) =
      coupled_bind (coupled_product ring u (close_nth hp j) (close_nth hq j) s) λ a a' ha.
      coupled_bind (coupled_products hp hq (suc j) k) λ l l' hl.
      coupled_return (close_cons ha hl)

  coupled_total : {ts ts' : List (List ℕ)} → CloseAll n u ts ts' → (k : ℕ) → Coupled u (Close n u) (total s ts k) (total s ts' k)
  unfolding total
  coupled_total {ts} {ts'} h k =
      coupled_by_share s λ i.
      coupled_for u (λ j. CloseAt n u i) 0 k (omega arith)
      (λ j v v' m l g. coupled_note i (close_add g (close_at (close_nth h (j + 1)) i)))
      (share (nth ts 0) i) (share (nth ts' 0) i) (close_at (close_nth h 0) i)

  pub coupled_sbox : {qs ps : List (List ℕ)} {a a' : List ℕ} → Coefficients n qs ps → Close n u a a'
      → Coupled u (Close n u) (sbox n s qs ps a) (sbox n s qs ps a')
  unfolding sbox
  coupled_sbox {qs} {ps} hc h =
      coupled_bind (coupled_powers h) λ ws ws' hw.
      coupled_bind (coupled_polynomials qs hc.small_basis hw) λ bs bs' hb.
      coupled_bind (coupled_polynomials ps hc.small hw) λ cs cs' hp.
      coupled_bind (coupled_products hp hb 0 (length qs)) λ ts ts' ht.
      coupled_total (close_append ht (close_cons (close_nth hp (length qs)) close_nil)) (length qs)
