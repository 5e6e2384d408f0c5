-- Masked products of factors that agree but for share u are coupled but for share u.
use mathlib.Core.Path.{◌≡◌, sym, ap₂}
use mathlib.Core.Logic.{◌≢◌}
use mathlib.Core.List.{List}
use Prim.Native.Nat.{ℕ, ◌+◌, ◌^◌, ◌<◌}
use native.Mathlib.Decide.{ℕ_discrete}
use native.Mathlib.Omega.{arith}
use lib.ListN.{replicate}
use lib.Pow.{pow_pos}
use Rattle.xor.specs.Xor.{◌⊕◌}
use Rattle.xor.proofs.Xor.{⊕-lt, ⊕-zero, xor}
use Rattle.field.specs.Mul.{mul, Ring}
use Rattle.field.proofs.Ring.{mul_small}
use Rattle.steps.specs.Program.{note, random, ◌>>=◌, ◌>>◌}
use Rattle.steps.specs.Coupling.{Coupled, coupled_return, coupled_step, coupled_draw, coupled_mark}
use Rattle.steps.specs.Sharing.{share, CloseAt, Close}
use Rattle.steps.proofs.Coupling.{coupled_bind, coupled_for, seen_one, seen_two}
use Rattle.steps.proofs.Sharing.{close_set, close_self, coupled_note, coupled_store, small_zeros}
use Rattle.product.specs.Product.{pair, row, start, product}

module _ {n : ℕ} (ring : Ring n) (u : ℕ) {a a' b b' : List ℕ} (ha : Close n u a a') (hb : Close n u b b') where
  low : (i j : ℕ) → mul n (share a i) (share b j) < 2 ^ n
  low i j = mul_small ring (share a i) (share b j) (ha.small i)

  low' : (i j : ℕ) → mul n (share a' i) (share b' j) < 2 ^ n
  low' i j = mul_small ring (share a' i) (share b' j) (ha.small' i)

  -- a product of two shares that are not u
  same : {i j : ℕ} → i ≢ u → j ≢ u → mul n (share a i) (share b j) ≡ mul n (share a' i) (share b' j)
  same {i} {j} f g = ap₂ (mul n) (ha.agree i f) (hb.agree j g)

  -- a pair's steps, where r is drawn on one side and r ⊕ δ on the other: r must stay unless i is u, and r' unless j is u
  coupled_shifted : (i j : ℕ) {c c' : List ℕ} → Close n u c c' → (δ : ℕ) → δ < 2 ^ n
      → ((r : ℕ) → i ≢ u → r ≡ r ⊕ δ)
      → ((r : ℕ) → j ≢ u → r ⊕ mul n (share a i) (share b j) ⊕ mul n (share a j) (share b i)
      ≡ r ⊕ δ ⊕ mul n (share a' i) (share b' j) ⊕ mul n (share a' j) (share b' i))
      → Coupled u (Close n u) (pair n a b i j c) (pair n a' b' i j c')
  unfolding pair note random ◌>>=◌ ◌>>◌
  coupled_shifted i j {c} {c'} hc δ d keep keep' =
      coupled_draw δ d λ r h.
      let cᵢ : CloseAt n u i (share c i ⊕ r) (share c' i ⊕ (r ⊕ δ)) =
      record {
        agree = λ f. ap₂ ◌⊕◌ (hc.agree i f) (keep r f);
        small = ⊕-lt n (hc.small i) h;
        small' = ⊕-lt n (hc.small' i) (⊕-lt n h d);
      } in
      let cⱼ : CloseAt n u j (share c j ⊕ (r ⊕ mul n (share a i) (share b j) ⊕ mul n (share a j) (share b i)))
      (share c' j ⊕ (r ⊕ δ ⊕ mul n (share a' i) (share b' j) ⊕ mul n (share a' j) (share b' i))) =
      record {
        agree = λ f. ap₂ ◌⊕◌ (hc.agree j f) (keep' r f);
        small = ⊕-lt n (hc.small j) (⊕-lt n (⊕-lt n h (low i j)) (low j i));
        small' = ⊕-lt n (hc.small' j) (⊕-lt n (⊕-lt n (⊕-lt n h d) (low' i j)) (low' j i));
      } in
      coupled_step (seen_two (λ f g. keep r f))
      (coupled_step (seen_two (λ f g. same f g))
      (coupled_step (seen_two (λ f g. ap₂ ◌⊕◌ (keep r f) (same f g)))
      (coupled_step (seen_two (λ f g. same g f))
      (coupled_step (seen_two (λ f g. keep' r g))
      (coupled_step (seen_one cᵢ.agree)
      (coupled_step (seen_one cⱼ.agree)
      (coupled_return (close_set (close_set hc i cᵢ) j cⱼ))))))))

  -- if the pair's first share is u the draw is shifted so that r' stays, otherwise it is not
  coupled_pair : (i j : ℕ) {c c' : List ℕ} → Close n u c c' → Coupled u (Close n u) (pair n a b i j c) (pair n a' b' i j c')
  coupled_pair i j {c} {c'} hc = go (ℕ_discrete i u)
    where
      go : Dec (i ≡ u) → Coupled u (Close n u) (pair n a b i j c) (pair n a' b' i j c')
      go (yes e) =
          coupled_shifted i j hc
          (mul n (share a i) (share b j) ⊕ mul n (share a j) (share b i) ⊕ (mul n (share a' i) (share b' j) ⊕ mul n (share a' j) (share b' i)))
          (⊕-lt n (⊕-lt n (low i j) (low j i)) (⊕-lt n (low' i j) (low' j i))) (λ r f. absurd (f e)) (λ r g. simp xor)
      go (no f) =
          coupled_shifted i j hc 0 (pow_pos n) (λ r f. sym (⊕-zero r)) (λ r g. ap₂ ◌⊕◌ (ap₂ ◌⊕◌ (sym (⊕-zero r)) (same f g)) (same g f))

  pub coupled_product : (s : ℕ) → Coupled u (Close n u) (product n s a b) (product n s a' b')
  unfolding product row start
  coupled_product s =
      coupled_mark
      (coupled_bind
      (coupled_for u (λ i. Close n u) 0 s (omega arith)
      (λ i c c' k l h. coupled_store i (coupled_note i (record { agree = λ f. same f f; small = low i i; small' = low' i i })) h)
      (replicate 9 0) (replicate 9 0) (close_self n u (replicate 9 0) (small_zeros n 9)))
      (λ c c' h. coupled_for u (λ i. Close n u) 0 s (omega arith)
      (λ i d d' k l h. coupled_for u (λ j. Close n u) (i + 1) s (omega arith) (λ j e e' k l h. coupled_pair i j h) d d' h) c c' h))
