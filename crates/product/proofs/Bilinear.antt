-- The product of two sums, pair by pair: what the masked product adds up, and that it is the product of the joined values.
use mathlib.Core.Path.{◌≡◌, sym, ap, ap₂, ◌∙◌}
use mathlib.Core.List.{List}
use Prim.Native.Nat.{ℕ, zero, suc, ◌+◌, ◌≤◌, ◌<◌}
use native.Mathlib.Omega.{arith}
use Rattle.xor.specs.Xor.{◌⊕◌}
use Rattle.xor.specs.Sum.{Small}
use Rattle.xor.proofs.Xor.{⊕-zero, ⊕-assoc, ⊕-exchange}
use Rattle.xor.proofs.Sum.{additive_below}
use Rattle.field.specs.Mul.{mul}
use Rattle.field.proofs.Bilinear.{mul_⊕, ⊕-mul, mul_zero}
use Rattle.steps.specs.Sharing.{share}
use Rattle.steps.proofs.Sharing.{for_sum, for_sum_turn, for_sum_end, for_sum_add, for_sum_map}

module _ (n : ℕ) (a b : List ℕ) where
  -- what the pair of shares i and j adds to the joined value, and all pairs of share i with the shares after it
  unfoldable pub pair_sum : ℕ → ℕ → ℕ
  pair_sum i j = mul n (share a i) (share b j) ⊕ mul n (share a j) (share b i)

  unfoldable pub row_sum : ℕ → ℕ → ℕ
  row_sum s i = for_sum (i + 1) s (pair_sum i)

  -- the sum of all a_i · b_j, in the order of the masked product
  unfoldable pub all_sum : ℕ → ℕ
  all_sum s = for_sum 0 s (λ i. mul n (share a i) (share b i)) ⊕ for_sum 0 s (row_sum s)

module _ (n : ℕ) (a b : List ℕ) (ha : Small n a) (hb : Small n b) where
  row_sum_lem : (s i : ℕ) → row_sum n a b s i ≡ mul n (share a i) (for_sum (i + 1) s (share b)) ⊕ mul n (for_sum (i + 1) s (share a)) (share b i)
  unfolding row_sum pair_sum
  row_sum_lem s i =
      for_sum_add (i + 1) s (λ j. mul n (share a i) (share b j)) (λ j. mul n (share a j) (share b i))
      ∙ ap₂ ◌⊕◌
      (for_sum_map n (λ y. mul n (share a i) y) (additive_below n (mul n (share a i)) (mul_⊕ n (share a i))) (i + 1) s (share b) hb)
      (for_sum_map n (λ x. mul n x (share b i)) (additive_below n (λ x. mul n x (share b i)) (λ x y. ⊕-mul n x y (share b i))) (i + 1) s (share a) ha)

  -- the products of the shares from i on with themselves and those of their pairs add up to the product of the sums
  triangle : (k i s : ℕ) → i + k ≡ s
      → for_sum i s (λ j. mul n (share a j) (share b j)) ⊕ for_sum i s (row_sum n a b s) ≡ mul n (for_sum i s (share a)) (for_sum i s (share b))
  triangle zero i s e =
      let l : s ≤ i = omega arith in
      rw (
        for_sum_end i s (λ j. mul n (share a j) (share b j)) l,
        for_sum_end i s (row_sum n a b s) l,
        for_sum_end i s (share a) l,
        for_sum_end i s (share b) l,
      )
      (⊕-zero 0 ∙ sym (mul_zero n 0))
  triangle (suc k) i s e =
      let l : i < s = omega arith in
      let A = for_sum (i + 1) s (share a) in
      let B = for_sum (i + 1) s (share b) in
      let x = share a i in
      let y = share b i in
      let D = for_sum (i + 1) s (λ j. mul n (share a j) (share b j)) in
      let rows = for_sum (i + 1) s (row_sum n a b s) in
      ap₂ ◌⊕◌ (for_sum_turn i s (λ j. mul n (share a j) (share b j)) l) (for_sum_turn i s (row_sum n a b s) l)
      ∙ ⊕-exchange (mul n x y) D (row_sum n a b s i) rows
      ∙ ap₂ (λ (v w : ℕ). mul n x y ⊕ v ⊕ w) (row_sum_lem s i) (triangle k (i + 1) s (omega arith))
      ∙ regroup (mul n x y) (mul n x B) (mul n A y) (mul n A B)
      ∙ sym (ap₂ (mul n) (for_sum_turn i s (share a) l) (for_sum_turn i s (share b) l)
      ∙ ⊕-mul n x A (y ⊕ B)
      ∙ ap₂ ◌⊕◌ (mul_⊕ n x y B) (mul_⊕ n A y B))
    where
      regroup : (p q r t : ℕ) → p ⊕ (q ⊕ r) ⊕ t ≡ p ⊕ q ⊕ (r ⊕ t)
      regroup p q r t = ap (λ (z : ℕ). z ⊕ t) (sym (⊕-assoc p q r)) ∙ ⊕-assoc (p ⊕ q) r t

  pub sum_is_product : (s : ℕ) → all_sum n a b s ≡ mul n (for_sum 0 s (share a)) (for_sum 0 s (share b))
  unfolding all_sum
  sum_is_product s = triangle s 0 s (omega arith)
