-- The shape of the masked product, and what its result joins to.
use mathlib.Core.Path.{◌≡◌, refl, sym, ap, ap₂, ◌∙◌}
use mathlib.Core.List.{List, [], ◌∷◌}
use Prim.Native.Nat.{ℕ, ◌+◌, ◌^◌, ◌≤◌, ◌<◌}
use native.Mathlib.Omega.{arith}
use lib.ListN.{length, set, replicate, length-set}
use lib.Seq.{get_or-set_other}
use Rattle.xor.specs.Xor.{◌⊕◌}
use Rattle.xor.specs.Sum.{join, Small}
use Rattle.xor.proofs.Xor.{⊕-lt, ⊕-zero, zero_⊕, ⊕-assoc, xor}
use Rattle.xor.proofs.Sum.{join_add_two}
use Rattle.field.specs.Mul.{mul, Ring}
use Rattle.field.proofs.Ring.{mul_small}
use Rattle.steps.specs.Program.{one, ◌>>=◌, ◌>>◌, note, random, for, result}
use Rattle.steps.specs.Choices.{Fits}
use Rattle.steps.specs.Shape.{bits_of, step_of, for_shape, Shaped, shaped_return, shaped_step, shaped_draw, shaped_mark}
use Rattle.steps.specs.Sharing.{share, Sharing, Filled}
use Rattle.steps.proofs.Shape.{shaped_bind, shaped_for, shaped_weaken, shaped_note, shaped_result}
use Rattle.steps.proofs.Sharing.{for_sum, for_sum_turn, for_sum_end, join_for, set_small, filled_none, filled_sharing, shaped_store}
use Rattle.product.specs.Product.{pair, row, start, product, pair_shape, row_shape, product_shape}
use Rattle.product.proofs.Bilinear.{pair_sum, row_sum, all_sum, sum_is_product}

-- The result so far: a sharing in nine places that joins to `total` when `left` is added.
record SoFar (n s total left : ℕ) (c : List ℕ) : Type 0 where
  places : length c ≡ 9
  small : Small n c
  past : (i : ℕ) → s ≤ i → share c i ≡ 0
  joins : join c ⊕ left ≡ total

so_far : {n s total left left' : ℕ} {c : List ℕ} → left ≡ left' → SoFar n s total left c → SoFar n s total left' c
so_far e h = record { places = h.places; small = h.small; past = h.past; joins = rw e at h.joins }

module _ {n : ℕ} (ring : Ring n) (s total : ℕ) (a b : List ℕ) (nine : s ≤ 9) (ha : Small n a) (hb : Small n b) where
  shaped_pair : (i j left : ℕ) (c : List ℕ) → i < j → j < s → SoFar n s total (pair_sum n a b i j ⊕ left) c
      → Shaped (SoFar n s total left) (pair_shape n i j) (pair n a b i j c)
  unfolding pair pair_shape pair_sum note random ◌>>=◌ ◌>>◌
  shaped_pair i j left c k l h =
      shaped_draw λ r d.
      let x = mul n (share a i) (share b j) in
      let z = mul n (share a j) (share b i) in
      let hx : x < 2 ^ n = mul_small ring (share a i) (share b j) (ha i) in
      let hz : z < 2 ^ n = mul_small ring (share a j) (share b i) (ha j) in
      let r' = r ⊕ x ⊕ z in
      let first = set c i (share c i ⊕ r) in
      shaped_step (shaped_step (shaped_step (shaped_step (shaped_step (shaped_step (shaped_step (shaped_return (record {
        places = length-set first j (share c j ⊕ r') ∙ length-set c i (share c i ⊕ r) ∙ h.places;
        small =
            set_small n first j (share c j ⊕ r') (set_small n c i (share c i ⊕ r) h.small (⊕-lt n (h.small i) d))
            (⊕-lt n (h.small j) (⊕-lt n (⊕-lt n d hx) hz));
        past =
            λ m g. get_or-set_other first j m (share c j ⊕ r') 0 (λ e. omega arith)
            ∙ get_or-set_other c i m (share c i ⊕ r) 0 (λ e. omega arith) ∙ h.past m g;
        joins =
            ap (λ (v : ℕ). v ⊕ left) (join_add_two c i j r r' (omega (arith, h.places)) (omega (arith, h.places)) (λ e. omega arith))
            ∙ regroup (join c) r x z left ∙ h.joins;
      }))))))))
    where
      regroup : (c r x z left : ℕ) → c ⊕ (r ⊕ (r ⊕ x ⊕ z)) ⊕ left ≡ c ⊕ (x ⊕ z ⊕ left)
      regroup c r x z left = simp xor

  shaped_row : (i left : ℕ) (c : List ℕ) → i < s → SoFar n s total (row_sum n a b s i ⊕ left) c
      → Shaped (SoFar n s total left) (row_shape n s i) (row n s a b i c)
  unfolding row row_shape row_sum
  shaped_row i left c l h =
      shaped_weaken
      (shaped_for (λ j. SoFar n s total (for_sum j s (pair_sum n a b i) ⊕ left)) (pair_shape n i) (i + 1) s (omega arith)
      (λ j d k m g. shaped_pair i j (for_sum (j + 1) s (pair_sum n a b i) ⊕ left) d (omega arith) m
      (so_far (ap (λ (v : ℕ). v ⊕ left) (for_sum_turn j s (pair_sum n a b i) m)
      ∙ ⊕-assoc (pair_sum n a b i j) (for_sum (j + 1) s (pair_sum n a b i)) left) g))
      c h)
      (λ d g. so_far (ap (λ (v : ℕ). v ⊕ left) (for_sum_end s s (pair_sum n a b i) (omega arith)) ∙ zero_⊕ left) g)

  shaped_rows : (c : List ℕ) → SoFar n s total (for_sum 0 s (row_sum n a b s)) c
      → Shaped (SoFar n s total 0) (for_shape 0 s (row_shape n s)) (for 0 s (row n s a b) c)
  shaped_rows c h =
      shaped_weaken
      (shaped_for (λ i. SoFar n s total (for_sum i s (row_sum n a b s))) (row_shape n s) 0 s (omega arith)
      (λ i d k l g. shaped_row i (for_sum (i + 1) s (row_sum n a b s)) d l (so_far (for_sum_turn i s (row_sum n a b s) l) g)) c h)
      (λ d g. so_far (for_sum_end s s (row_sum n a b s) (omega arith)) g)

-- The result is a sharing of the sum of all a_i · b_j.
pub shaped_sum : {n : ℕ} → Ring n → (s : ℕ) (a b : List ℕ) → s ≤ 9 → Small n a → Small n b
    → Shaped (λ c. (length c ≡ 9) × Sharing n s (all_sum n a b s) c) (product_shape n s) (product n s a b)
unfolding product product_shape start all_sum
shaped_sum {n} ring s a b nine ha hb =
    shaped_mark
    (shaped_bind
    (shaped_for (Filled diagonal) (λ i. step_of (one i) ∷ []) 0 s (omega arith)
    (λ i c k l h. shaped_store (omega arith) (shaped_note (one i) (diagonal i) refl) h) (replicate 9 0) (filled_none diagonal))
    (λ c h. shaped_weaken (shaped_rows ring s (for_sum 0 s diagonal ⊕ rows) a b nine ha hb c (begin c h))
    (λ d g. (g.places, record { small = g.small; past = g.past; joins = sym (⊕-zero (join d)) ∙ g.joins }))))
  where
    diagonal : ℕ → ℕ
    diagonal i = mul n (share a i) (share b i)

    rows : ℕ
    rows = for_sum 0 s (row_sum n a b s)

    begin : (c : List ℕ) → Filled diagonal s c → SoFar n s (for_sum 0 s diagonal ⊕ rows) rows c
    begin c h =
        let f = filled_sharing n s diagonal c (λ j l. mul_small ring (share a j) (share b j) (ha j)) h in
        record { places = h.places; small = f.small; past = f.past; joins = ap (λ (v : ℕ). v ⊕ rows) f.joins }

-- The masked product of sharings of x and y is a sharing of their product, in nine places.
pub shaped_product : {n : ℕ} → Ring n → (s x y : ℕ) (a b : List ℕ) → s ≤ 9 → Sharing n s x a → Sharing n s y b
    → Shaped (λ c. (length c ≡ 9) × Sharing n s (mul n x y) c) (product_shape n s) (product n s a b)
shaped_product {n} ring s x y a b nine ha hb =
    let e : all_sum n a b s ≡ mul n x y =
    sum_is_product n a b ha.small hb.small s
    ∙ ap₂ (mul n) (sym (join_for s a ha.past) ∙ ha.joins) (sym (join_for s b hb.past) ∙ hb.joins) in
    rw e at (shaped_sum ring s a b nine ha.small hb.small)

-- so on every tape of elements of n bits the result joins to the product
pub product_joins : {n : ℕ} → Ring n → (s x y : ℕ) (a b : List ℕ) → s ≤ 9 → Sharing n s x a → Sharing n s y b
    → (tape : List ℕ) → Fits (bits_of (product_shape n s)) tape → join (result (product n s a b) tape) ≡ mul n x y
product_joins ring s x y a b nine ha hb tape f = (shaped_result (shaped_product ring s x y a b nine ha hb) tape f).1.joins
