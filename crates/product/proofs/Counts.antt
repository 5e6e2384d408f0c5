-- How many steps, draws and products a masked product has.
use mathlib.Core.Path.{◌≡◌, refl, sym, ap, ap₂, ◌∙◌}
use mathlib.Core.List.{[], ◌∷◌}
use Prim.Native.Nat.{ℕ, zero, suc, ◌+◌, ◌-◌, ◌*◌, ◌/◌, ◌≤◌}
use native.Mathlib.Nat.{zero-mul, add-mul, suc-mul, mul-suc, mul-sub, mul-one, mul-div_cancel, zero-lt-suc, sub-zero, mul-le-mul}
use native.Mathlib.Omega.{arith}
use Rattle.steps.specs.Program.{one}
use Rattle.steps.specs.Shape.{step_of, marked, Shape, touches_of, bits_of, steps_of, draws_of, products_of, Counting, Uniform, for_shape}
use Rattle.steps.proofs.Shape.{counts_steps, counts_draws, counts_products, counts_for, for_shape_turn, for_shape_end, uniform_append, uniform_for}
use Rattle.product.specs.Counts.{pairs}
use Rattle.product.specs.Product.{pair_shape, row_shape, product_shape}

twice_pairs : (k : ℕ) → pairs k * 2 + k ≡ k * k
unfolding pairs
twice_pairs zero = refl
twice_pairs (suc k) =
    let h = twice_pairs k in
    let q : suc k * suc k ≡ k * k + k + suc k = suc-mul k (suc k) ∙ ap (λ (x : ℕ). x + suc k) (mul-suc k k) in
    omega arith

pairs_double : (s : ℕ) → s * (s - 1) ≡ pairs s * 2
pairs_double s = let h = twice_pairs s in mul-sub s s 1 ∙ ap (λ (x : ℕ). s * s - x) (mul-one s) ∙ omega arith

pub pairs_is : (s : ℕ) → pairs s ≡ s * (s - 1) / 2
pairs_is s = sym (ap (λ (x : ℕ). x / 2) (pairs_double s) ∙ mul-div_cancel (pairs s) (zero-lt-suc 1))

-- the half is exact
pub pairs_twice : (s : ℕ) → s * (s - 1) / 2 * 2 ≡ s * (s - 1)
pairs_twice s = ap (λ (x : ℕ). x * 2) (sym (pairs_is s)) ∙ sym (pairs_double s)

-- nine shares have few
pub few_pairs : {s : ℕ} → s ≤ 9 → s * (s - 1) ≤ 72
few_pairs {s} h = mul-le-mul {n₂ = 9} {m₂ = 8} h (omega arith)

module _ {f : Shape → ℕ} (c : Counting f) (n s : ℕ) where
  counts_rows : (q : ℕ) → ((i j : ℕ) → f (pair_shape n i j) ≡ q) → (k i : ℕ) → i + k ≡ s → f (for_shape i s (row_shape n s)) ≡ pairs k * q
  unfolding pairs row_shape
  counts_rows q h zero i e = ap f (for_shape_end i s (row_shape n s) (omega arith)) ∙ c.none ∙ sym (zero-mul q)
  counts_rows q h (suc k) i e =
      let l : s - (i + 1) ≡ k = omega arith in
      ap f (for_shape_turn i s (row_shape n s) (omega arith))
      ∙ c.both (row_shape n s i) (for_shape (i + 1) s (row_shape n s))
      ∙ ap₂ (λ (x y : ℕ). x + y) (counts_for c q (i + 1) s (pair_shape n i) (h i) ∙ ap (λ (x : ℕ). x * q) l) (counts_rows q h k (i + 1) (omega arith))
      ∙ sym (add-mul k (pairs k) q)

  -- m for the beginning, p for each share and q for each pair
  pub counts_product : (m p q : ℕ) → f (marked ∷ []) ≡ m → ((i : ℕ) → f (step_of (one i) ∷ []) ≡ p) → ((i j : ℕ) → f (pair_shape n i j) ≡ q)
      → f (product_shape n s) ≡ m + s * p + s * (s - 1) / 2 * q
  unfolding product_shape
  counts_product m p q hm hp hq =
      c.both (marked ∷ for_shape 0 s (λ i. step_of (one i) ∷ [])) (for_shape 0 s (row_shape n s))
      ∙ ap₂ (λ (x y : ℕ). x + y)
      (c.both (marked ∷ []) (for_shape 0 s (λ i. step_of (one i) ∷ []))
      ∙ ap₂ (λ (x y : ℕ). x + y) hm (counts_for c p 0 s (λ i. step_of (one i) ∷ []) hp ∙ rw sub-zero))
      (counts_rows q hq s 0 (omega arith) ∙ ap (λ (x : ℕ). x * q) (pairs_is s))

pub product_steps : (n s : ℕ) → steps_of (product_shape n s) ≡ s + 7 * (s * (s - 1) / 2)
unfolding touches_of pair_shape
product_steps n s = counts_product counts_steps n s 0 1 7 refl (λ i. refl) (λ i j. refl) ∙ omega arith

pub product_draws : (n s : ℕ) → draws_of (product_shape n s) ≡ s * (s - 1) / 2
unfolding bits_of pair_shape
product_draws n s = counts_product counts_draws n s 0 0 1 refl (λ i. refl) (λ i j. refl) ∙ omega arith

pub product_products : (n s : ℕ) → products_of (product_shape n s) ≡ 1
unfolding products_of pair_shape
product_products n s = counts_product counts_products n s 1 0 0 refl (λ i. refl) (λ i j. refl) ∙ omega arith

pub uniform_product : (n s : ℕ) → Uniform n (product_shape n s)
unfolding product_shape row_shape pair_shape bits_of
uniform_product n s =
    uniform_append n (marked ∷ for_shape 0 s (λ i. step_of (one i) ∷ [])) (for_shape 0 s (row_shape n s))
    (uniform_for n 0 s (λ i. step_of (one i) ∷ []) (λ i. refl))
    (uniform_for n 0 s (row_shape n s) (λ i. uniform_for n (i + 1) s (pair_shape n i) (λ j. refl)))
