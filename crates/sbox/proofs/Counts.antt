-- How many steps, draws and masked products the masked S-box has.
use mathlib.Core.Path.{◌≡◌, refl, sym, ap, ap₂, ◌∙◌}
use mathlib.Core.List.{[], ◌∷◌, ◌++◌}
use Prim.Native.Nat.{ℕ, suc, ◌+◌, ◌-◌, ◌*◌, ◌/◌}
use native.Mathlib.Nat.{one-mul, mul-one, sub-zero, mul_assoc, mul_left_comm}
use native.Mathlib.Omega.{arith}
use lib.ListN.{length, replicate}
use Rattle.field.specs.Polynomial.{exponents}
use Rattle.field.proofs.Polynomial.{length_exponents_4, length_exponents_6}
use Rattle.steps.specs.Program.{one}
use Rattle.steps.specs.Tape.{bytes_for, Full}
use Rattle.steps.specs.Shape.{step_of, Shape, touches_of, bits_of, steps_of, draws_of, products_of, Counting, Uniform, for_shape}
use Rattle.steps.proofs.Shape.{counts_steps, counts_draws, counts_products, counts_for, uniform_append, uniform_for}
use Rattle.product.specs.Product.{product_shape}
use Rattle.product.proofs.Counts.{pairs_twice, product_steps, product_draws, product_products, uniform_product}
use Rattle.decomposition.specs.Layout.{terms_of, Pair}
use Rattle.decomposition.proofs.Sizes.{each_pair}
use Rattle.product.proofs.ByShare.{counts_times, uniform_times}
use Rattle.sbox.specs.Form.{basis_size}
use Rattle.sbox.specs.Shape.{class_shape, powers_shape, term_shape, polynomial_shape, total_shape, sbox_shape}
use Rattle.product.specs.ByShare.{times, square_shape}
use Rattle.sbox.specs.Sbox.{factors}
use Rattle.sbox.specs.Figures.{products_for, own_steps, draws_for, steps_for, sbox_products, sbox_draws, sbox_steps}

-- q for a step of one share and m for a masked product
module _ {f : Shape → ℕ} (c : Counting f) (n s q m : ℕ) (hq : (i : ℕ) → f (step_of (one i) ∷ []) ≡ q) (hm : f (product_shape n s) ≡ m) where
  -- k steps of each share
  counts_by_share : (k : ℕ) (σ : ℕ → Shape) → ((i : ℕ) → f (σ i) ≡ k * q) → f (for_shape 0 s σ) ≡ k * (s * q)
  counts_by_share k σ h = counts_for c (k * q) 0 s σ h ∙ ap (λ (x : ℕ). x * (k * q)) (sub-zero s) ∙ mul_left_comm s k q

  counts_square : f (square_shape s) ≡ s * q
  unfolding square_shape
  counts_square = counts_by_share 1 (λ i. step_of (one i) ∷ []) (λ i. hq i ∙ sym (one-mul q)) ∙ one-mul (s * q)

  counts_class : f (class_shape n s) ≡ m + (n - 1) * (s * q)
  unfolding class_shape
  counts_class = c.both (product_shape n s) (times (n - 1) (square_shape s)) ∙ ap₂ (λ (x y : ℕ). x + y) hm (counts_times c (n - 1) counts_square)

  counts_powers : f (powers_shape n s) ≡ (n - 1) * (s * q) + length (factors n) * (m + (n - 1) * (s * q))
  unfolding powers_shape
  counts_powers =
      c.both (times (n - 1) (square_shape s)) (times (length (factors n)) (class_shape n s))
      ∙ ap₂ (λ (x y : ℕ). x + y) (counts_times c (n - 1) counts_square) (counts_times c (length (factors n)) counts_class)

  counts_polynomial : f (polynomial_shape n s) ≡ (length (exponents n) - 1) * 2 * (s * q)
  unfolding polynomial_shape term_shape
  counts_polynomial =
      let e = length (exponents n) - 1 in
      counts_by_share (e * 2) (λ i. for_shape 0 e (λ r. term_shape i))
      (λ i. counts_for c (2 * q) 0 e (λ r. term_shape i)
      (λ r. c.both (step_of (one i) ∷ []) (step_of (one i) ∷ []) ∙ ap₂ (λ (x y : ℕ). x + y) (hq i) (hq i) ∙ omega arith)
      ∙ ap (λ (x : ℕ). x * (2 * q)) (sub-zero e) ∙ sym (mul_assoc e 2 q))

  counts_total : (k : ℕ) → f (total_shape s k) ≡ k * (s * q)
  unfolding total_shape
  counts_total k =
      counts_by_share k (λ i. for_shape 0 k (λ j. step_of (one i) ∷ []))
      (λ i. counts_for c q 0 k (λ j. step_of (one i) ∷ []) (λ j. hq i) ∙ ap (λ (x : ℕ). x * q) (sub-zero k))

  -- of e exponents after the first, with k polynomials in the basis
  counts_parts : (k e : ℕ) → length (exponents n) - 1 ≡ e
      → f (sbox_shape n s k) ≡ (n - 1) * (s * q) + length (factors n) * (m + (n - 1) * (s * q))
      + (k * (e * 2 * (s * q)) + (suc k * (e * 2 * (s * q)) + (k * m + k * (s * q))))
  unfolding sbox_shape
  counts_parts k e l =
      let polynomial = polynomial_shape n s in
      let count : f polynomial ≡ e * 2 * (s * q) = counts_polynomial ∙ ap (λ (x : ℕ). x * 2 * (s * q)) l in
      let last = times k (product_shape n s) ++ total_shape s k in
      c.both (powers_shape n s) (times k polynomial ++ (times (suc k) polynomial ++ last))
      ∙ ap₂ (λ (x y : ℕ). x + y) counts_powers
      (c.both (times k polynomial) (times (suc k) polynomial ++ last)
      ∙ ap₂ (λ (x y : ℕ). x + y) (counts_times c k count)
      (c.both (times (suc k) polynomial) last
      ∙ ap₂ (λ (x y : ℕ). x + y) (counts_times c (suc k) count)
      (c.both (times k (product_shape n s)) (total_shape s k) ∙ ap₂ (λ (x y : ℕ). x + y) (counts_times c k hm) (counts_total k))))

-- its count, by the steps outside the masked products and the masked products
counts_sbox : {f : Shape → ℕ} → Counting f → (n s h q m : ℕ) → ((i : ℕ) → f (step_of (one i) ∷ []) ≡ q) → f (product_shape n s) ≡ m
    → f (sbox_shape n s h) ≡ own_steps n h * (s * q) + products_for n h * m
unfolding own_steps products_for
counts_sbox c n s h q m hq hm =
    let e = length (exponents n) - 1 in
    let g = length (factors n) in
    let w = n - 1 in
    counts_parts c n s q m hq hm h e refl ∙ gathered w g e h (s * q) m
  where
    gathered : (w g e h p m : ℕ) → w * p + g * (m + w * p) + (h * (e * 2 * p) + (suc h * (e * 2 * p) + (h * m + h * p)))
        ≡ (w * (1 + g) + e * 2 * (h + (h + 1)) + h) * p + (g + h) * m
    gathered w g e h p m = omega arith

-- ---- the figures

pub sbox_steps_lem : (n m s : ℕ) → steps_of (sbox_shape n s (basis_size n m)) ≡ sbox_steps n m s
unfolding touches_of sbox_steps steps_for
sbox_steps_lem n m s =
    counts_sbox counts_steps n s (basis_size n m) 1 (s + 7 * (s * (s - 1) / 2)) (λ i. refl) (product_steps n s)
    ∙ ap (λ (k : ℕ). own_steps n (basis_size n m) * k + products_for n (basis_size n m) * (s + 7 * (s * (s - 1) / 2))) (mul-one s)

pub sbox_draws_lem : (n m s : ℕ) → draws_of (sbox_shape n s (basis_size n m)) ≡ sbox_draws n m s
unfolding bits_of sbox_draws draws_for
sbox_draws_lem n m s = counts_sbox counts_draws n s (basis_size n m) 0 (s * (s - 1) / 2) (λ i. refl) (product_draws n s) ∙ omega arith

pub sbox_products_lem : (n m s : ℕ) → products_of (sbox_shape n s (basis_size n m)) ≡ sbox_products n m
unfolding products_of sbox_products
sbox_products_lem n m s = counts_sbox counts_products n s (basis_size n m) 0 1 (λ i. refl) (product_products n s) ∙ omega arith

-- THE PAPERS' FIGURES at (4, 4),
pub figures_4_4 : (s : ℕ) → (sbox_products 4 4 ≡ 2) × (sbox_draws 4 4 s ≡ s * (s - 1)) × (sbox_steps 4 4 s ≡ 57 * s + 7 * (s * (s - 1)))
unfolding sbox_products sbox_draws sbox_steps products_for draws_for steps_for own_steps basis_size terms_of factors
figures_4_4 s = rw length_exponents_4 (refl, omega (arith, pairs_twice s), omega (arith, pairs_twice s))

-- at (6, 6),
pub figures_6_6 : (s : ℕ) → (sbox_products 6 6 ≡ 5) × (sbox_draws 6 6 s ≡ 5 * (s * (s - 1)) / 2) × (sbox_steps 6 6 s ≡ 275 * s + 35 * (s * (s - 1)) / 2)
unfolding sbox_products sbox_draws sbox_steps products_for draws_for steps_for own_steps basis_size terms_of factors
figures_6_6 s = rw length_exponents_6 (refl, omega (arith, pairs_twice s), omega (arith, pairs_twice s))

-- and at (6, 4).
pub figures_6_4 : (s : ℕ) → (sbox_products 6 4 ≡ 4) × (sbox_draws 6 4 s ≡ 2 * (s * (s - 1))) × (sbox_steps 6 4 s ≡ 201 * s + 14 * (s * (s - 1)))
unfolding sbox_products sbox_draws sbox_steps products_for draws_for steps_for own_steps basis_size terms_of factors
figures_6_4 s = rw length_exponents_6 (refl, omega (arith, pairs_twice s), omega (arith, pairs_twice s))

-- ---- all draws are of n bits

module _ (n s : ℕ) where
  uniform_squares : Uniform n (times (n - 1) (square_shape s))
  unfolding square_shape bits_of
  uniform_squares = uniform_times n (n - 1) (square_shape s) (uniform_for n 0 s (λ i. step_of (one i) ∷ []) (λ i. refl))

  uniform_class : Uniform n (class_shape n s)
  unfolding class_shape
  uniform_class = uniform_append n (product_shape n s) (times (n - 1) (square_shape s)) (uniform_product n s) uniform_squares

  uniform_polynomial : Uniform n (polynomial_shape n s)
  unfolding polynomial_shape term_shape bits_of
  uniform_polynomial =
      uniform_for n 0 s (λ i. for_shape 0 (length (exponents n) - 1) (λ r. term_shape i))
      (λ i. uniform_for n 0 (length (exponents n) - 1) (λ r. term_shape i) (λ r. refl))

  uniform_total : (k : ℕ) → Uniform n (total_shape s k)
  unfolding total_shape bits_of
  uniform_total k =
      uniform_for n 0 s (λ i. for_shape 0 k (λ j. step_of (one i) ∷ [])) (λ i. uniform_for n 0 k (λ j. step_of (one i) ∷ []) (λ j. refl))

  pub uniform_sbox : (k : ℕ) → Uniform n (sbox_shape n s k)
  unfolding sbox_shape powers_shape
  uniform_sbox k =
      let squares = times (n - 1) (square_shape s) in
      let polynomial = polynomial_shape n s in
      let last = times k (product_shape n s) ++ total_shape s k in
      uniform_append n (powers_shape n s) (times k polynomial ++ (times (suc k) polynomial ++ last))
      (uniform_append n squares (times (length (factors n)) (class_shape n s)) uniform_squares
      (uniform_times n (length (factors n)) (class_shape n s) uniform_class))
      (uniform_append n (times k polynomial) (times (suc k) polynomial ++ last) (uniform_times n k polynomial uniform_polynomial)
      (uniform_append n (times (suc k) polynomial) last (uniform_times n (suc k) polynomial uniform_polynomial)
      (uniform_append n (times k (product_shape n s)) (total_shape s k) (uniform_times n k (product_shape n s) (uniform_product n s)) (uniform_total k))))

pub sbox_bits : (n m s : ℕ) → bits_of (sbox_shape n s (basis_size n m)) ≡ replicate (sbox_draws n m s) n
sbox_bits n m s = uniform_sbox n s (basis_size n m) ∙ ap (λ (k : ℕ). replicate k n) (sbox_draws_lem n m s)

-- ---- in bytes

-- THE RANDOM BYTES of a call: at width 4 two elements fill each,
pub sbox_bytes_4 : (s : ℕ) → bytes_for 4 (sbox_draws 4 4 s) ≡ s * (s - 1) / 2
unfolding bytes_for
sbox_bytes_4 s = omega (arith, pairs_twice s, (figures_4_4 s).1)

-- at width 6 each holds one.
pub sbox_bytes_6 : (m s : ℕ) → bytes_for 6 (sbox_draws 6 m s) ≡ sbox_draws 6 m s
unfolding bytes_for
sbox_bytes_6 m s = refl

-- no byte has room for more
pub sbox_full : (n m s : ℕ) → Pair n m → Full n (sbox_draws n m s)
unfolding bytes_for
sbox_full n m s = each_pair (λ n m. Full n (sbox_draws n m s)) (omega (arith, pairs_twice s, (figures_4_4 s).1)) refl refl n m
