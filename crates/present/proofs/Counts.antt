-- How many steps, draws and masked products a masked block and a masked opening have, over those of the S-box, for every key length.
use mathlib.Core.Path.{◌≡◌, refl, ap, ap₂, ◌∙◌}
use mathlib.Core.List.{[], ◌∷◌}
use Prim.Native.Nat.{ℕ, ◌+◌, ◌-◌, ◌*◌}
use native.Mathlib.Nat.{sub-zero, mul-zero, mul-one, mul_comm, mul_assoc, add-mul}
use native.Mathlib.Omega.{arith}
use lib.ListN.{replicate}
use Rattle.steps.specs.Program.{one}
use Rattle.steps.specs.Shape.{step_of, Shape, touches_of, bits_of, steps_of, draws_of, products_of, Counting, Uniform}
use Rattle.steps.proofs.Shape.{counts_steps, counts_draws, counts_products, counts_for, uniform_append, uniform_for}
use Rattle.present.specs.Present.{Size, number_nibble}
use Rattle.present.specs.Masked.{nibbles_shape, shares_shape, update_shape, round_shape, block_shape}
use Rattle.present.specs.Opening.{undo_update_shape, undo_round_shape, opening_shape}

-- a count that is q for each step of one share
module _ {f : Shape → ℕ} (c : Counting f) (q : ℕ) (h : (i : ℕ) → f (step_of (one i) ∷ []) ≡ q) where
  counts_nibbles : (i k n : ℕ) → f (nibbles_shape i k n) ≡ (n - k) * q
  unfolding nibbles_shape
  counts_nibbles i k n = counts_for c q k n (λ j. step_of (one i) ∷ []) (λ j. h i)

  pub counts_shares : (n s : ℕ) → f (shares_shape n s) ≡ s * (n * q)
  unfolding shares_shape
  counts_shares n s = counts_for c (n * q) 0 s (λ i. nibbles_shape i 0 n) (λ i. counts_nibbles i 0 n ∙ rw sub-zero) ∙ rw sub-zero

  module _ (z : Size) (s : ℕ) (σ : Shape) where
    pub counts_update : f (update_shape z s σ) ≡ s * (z.nibbles * q) + (z.boxes * f σ + 2 * q)
    unfolding update_shape
    counts_update =
        let two : number_nibble z + 2 - number_nibble z ≡ 2 = omega arith in
        c.both _ _ ∙ ap₂ ◌+◌ (counts_shares z.nibbles s)
        (c.both _ _ ∙ ap₂ ◌+◌ (counts_for c (f σ) 0 z.boxes (λ j. σ) (λ j. refl) ∙ rw sub-zero)
        (counts_nibbles 0 (number_nibble z) (number_nibble z + 2) ∙ rw two))

    pub counts_round : f (round_shape z s σ) ≡ s * (16 * q) + (16 * f σ + (s * (16 * q) + (s * (z.nibbles * q) + (z.boxes * f σ + 2 * q))))
    unfolding round_shape
    counts_round =
        c.both _ _ ∙ ap₂ ◌+◌ (counts_shares 16 s)
        (c.both _ _ ∙ ap₂ ◌+◌ (counts_for c (f σ) 0 16 (λ k. σ) (λ k. refl)) (c.both _ _ ∙ ap₂ ◌+◌ (counts_shares 16 s) counts_update))

    pub counts_block : f (block_shape z s σ)
        ≡ 31 * (s * (16 * q) + (16 * f σ + (s * (16 * q) + (s * (z.nibbles * q) + (z.boxes * f σ + 2 * q))))) + s * (16 * q)
    unfolding block_shape
    counts_block = c.both _ _ ∙ ap₂ ◌+◌ (counts_for c _ 1 32 (λ r. round_shape z s σ) (λ r. counts_round)) (counts_shares 16 s)

    counts_undo_update : f (undo_update_shape z s σ) ≡ 2 * q + (z.boxes * f σ + s * (z.nibbles * q))
    unfolding undo_update_shape
    counts_undo_update =
        let two : number_nibble z + 2 - number_nibble z ≡ 2 = omega arith in
        c.both _ _ ∙ ap₂ ◌+◌ (counts_nibbles 0 (number_nibble z) (number_nibble z + 2) ∙ rw two)
        (c.both _ _ ∙ ap₂ ◌+◌ (counts_for c (f σ) 0 z.boxes (λ j. σ) (λ j. refl) ∙ rw sub-zero) (counts_shares z.nibbles s))

    counts_undo_round : f (undo_round_shape z s σ)
        ≡ s * (16 * q) + (16 * f σ + (2 * q + (z.boxes * f σ + s * (z.nibbles * q)) + s * (16 * q)))
    unfolding undo_round_shape
    counts_undo_round =
        c.both _ _ ∙ ap₂ ◌+◌ (counts_shares 16 s)
        (c.both _ _ ∙ ap₂ ◌+◌ (counts_for c (f σ) 0 16 (λ k. σ) (λ k. refl)) (c.both _ _ ∙ ap₂ ◌+◌ counts_undo_update (counts_shares 16 s)))

    counts_opening : f (opening_shape z s σ)
        ≡ 31 * (s * (z.nibbles * q) + (z.boxes * f σ + 2 * q))
        + (s * (16 * q) + 31 * (s * (16 * q) + (16 * f σ + (2 * q + (z.boxes * f σ + s * (z.nibbles * q)) + s * (16 * q)))))
    unfolding opening_shape
    counts_opening =
        c.both _ _ ∙ ap₂ ◌+◌ (counts_for c _ 1 32 (λ r. update_shape z s σ) (λ r. counts_update))
        (c.both _ _ ∙ ap₂ ◌+◌ (counts_shares 16 s) (counts_for c _ 1 32 (λ r. undo_round_shape z s σ) (λ r. counts_undo_round)))

-- ---- the block: 16 S-boxes and those of the key in a round

-- what is counted in the S-boxes alone
boxes_only : (n b s x : ℕ) → 31 * (s * (16 * 0) + (16 * x + (s * (16 * 0) + (s * (n * 0) + (b * x + 2 * 0))))) + s * (16 * 0) ≡ 31 * ((16 + b) * x)
boxes_only n b s x = rw (mul-zero n, mul-zero s, add-mul 16 b x) (omega arith)

module _ (z : Size) (s : ℕ) (σ : Shape) where
  pub block_steps_lem : steps_of (block_shape z s σ) ≡ 31 * ((32 + z.nibbles) * s + (16 + z.boxes) * steps_of σ + 2) + 16 * s
  unfolding touches_of
  block_steps_lem = counts_block counts_steps 1 (λ i. refl) z s σ ∙ sums z.nibbles z.boxes s (steps_of σ)
    where
      sums : (n b s x : ℕ) → 31 * (s * (16 * 1) + (16 * x + (s * (16 * 1) + (s * (n * 1) + (b * x + 2 * 1))))) + s * (16 * 1)
          ≡ 31 * ((32 + n) * s + (16 + b) * x + 2) + 16 * s
      sums n b s x = rw (mul-one n, add-mul 32 n s, add-mul 16 b x, mul_comm s n) (omega arith)

  pub block_draws_lem : draws_of (block_shape z s σ) ≡ 31 * ((16 + z.boxes) * draws_of σ)
  unfolding bits_of
  block_draws_lem = counts_block counts_draws 0 (λ i. refl) z s σ ∙ boxes_only z.nibbles z.boxes s (draws_of σ)

  pub block_products_lem : products_of (block_shape z s σ) ≡ 31 * ((16 + z.boxes) * products_of σ)
  unfolding products_of
  block_products_lem = counts_block counts_products 0 (λ i. refl) z s σ ∙ boxes_only z.nibbles z.boxes s (products_of σ)

-- ---- the opening: two times the S-boxes of the key

boxes_twice : (n b s x : ℕ)
    → 31 * (s * (n * 0) + (b * x + 2 * 0)) + (s * (16 * 0) + 31 * (s * (16 * 0) + (16 * x + (2 * 0 + (b * x + s * (n * 0)) + s * (16 * 0)))))
    ≡ 31 * ((16 + 2 * b) * x)
boxes_twice n b s x = rw (mul-zero n, mul-zero s, add-mul 16 (2 * b) x, mul_assoc 2 b x) (omega arith)

module _ (z : Size) (s : ℕ) (σ : Shape) where
  pub opening_steps : steps_of (opening_shape z s σ) ≡ 31 * ((32 + 2 * z.nibbles) * s + (16 + 2 * z.boxes) * steps_of σ + 4) + 16 * s
  unfolding touches_of
  opening_steps = counts_opening counts_steps 1 (λ i. refl) z s σ ∙ sums z.nibbles z.boxes s (steps_of σ)
    where
      sums : (n b s x : ℕ)
          → 31 * (s * (n * 1) + (b * x + 2 * 1))
          + (s * (16 * 1) + 31 * (s * (16 * 1) + (16 * x + (2 * 1 + (b * x + s * (n * 1)) + s * (16 * 1)))))
          ≡ 31 * ((32 + 2 * n) * s + (16 + 2 * b) * x + 4) + 16 * s
      sums n b s x = rw (mul-one n, add-mul 32 (2 * n) s, add-mul 16 (2 * b) x, mul_assoc 2 n s, mul_assoc 2 b x, mul_comm s n) (omega arith)

  pub opening_draws : draws_of (opening_shape z s σ) ≡ 31 * ((16 + 2 * z.boxes) * draws_of σ)
  unfolding bits_of
  opening_draws = counts_opening counts_draws 0 (λ i. refl) z s σ ∙ boxes_twice z.nibbles z.boxes s (draws_of σ)

  pub opening_products : products_of (opening_shape z s σ) ≡ 31 * ((16 + 2 * z.boxes) * products_of σ)
  unfolding products_of
  opening_products = counts_opening counts_products 0 (λ i. refl) z s σ ∙ boxes_twice z.nibbles z.boxes s (products_of σ)

-- ---- the draws are of 4 bits if those of the S-box are

module _ (n : ℕ) where
  uniform_nibbles : (i k m : ℕ) → Uniform n (nibbles_shape i k m)
  unfolding nibbles_shape bits_of
  uniform_nibbles i k m = uniform_for n k m (λ j. step_of (one i) ∷ []) (λ j. refl)

  uniform_shares : (m s : ℕ) → Uniform n (shares_shape m s)
  unfolding shares_shape
  uniform_shares m s = uniform_for n 0 s (λ i. nibbles_shape i 0 m) (λ i. uniform_nibbles i 0 m)

  pub uniform_block : (z : Size) (s : ℕ) (σ : Shape) → Uniform n σ → Uniform n (block_shape z s σ)
  unfolding block_shape round_shape update_shape
  uniform_block z s σ h =
      uniform_append n _ _
      (uniform_for n 1 32 (λ r. round_shape z s σ) (λ r.
      uniform_append n _ _ (uniform_shares 16 s)
      (uniform_append n _ _ (uniform_for n 0 16 (λ k. σ) (λ k. h))
      (uniform_append n _ _ (uniform_shares 16 s)
      (uniform_append n _ _ (uniform_shares z.nibbles s)
      (uniform_append n _ _ (uniform_for n 0 z.boxes (λ j. σ) (λ j. h)) (uniform_nibbles 0 (number_nibble z) (number_nibble z + 2))))))))
      (uniform_shares 16 s)

  pub uniform_opening : (z : Size) (s : ℕ) (σ : Shape) → Uniform n σ → Uniform n (opening_shape z s σ)
  unfolding opening_shape update_shape undo_round_shape undo_update_shape
  uniform_opening z s σ h =
      let boxes = uniform_for n 0 z.boxes (λ j. σ) (λ j. h) in
      let number = uniform_nibbles 0 (number_nibble z) (number_nibble z + 2) in
      uniform_append n _ _
      (uniform_for n 1 32 (λ r. update_shape z s σ) (λ r. uniform_append n _ _ (uniform_shares z.nibbles s) (uniform_append n _ _ boxes number)))
      (uniform_append n _ _ (uniform_shares 16 s)
      (uniform_for n 1 32 (λ r. undo_round_shape z s σ) (λ r.
      uniform_append n _ _ (uniform_shares 16 s)
      (uniform_append n _ _ (uniform_for n 0 16 (λ k. σ) (λ k. h))
      (uniform_append n _ _ (uniform_append n _ _ number (uniform_append n _ _ boxes (uniform_shares z.nibbles s))) (uniform_shares 16 s))))))

-- the random elements of a block and of an opening, in bits
pub block_bits : (z : Size) (s : ℕ) (σ : Shape) → Uniform 4 σ → bits_of (block_shape z s σ) ≡ replicate (31 * ((16 + z.boxes) * draws_of σ)) 4
block_bits z s σ h = uniform_block 4 z s σ h ∙ ap (λ (k : ℕ). replicate k 4) (block_draws_lem z s σ)

pub opening_bits : (z : Size) (s : ℕ) (σ : Shape) → Uniform 4 σ
    → bits_of (opening_shape z s σ) ≡ replicate (31 * ((16 + 2 * z.boxes) * draws_of σ)) 4
opening_bits z s σ h = uniform_opening 4 z s σ h ∙ ap (λ (k : ℕ). replicate k 4) (opening_draws z s σ)
