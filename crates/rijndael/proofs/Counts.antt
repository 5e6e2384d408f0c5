-- How many steps, draws and masked products a masked block has, over those of the S-box.
use mathlib.Core.Path.{◌≡◌, refl, ap, ap₂, ◌∙◌}
use mathlib.Core.List.{[], ◌∷◌}
use Prim.Native.Nat.{ℕ, ◌+◌, ◌*◌}
use native.Mathlib.Omega.{arith}
use lib.ListN.{replicate}
use Rattle.steps.specs.Program.{Touch, one}
use Rattle.steps.specs.Shape.{step_of, Shape, touches_of, bits_of, steps_of, draws_of, products_of, Counting, Uniform}
use Rattle.steps.proofs.Shape.{counts_steps, counts_draws, counts_products, counts_for, uniform_append, uniform_for}
use Rattle.rijndael.specs.Strings.{bytes_shape}
use Rattle.rijndael.specs.Masked.{next_key_shape, round_shape, last_round_shape, cipher_shape, block_shape}
use Rattle.rijndael.proofs.Recording.{counts_bytes, uniform_bytes}

-- a count that is q for each step of one share
module _ {f : Shape → ℕ} (c : Counting f) (q : ℕ) (h : (i : ℕ) → f (step_of (one i) ∷ []) ≡ q) (s : ℕ) (σ : Shape) where
  pub counts_next_key : f (next_key_shape s σ) ≡ s * 4 * q + (4 * f σ + (q + 4 * (s * 4 * q)))
  unfolding next_key_shape
  counts_next_key =
      c.both _ _ ∙ ap₂ ◌+◌ (counts_bytes c q h 4 s)
      (c.both _ _ ∙ ap₂ ◌+◌ (counts_for c (f σ) 0 4 (λ j. σ) (λ j. refl))
      (c.both (step_of (one 0) ∷ []) _ ∙ ap₂ ◌+◌ (h 0) (counts_for c (s * 4 * q) 0 4 (λ t. bytes_shape 4 s) (λ t. counts_bytes c q h 4 s))))

  pub counts_round : f (round_shape s σ) ≡ 16 * f σ + (s * 16 * q + (s * 16 * q + s * 16 * q))
  unfolding round_shape
  counts_round =
      c.both _ _ ∙ ap₂ ◌+◌ (counts_for c (f σ) 0 16 (λ j. σ) (λ j. refl))
      (c.both _ _ ∙ ap₂ ◌+◌ (counts_bytes c q h 16 s) (c.both _ _ ∙ ap₂ ◌+◌ (counts_bytes c q h 16 s) (counts_bytes c q h 16 s)))

  pub counts_last_round : f (last_round_shape s σ) ≡ 16 * f σ + (s * 16 * q + s * 16 * q)
  unfolding last_round_shape
  counts_last_round =
      c.both _ _ ∙ ap₂ ◌+◌ (counts_for c (f σ) 0 16 (λ j. σ) (λ j. refl))
      (c.both _ _ ∙ ap₂ ◌+◌ (counts_bytes c q h 16 s) (counts_bytes c q h 16 s))

  pub counts_block : f (block_shape s σ)
      ≡ 10 * (s * 4 * q + (4 * f σ + (q + 4 * (s * 4 * q))))
      + (s * 16 * q + (9 * (16 * f σ + (s * 16 * q + (s * 16 * q + s * 16 * q))) + (16 * f σ + (s * 16 * q + s * 16 * q))))
  unfolding block_shape cipher_shape
  counts_block =
      c.both _ _ ∙ ap₂ ◌+◌ (counts_for c _ 1 11 (λ r. next_key_shape s σ) (λ r. counts_next_key))
      (c.both _ _ ∙ ap₂ ◌+◌ (counts_bytes c q h 16 s)
      (c.both _ _ ∙ ap₂ ◌+◌ (counts_for c _ 1 10 (λ r. round_shape s σ) (λ r. counts_round)) counts_last_round))

-- ---- a block has 200 S-boxes, 680 further steps a share, and 10 for the round constants

module _ (s : ℕ) (σ : Shape) where
  pub block_steps_lem : steps_of (block_shape s σ) ≡ 200 * steps_of σ + 680 * s + 10
  unfolding touches_of
  block_steps_lem = counts_block counts_steps 1 (λ i. refl) s σ ∙ omega arith

  pub block_draws_lem : draws_of (block_shape s σ) ≡ 200 * draws_of σ
  unfolding bits_of
  block_draws_lem = counts_block counts_draws 0 (λ i. refl) s σ ∙ omega arith

  pub block_products_lem : products_of (block_shape s σ) ≡ 200 * products_of σ
  unfolding products_of
  block_products_lem = counts_block counts_products 0 (λ i. refl) s σ ∙ omega arith

-- ---- the draws are of n bits if those of the S-box are

uniform_step : (n : ℕ) (t : Touch) (σ : Shape) → Uniform n σ → Uniform n (step_of t ∷ σ)
unfolding bits_of
uniform_step n t σ h = h

pub uniform_block : (n s : ℕ) (σ : Shape) → Uniform n σ → Uniform n (block_shape s σ)
unfolding block_shape cipher_shape round_shape last_round_shape next_key_shape
uniform_block n s σ h =
    uniform_append n _ _
    (uniform_for n 1 11 (λ r. next_key_shape s σ) (λ r.
    uniform_append n _ _ (uniform_bytes n 4 s)
    (uniform_append n _ _ (uniform_for n 0 4 (λ j. σ) (λ j. h)) (uniform_step n (one 0) _ (uniform_for n 0 4 (λ t. bytes_shape 4 s) (λ t. uniform_bytes n 4 s))))))
    (uniform_append n _ _ (uniform_bytes n 16 s)
    (uniform_append n _ _
    (uniform_for n 1 10 (λ r. round_shape s σ) (λ r.
    uniform_append n _ _ (uniform_for n 0 16 (λ j. σ) (λ j. h))
    (uniform_append n _ _ (uniform_bytes n 16 s) (uniform_append n _ _ (uniform_bytes n 16 s) (uniform_bytes n 16 s)))))
    (uniform_append n _ _ (uniform_for n 0 16 (λ j. σ) (λ j. h)) (uniform_append n _ _ (uniform_bytes n 16 s) (uniform_bytes n 16 s)))))

-- the random elements of a block, in bits
pub block_bits : (s : ℕ) (σ : Shape) → Uniform 8 σ → bits_of (block_shape s σ) ≡ replicate (200 * draws_of σ) 8
block_bits s σ h = uniform_block 8 s σ h ∙ ap (λ (k : ℕ). replicate k 8) (block_draws_lem s σ)
