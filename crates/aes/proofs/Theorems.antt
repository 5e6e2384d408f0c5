-- What is proved of the masked block of AES-128 with 1 to 9 shares: what its shares join to, what it takes, and what a watch can learn.
use mathlib.Core.Path.{◌≡◌, sym, ap, ◌∙◌}
use mathlib.Core.List.{List, ◌++◌}
use Prim.Native.Nat.{ℕ, ◌+◌, ◌-◌, ◌*◌, ◌≤◌, ◌<◌}
use native.Mathlib.Omega.{arith}
use lib.ListN.{length, replicate}
use Rattle.xor.specs.Sum.{Small}
use Rattle.steps.specs.Program.{result, trace, draws}
use Rattle.steps.specs.Watch.{different, Misses}
use Rattle.steps.specs.Choices.{Fits, choices}
use Rattle.steps.specs.Settled.{mask_bits, choice_bits}
use Rattle.steps.specs.Split.{settled}
use Rattle.steps.specs.ShareBytes.{bytes_of}
use Rattle.steps.specs.Shape.{touches_of, bits_of, steps_of, draws_of, products_of, Shaped}
use Rattle.steps.specs.Call.{Takes}
use Rattle.steps.proofs.Choices.{fits_small}
use Rattle.steps.proofs.Shape.{shaped_result, shaped_draws}
use Rattle.steps.proofs.Call.{takes_shape}
use Rattle.steps.proofs.TwoSecrets.{two_trace}
use Rattle.rijndael.specs.Strings.{loaded, Shared}
use Rattle.rijndael.specs.Rijndael.{substitute, encrypt}
use Rattle.rijndael.specs.Masked.{block_shape}
use Rattle.rijndael.specs.Experiment.{Plain, Secret}
use Rattle.rijndael.specs.Experiment as rijndael_spec
use Rattle.rijndael.proofs.Joined.{encrypt_joins}
use Rattle.rijndael.proofs.Counts.{block_steps_lem, block_draws_lem, block_products_lem, block_bits}
use Rattle.rijndael.proofs.Secrecy as rijndael
use Rattle.rijndael.proofs.Secrecy.{block_untouched_share, block_few_steps, choice_bits_lem}
use Rattle.aes.specs.Sbox.{sbox, sbox_shape}
use Rattle.aes.specs.Figures.{block_products, block_draws, block_steps}
use Rattle.aes.specs.Experiment.{block_program, experiment, block_inputs}
use Rattle.aes.proofs.Sbox.{substitutes, hides, sbox_steps_lem, sbox_draws_lem, sbox_products_lem, uniform_sbox}

-- ---- the figures: the shape of a block has as many steps, draws and products as the paper says

pub steps_of_block : (s : ℕ) → steps_of (block_shape s (sbox_shape s)) ≡ block_steps s
unfolding block_steps
steps_of_block s = block_steps_lem s (sbox_shape s) ∙ ap (λ (b : ℕ). 200 * b + 680 * s + 10) (sbox_steps_lem s) ∙ omega arith

pub draws_of_block : (s : ℕ) → draws_of (block_shape s (sbox_shape s)) ≡ block_draws s
unfolding block_draws
draws_of_block s = block_draws_lem s (sbox_shape s) ∙ ap (λ (d : ℕ). 200 * d) (sbox_draws_lem s) ∙ omega arith

pub products_of_block : (s : ℕ) → products_of (block_shape s (sbox_shape s)) ≡ block_products
unfolding block_products
products_of_block s = block_products_lem s (sbox_shape s) ∙ ap (λ (p : ℕ). 200 * p) (sbox_products_lem s)

draw_figure : (s : ℕ) → 200 * draws_of (sbox_shape s) ≡ block_draws s
draw_figure s = sym (block_draws_lem s (sbox_shape s)) ∙ draws_of_block s

bits_of_block : (s : ℕ) → bits_of (block_shape s (sbox_shape s)) ≡ replicate (block_draws s) 8
bits_of_block s = block_bits s (sbox_shape s) (uniform_sbox s) ∙ ap (λ (d : ℕ). replicate d 8) (draw_figure s)

-- A CHOICE has s - 1 elements of 128 bits for the key, s - 1 for the block, and a random element of 8 bits for each draw: these are the draws of the
-- experiment.
pub choice_is : (s : ℕ) → rijndael_spec.choice_bits s (sbox_shape s) ≡ choice_bits (block_inputs s)
unfolding choice_bits mask_bits
choice_is s =
    choice_bits_lem s (sbox_shape s) (uniform_sbox s) ∙ ap (λ (d : ℕ). replicate (s - 1) 128 ++ (replicate (s - 1) 128 ++ replicate d 8)) (draw_figure s)

module _ (s : ℕ) (some : 0 < s) (nine : s ≤ 9) where
  -- ---- a run, on sharings of the key k and the block x, strings of 16 bytes

  module _ (k x ks xs random : List ℕ) (key : Shared 16 s k ks) (block : Shared 16 s x xs) (elements : Small 8 random) where
    shaped : Shaped (Shared 16 s (encrypt substitute k x)) (block_shape s (sbox_shape s)) (block_program s ks xs)
    shaped = encrypt_joins substitute s nine (sbox_shape s) (sbox s) (substitutes s some nine) some k x ks xs key block

    fits : Fits (bits_of (block_shape s (sbox_shape s))) random
    fits = rw (bits_of_block s) (fits_small 8 (block_draws s) random elements)

    -- THE JOINED RESULT. For every split and all random elements the shares of the result are a sharing of the ciphertext of FIPS 197: they join to
    -- it, byte by byte.
    pub result_shared : Shared 16 s (encrypt substitute k x) (result (block_program s ks xs) random)
    result_shared = shaped_result shaped random fits

    -- WHAT IT TAKES: so many masked products, random elements and steps;
    pub takes : Takes (block_program s ks xs) random block_products (block_draws s) (block_steps s)
    takes = takes_shape shaped random fits (products_of_block s) (draws_of_block s) (steps_of_block s)

    -- the random elements are of 8 bits each.
    pub draws_are : draws (block_program s ks xs) random ≡ replicate (block_draws s) 8
    draws_are = shaped_draws shaped random fits ∙ bits_of_block s

  -- ---- what a watch can learn

  -- A CHOICE settles a call. Let l be shares 1 to s - 1 of the key and m those of the block. Then the steps of the experiment are those of the block on
  -- the bytes of the sharings that the secret and these shares settle.
  pub experiment_steps : (a : Plain) (l m random : List ℕ) → length l ≡ s - 1 → length m ≡ s - 1
      → trace (experiment s a) (l ++ (m ++ random))
      ≡ trace (block_program s (loaded 16 (bytes_of 16 (settled a.key l))) (loaded 16 (bytes_of 16 (settled a.block m)))) random
  unfolding experiment rijndael_spec.experiment
  experiment_steps a = two_trace 128 128 s (rijndael_spec.encrypt_shares (sbox s) s) (a.key, a.block)

  -- The experiment draws the elements of a choice, and no other.
  pub experiment_draws : (a : Plain) → Secret a → (tape : List ℕ) → Fits (choice_bits (block_inputs s)) tape
      → draws (experiment s a) tape ≡ choice_bits (block_inputs s)
  unfolding experiment
  experiment_draws = rw (choice_is s) at (rijndael.experiment_draws substitute (sbox s) s nine (sbox_shape s) (substitutes s some nine) some)

  -- FEW STEPS. If the list has at most t different numbers, and s is at least 2 t + 1, then for any two keys and blocks and each list of values equally
  -- many choices show these values at the steps of the list.
  pub few_steps : (t : ℕ) → 2 * t + 1 ≤ s → (list : List ℕ) → different list ≤ t
      → (shown : List ℕ) (x y : Plain) → Secret x → Secret y
      → choices (choice_bits (block_inputs s)) (experiment s x) list shown ≡ choices (choice_bits (block_inputs s)) (experiment s y) list shown
  unfolding experiment
  few_steps =
      rw (choice_is s) at (block_few_steps substitute (sbox s) s nine (sbox_shape s) (substitutes s some nine) (λ u h. hides s u))

  -- AN UNTOUCHED SHARE. The same holds of a list of any number of steps, if there is a share u that none of them touches.
  pub untouched_share : (u : ℕ) → u < s → (list : List ℕ) → Misses u (touches_of (block_shape s (sbox_shape s))) list
      → (shown : List ℕ) (x y : Plain) → Secret x → Secret y
      → choices (choice_bits (block_inputs s)) (experiment s x) list shown ≡ choices (choice_bits (block_inputs s)) (experiment s y) list shown
  unfolding experiment
  untouched_share u h =
      rw (choice_is s) at (block_untouched_share substitute (sbox s) s nine (sbox_shape s) (substitutes s some nine) u h (hides s u))
