-- What is proved of the masked block, with any record of PRESENT's table and 1 to 9 shares: what its shares join to, what it takes, and what a watch
-- can learn.
use mathlib.Core.Path.{◌≡◌, ap, ◌∙◌}
use mathlib.Core.List.{List, ◌∷◌, ◌++◌}
use Prim.Native.Nat.{ℕ, ◌+◌, ◌-◌, ◌*◌, ◌/◌, ◌^◌, ◌≤◌, ◌<◌}
use native.Mathlib.Nat.{mul-sub, mul-one, mul-le-mul_left, mul-le-mul}
use native.Mathlib.Omega.{arith}
use lib.ListN.{length, replicate}
use Rattle.xor.specs.Xor.{◌⊕◌}
use Rattle.xor.specs.Sum.{join, Small}
use Rattle.steps.specs.Program.{result, trace, draws}
use Rattle.steps.specs.Watch.{different, Misses}
use Rattle.steps.specs.Choices.{Fits, choices}
use Rattle.steps.specs.Settled.{mask_bits, choice_bits}
use Rattle.steps.specs.Shape.{touches_of, bits_of, steps_of, draws_of, products_of}
use Rattle.steps.specs.Sharing.{Sharing}
use Rattle.steps.specs.Tape.{bytes_for, Full}
use Rattle.steps.specs.Call.{Takes}
use Rattle.steps.proofs.TwoSecrets.{two_trace}
use Rattle.steps.proofs.Ciphering as ciphering
use Rattle.sbox.proofs.Counts.{sbox_steps_lem, sbox_draws_lem, sbox_products_lem, figures_4_4, uniform_sbox}
use Rattle.product.proofs.Counts.{few_pairs}
use Rattle.present.specs.Present.{table, substitute, size80, State, encrypt}
use Rattle.present.specs.Masked.{block_shape}
use Rattle.present.specs.Experiment.{Computes, Keeps, Secret}
use Rattle.present.specs.Experiment as present_spec
use Rattle.present.proofs.Numbers.{sound80}
use Rattle.present.proofs.Joined.{encrypt_joins}
use Rattle.present.proofs.Coupled.{encrypt_coupled}
use Rattle.present.proofs.Counts.{block_steps_lem, block_products_lem, block_bits}
use Rattle.present.proofs.Secrecy as present
use Rattle.present.proofs.Secrecy.{secret_untouched_share, secret_few_steps, choice_bits_lem}
use Rattle.decomposition.specs.Record.{coefficients_of}
use Rattle.cipher.specs.Box.{record_sbox, block_program}
use Rattle.cipher.specs.Figures.{block_products, block_draws, block_steps}
use Rattle.cipher.specs.Ciphering.{Realizes, record_tests, Right, experiment_of}
use Rattle.cipher.specs.Operations.{sealed, sealing}
use Rattle.cipher.specs.Experiment.{PresentRecord, box_shape, experiment, block_inputs}
use Rattle.cipher.proofs.Records.{present_record, record_small, record_realizes}
use Rattle.cipher.proofs.Calls.{Good, good_on_bytes}
use Rattle.cipher.proofs.Box.{substitutes, hides}
use Rattle.cipher.proofs.Programs.{Figured, run_ends, run_takes, run_draws, pairs_bytes, pairs_full}

-- ---- the figures

-- of the S-box
pub box_steps : (s : ℕ) → 0 < s → steps_of (box_shape s) ≡ 7 * (s * s) + 50 * s
unfolding box_shape
box_steps s h =
    let square : s * (s - 1) ≡ s * s - s = mul-sub s s 1 ∙ ap (λ (x : ℕ). s * s - x) (mul-one s) in
    let more : s * 1 ≤ s * s = mul-le-mul_left s h in
    sbox_steps_lem 4 4 s ∙ (figures_4_4 s).2 ∙ omega (arith, mul-one s)

pub box_draws : (s : ℕ) → draws_of (box_shape s) ≡ s * (s - 1)
unfolding box_shape
box_draws s = sbox_draws_lem 4 4 s ∙ (figures_4_4 s).1

pub box_products : (s : ℕ) → products_of (box_shape s) ≡ 2
unfolding box_shape
box_products s = sbox_products_lem 4 4 s ∙ (figures_4_4 s).0

-- the random elements of a block are of 4 bits
bits_of_block : (s : ℕ) → bits_of (block_shape size80 s (box_shape s)) ≡ replicate (block_draws s) 4
unfolding box_shape block_draws
bits_of_block s =
    let boxes : 31 * (17 * draws_of (box_shape s)) ≡ 527 * (s * (s - 1)) = ap (λ (d : ℕ). 31 * (17 * d)) (box_draws s) ∙ omega arith in
    block_bits size80 s (box_shape s) (uniform_sbox 4 s _) ∙ ap (λ (d : ℕ). replicate d 4) boxes

-- the shape of a block has as many products, draws and steps as the paper says
pub block_figured : (s : ℕ) → 0 < s → Figured (block_shape size80 s (box_shape s)) block_products (block_draws s) (block_steps s)
unfolding block_products block_steps
block_figured s h = record {
  products_are = block_products_lem size80 s (box_shape s) ∙ ap (λ (p : ℕ). 31 * (17 * p)) (box_products s);
  bits_are = bits_of_block s;
  steps_are = block_steps_lem size80 s (box_shape s) ∙ ap (λ (b : ℕ). 31 * (52 * s + 17 * b + 2) + 16 * s) (box_steps s h);
}

-- A CHOICE has s - 1 elements of 80 bits, s - 1 of 64 bits, and a random element of 4 bits for each draw: these are the draws of the experiment.
pub choice_is : (s : ℕ) → present_spec.choice_bits size80 s (block_shape size80 s (box_shape s)) ≡ choice_bits (block_inputs s)
unfolding choice_bits mask_bits
choice_is s = choice_bits_lem size80 s _ (block_draws s) (bits_of_block s)

-- ---- by the coefficients of a record

module _ (cs : List ℕ) (small : Small 4 cs) (realizes : Realizes table cs) (s : ℕ) (some : 0 < s) (nine : s ≤ 9) where
  -- the program computes the block, and keeps every share apart
  sealed_computes : Computes (encrypt size80) size80 s (block_shape size80 s (box_shape s)) ((sealed cs).program s)
  unfolding substitute
  sealed_computes = encrypt_joins s (box_shape s) (record_sbox s cs) (substitutes table cs small realizes s some nine) some size80 sound80

  sealed_keeps : (u : ℕ) → Keeps u size80 ((sealed cs).program s)
  sealed_keeps u = encrypt_coupled u (record_sbox s cs) (hides table cs small realizes s u) s size80 sound80

module _ (r : List ℕ) (record_lem : PresentRecord r) (s : ℕ) (some : 0 < s) (nine : s ≤ 9) where
  computes : Computes (encrypt size80) size80 s (block_shape size80 s (box_shape s)) (block_program r s)
  computes = sealed_computes (coefficients_of r) (record_small record_lem) (record_realizes record_lem) s some nine

  keeps : (u : ℕ) → Keeps u size80 (block_program r s)
  keeps = sealed_keeps (coefficients_of r) (record_small record_lem) (record_realizes record_lem) s some nine

  -- ---- a run, on sharings of the key k and the block x

  module _ (k x : ℕ) (ks xs random : List ℕ) (key : Sharing 80 s k ks) (block : Sharing 64 s x xs) (elements : Small 4 random) where
    -- THE JOINED RESULT. For every split and all random elements the shares of the result join to the PRESENT-80 ciphertext.
    pub joined : join (result (block_program r s ks xs) random) ≡ encrypt size80 k x
    joined = (run_ends size80 computes (block_figured s some) key block random elements).joins

    -- and they are a sharing of it: each is below 2 ^ 64, and 0 past the s shares
    pub result_sharing : Sharing 64 s (encrypt size80 k x) (result (block_program r s ks xs) random)
    result_sharing = run_ends size80 computes (block_figured s some) key block random elements

    -- WHAT IT TAKES: so many masked products, random elements and steps;
    pub takes : Takes (block_program r s ks xs) random block_products (block_draws s) (block_steps s)
    takes = run_takes size80 computes (block_figured s some) key block random elements

    -- the random elements are of 4 bits each.
    pub draws_are : draws (block_program r s ks xs) random ≡ replicate (block_draws s) 4
    draws_are = run_draws size80 computes (block_figured s some) key block random elements

  -- ---- what a watch can learn

  -- A CHOICE settles a call. Let l be shares 1 to s - 1 of the key and m those of the block. Then the steps of the experiment are those of the block on
  -- the sharings that the secret and these shares settle.
  pub experiment_steps : (a : State ℕ) (l m random : List ℕ) → length l ≡ s - 1 → length m ≡ s - 1
      → trace (experiment r s a) (l ++ (m ++ random)) ≡ trace (block_program r s (a.key ⊕ join l ∷ l) (a.block ⊕ join m ∷ m)) random
  unfolding experiment experiment_of
  experiment_steps a = two_trace 80 64 s (block_program r s) (a.key, a.block)

  -- The experiment draws the elements of a choice, and no other.
  pub experiment_draws : (a : State ℕ) → Secret size80 a → (tape : List ℕ) → Fits (choice_bits (block_inputs s)) tape
      → draws (experiment r s a) tape ≡ choice_bits (block_inputs s)
  unfolding experiment experiment_of present_spec.experiment
  experiment_draws = rw (choice_is s) at (present.experiment_draws (block_program r s) size80 s (block_shape size80 s (box_shape s)) computes some)

  -- FEW STEPS. If the list has at most t different numbers, and s is at least 2 t + 1, then for any two keys and blocks and each list of values equally
  -- many choices show these values at the steps of the list.
  pub few_steps : (t : ℕ) → 2 * t + 1 ≤ s → (list : List ℕ) → different list ≤ t
      → (shown : List ℕ) (x y : State ℕ) → Secret size80 x → Secret size80 y
      → choices (choice_bits (block_inputs s)) (experiment r s x) list shown ≡ choices (choice_bits (block_inputs s)) (experiment r s y) list shown
  unfolding experiment experiment_of present_spec.experiment
  few_steps =
      rw (choice_is s) at (secret_few_steps (block_program r s) size80 s (block_shape size80 s (box_shape s)) computes (λ u h. keeps u))

  -- AN UNTOUCHED SHARE. The same holds of a list of any number of steps, if there is a share u that none of them touches.
  pub untouched_share : (u : ℕ) → u < s → (list : List ℕ) → Misses u (touches_of (block_shape size80 s (box_shape s))) list
      → (shown : List ℕ) (x y : State ℕ) → Secret size80 x → Secret size80 y
      → choices (choice_bits (block_inputs s)) (experiment r s x) list shown ≡ choices (choice_bits (block_inputs s)) (experiment r s y) list shown
  unfolding experiment experiment_of present_spec.experiment
  untouched_share u h =
      rw (choice_is s) at (secret_untouched_share (block_program r s) size80 s (block_shape size80 s (box_shape s)) computes u h (keeps u))

-- ---- sealing is right

pub few_squares : {s : ℕ} → s ≤ 9 → s * s ≤ 81
few_squares h = mul-le-mul {n₂ = 9} {m₂ = 9} h h

few_taken : (s : ℕ) → s ≤ 9 → (block_products < 2 ^ 64) × (block_draws s < 2 ^ 64) × (block_steps s < 2 ^ 32)
unfolding block_products block_draws block_steps
few_taken s h = (omega arith, omega (arith, few_pairs h), omega (arith, few_squares h))

some_steps : (s : ℕ) → 0 < s → 0 < block_steps s
unfolding block_steps
some_steps s h = omega arith

pub sealed_right : (cs : List ℕ) → Small 4 cs → Realizes table cs → (s : ℕ) → 0 < s → s ≤ 9 → Right (sealed cs) s
sealed_right cs small realizes s some nine =
    let computes = sealed_computes cs small realizes s some nine in
    record {
      ends = λ k x ks xs tape key block elements. run_ends size80 computes (block_figured s some) key block tape elements;
      takes = λ k x ks xs tape key block elements. run_takes size80 computes (block_figured s some) key block tape elements;
      few = few_taken s nine;
      some_steps = some_steps s some;
    }

pub sealing_right : (r : List ℕ) (s : ℕ) → Good (record_tests table r) (sealed (coefficients_of r)) s
sealing_right r s v e = let h = present_record r e in sealed_right (coefficients_of r) (record_small h) (record_realizes h) s

pub sealing_good : (r : List ℕ) (s : ℕ) → ciphering.Good (sealing r s)
sealing_good r s = good_on_bytes (record_tests table r) (sealed (coefficients_of r)) s (sealing_right r s)

-- ---- in bytes

-- THE RANDOM BYTES of a call: two elements fill each,
pub block_bytes : (s : ℕ) → bytes_for 4 (block_draws s) ≡ 527 * (s * (s - 1) / 2)
unfolding block_draws
block_bytes s = pairs_bytes 527 s

-- and none has room for more.
pub block_full : (s : ℕ) → Full 4 (block_draws s)
unfolding block_draws
block_full s = pairs_full 527 s
