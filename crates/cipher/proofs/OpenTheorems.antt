-- What is proved of the masked opening, with any record of PRESENT's table, any of the inverse table and 1 to 9 shares: what its shares join to, what it
-- takes, and what a watch can learn.
use mathlib.Core.Path.{◌≡◌, ap, ◌∙◌}
use mathlib.Core.List.{List, ◌∷◌, ◌++◌}
use Prim.Native.Nat.{ℕ, ◌+◌, ◌-◌, ◌*◌, ◌^◌, ◌≤◌, ◌<◌}
use native.Mathlib.Omega.{arith}
use lib.ListN.{length, replicate}
use Rattle.xor.specs.Xor.{◌⊕◌}
use Rattle.xor.specs.Sum.{join, Small}
use Rattle.steps.specs.Program.{result, trace, draws}
use Rattle.steps.specs.Watch.{different, Misses}
use Rattle.steps.specs.Choices.{Fits, choices}
use Rattle.steps.specs.Settled.{mask_bits, choice_bits}
use Rattle.steps.specs.Shape.{touches_of, bits_of, draws_of}
use Rattle.steps.specs.Sharing.{Sharing}
use Rattle.steps.specs.Tape.{bytes_for, Full}
use Rattle.steps.specs.Call.{Takes}
use Rattle.steps.proofs.TwoSecrets.{two_trace}
use Rattle.steps.proofs.Ciphering as ciphering
use Rattle.sbox.proofs.Counts.{uniform_sbox}
use Rattle.product.proofs.Counts.{few_pairs, pairs_twice}
use Rattle.present.specs.Present.{table, substitute, size80, State}
use Rattle.present.specs.Decrypt.{inverse_table, unsubstitute, decrypt}
use Rattle.present.specs.Opening.{opening_shape}
use Rattle.present.specs.Experiment.{Computes, Keeps, Secret}
use Rattle.present.specs.Experiment as present_spec
use Rattle.present.proofs.Numbers.{sound80}
use Rattle.present.proofs.Opened.{decrypt_joins, decrypt_coupled}
use Rattle.present.proofs.Counts.{opening_steps, opening_products, opening_bits}
use Rattle.present.proofs.Secrecy as present
use Rattle.present.proofs.Secrecy.{secret_untouched_share, secret_few_steps, choice_bits_lem}
use Rattle.decomposition.specs.Record.{coefficients_of}
use Rattle.cipher.specs.Box.{record_sbox, open_program}
use Rattle.cipher.specs.Figures.{open_products, open_draws, open_steps}
use Rattle.cipher.specs.Ciphering.{Realizes, Right, experiment_of}
use Rattle.cipher.specs.OpenOperations.{both_tests, opened, opening}
use Rattle.cipher.specs.Experiment.{PresentRecord, InverseRecord, box_shape, open_experiment, open_inputs}
use Rattle.cipher.proofs.Records.{both_records, record_small, record_realizes}
use Rattle.cipher.proofs.Calls.{Good, good_on_bytes}
use Rattle.cipher.proofs.Box.{substitutes, hides}
use Rattle.cipher.proofs.Programs.{Figured, run_ends, run_takes, run_draws, pairs_bytes, pairs_full}
use Rattle.cipher.proofs.Theorems.{box_steps, box_draws, box_products, few_squares}

-- ---- the figures

-- the random elements of an opening are of 4 bits
bits_of_opening : (s : ℕ) → bits_of (opening_shape size80 s (box_shape s)) ≡ replicate (open_draws s) 4
unfolding box_shape open_draws
bits_of_opening s =
    let boxes : 31 * (18 * draws_of (box_shape s)) ≡ 558 * (s * (s - 1)) = ap (λ (d : ℕ). 31 * (18 * d)) (box_draws s) ∙ omega arith in
    opening_bits size80 s (box_shape s) (uniform_sbox 4 s _) ∙ ap (λ (d : ℕ). replicate d 4) boxes

-- the shape of an opening has as many products, draws and steps as the request says
pub opening_figured : (s : ℕ) → 0 < s → Figured (opening_shape size80 s (box_shape s)) open_products (open_draws s) (open_steps s)
unfolding open_products open_steps
opening_figured s h = record {
  products_are = opening_products size80 s (box_shape s) ∙ ap (λ (p : ℕ). 31 * (18 * p)) (box_products s);
  bits_are = bits_of_opening s;
  steps_are = opening_steps size80 s (box_shape s) ∙ ap (λ (b : ℕ). 31 * (72 * s + 18 * b + 4) + 16 * s) (box_steps s h);
}

-- A CHOICE has s - 1 elements of 80 bits, s - 1 of 64 bits, and a random element of 4 bits for each draw: these are the draws of the experiment.
pub choice_is : (s : ℕ) → present_spec.choice_bits size80 s (opening_shape size80 s (box_shape s)) ≡ choice_bits (open_inputs s)
unfolding choice_bits mask_bits
choice_is s = choice_bits_lem size80 s _ (open_draws s) (bits_of_opening s)

-- ---- by the coefficients of two records

module _ (cs ds : List ℕ) (small : Small 4 cs) (realizes : Realizes table cs) (small' : Small 4 ds) (realizes' : Realizes inverse_table ds)
    (s : ℕ) (some : 0 < s) (nine : s ≤ 9) where
  -- the program computes the decrypted block, and keeps every share apart
  opened_computes : Computes (decrypt size80) size80 s (opening_shape size80 s (box_shape s)) ((opened cs ds).program s)
  unfolding substitute unsubstitute
  opened_computes =
      decrypt_joins s (box_shape s) (record_sbox s cs) (record_sbox s ds) (substitutes table cs small realizes s some nine)
      (substitutes inverse_table ds small' realizes' s some nine) some size80 sound80

  opened_keeps : (u : ℕ) → Keeps u size80 ((opened cs ds).program s)
  opened_keeps u =
      decrypt_coupled u (record_sbox s cs) (record_sbox s ds) (hides table cs small realizes s u) (hides inverse_table ds small' realizes' s u)
      s size80 sound80

module _ (r q : List ℕ) (record_lem : PresentRecord r) (inverse : InverseRecord q) (s : ℕ) (some : 0 < s) (nine : s ≤ 9) where
  computes : Computes (decrypt size80) size80 s (opening_shape size80 s (box_shape s)) (open_program r q s)
  computes =
      opened_computes (coefficients_of r) (coefficients_of q) (record_small record_lem) (record_realizes record_lem)
      (record_small inverse) (record_realizes inverse) s some nine

  keeps : (u : ℕ) → Keeps u size80 (open_program r q s)
  keeps =
      opened_keeps (coefficients_of r) (coefficients_of q) (record_small record_lem) (record_realizes record_lem)
      (record_small inverse) (record_realizes inverse) s some nine

  -- ---- a run, on sharings of the key k and the block y

  module _ (k y : ℕ) (ks ys random : List ℕ) (key : Sharing 80 s k ks) (block : Sharing 64 s y ys) (elements : Small 4 random) where
    -- THE JOINED RESULT. For every split and all random elements the shares of the result join to the decrypted block.
    pub joined : join (result (open_program r q s ks ys) random) ≡ decrypt size80 k y
    joined = (run_ends size80 computes (opening_figured s some) key block random elements).joins

    -- and they are a sharing of it: each is below 2 ^ 64, and 0 past the s shares
    pub result_sharing : Sharing 64 s (decrypt size80 k y) (result (open_program r q s ks ys) random)
    result_sharing = run_ends size80 computes (opening_figured s some) key block random elements

    -- WHAT IT TAKES: so many masked products, random elements and steps;
    pub takes : Takes (open_program r q s ks ys) random open_products (open_draws s) (open_steps s)
    takes = run_takes size80 computes (opening_figured s some) key block random elements

    -- the random elements are of 4 bits each.
    pub draws_are : draws (open_program r q s ks ys) random ≡ replicate (open_draws s) 4
    draws_are = run_draws size80 computes (opening_figured s some) key block random elements

  -- ---- what a watch can learn

  -- A CHOICE settles a call. Let l be shares 1 to s - 1 of the key and m those of the block. Then the steps of the experiment are those of the opening on
  -- the sharings that the secret and these shares settle.
  pub experiment_steps : (a : State ℕ) (l m random : List ℕ) → length l ≡ s - 1 → length m ≡ s - 1
      → trace (open_experiment r q s a) (l ++ (m ++ random)) ≡ trace (open_program r q s (a.key ⊕ join l ∷ l) (a.block ⊕ join m ∷ m)) random
  unfolding open_experiment experiment_of
  experiment_steps a = two_trace 80 64 s (open_program r q s) (a.key, a.block)

  -- The experiment draws the elements of a choice, and no other.
  pub experiment_draws : (a : State ℕ) → Secret size80 a → (tape : List ℕ) → Fits (choice_bits (open_inputs s)) tape
      → draws (open_experiment r q s a) tape ≡ choice_bits (open_inputs s)
  unfolding open_experiment experiment_of present_spec.experiment
  experiment_draws = rw (choice_is s) at (present.experiment_draws (open_program r q s) size80 s (opening_shape size80 s (box_shape s)) computes some)

  -- FEW STEPS. If the list has at most t different numbers, and s is at least 2 t + 1, then for any two keys and blocks and each list of values equally
  -- many choices show these values at the steps of the list.
  pub few_steps : (t : ℕ) → 2 * t + 1 ≤ s → (list : List ℕ) → different list ≤ t
      → (shown : List ℕ) (x y : State ℕ) → Secret size80 x → Secret size80 y
      → choices (choice_bits (open_inputs s)) (open_experiment r q s x) list shown ≡ choices (choice_bits (open_inputs s)) (open_experiment r q s y) list shown
  unfolding open_experiment experiment_of present_spec.experiment
  few_steps =
      rw (choice_is s) at (secret_few_steps (open_program r q s) size80 s (opening_shape size80 s (box_shape s)) computes (λ u h. keeps u))

  -- AN UNTOUCHED SHARE. The same holds of a list of any number of steps, if there is a share u that none of them touches.
  pub untouched_share : (u : ℕ) → u < s → (list : List ℕ) → Misses u (touches_of (opening_shape size80 s (box_shape s))) list
      → (shown : List ℕ) (x y : State ℕ) → Secret size80 x → Secret size80 y
      → choices (choice_bits (open_inputs s)) (open_experiment r q s x) list shown ≡ choices (choice_bits (open_inputs s)) (open_experiment r q s y) list shown
  unfolding open_experiment experiment_of present_spec.experiment
  untouched_share u h =
      rw (choice_is s) at (secret_untouched_share (open_program r q s) size80 s (opening_shape size80 s (box_shape s)) computes u h (keeps u))

-- ---- opening is right

few_taken : (s : ℕ) → s ≤ 9 → (open_products < 2 ^ 64) × (open_draws s < 2 ^ 64) × (open_steps s < 2 ^ 32)
unfolding open_products open_draws open_steps
few_taken s h = (omega arith, omega (arith, few_pairs h), omega (arith, few_squares h))

some_steps : (s : ℕ) → 0 < s → 0 < open_steps s
unfolding open_steps
some_steps s h = omega arith

pub opened_right : (cs ds : List ℕ) → Small 4 cs → Realizes table cs → Small 4 ds → Realizes inverse_table ds → (s : ℕ) → 0 < s → s ≤ 9
    → Right (opened cs ds) s
opened_right cs ds small realizes small' realizes' s some nine =
    let computes = opened_computes cs ds small realizes small' realizes' s some nine in
    record {
      ends = λ k y ks ys tape key block elements. run_ends size80 computes (opening_figured s some) key block tape elements;
      takes = λ k y ks ys tape key block elements. run_takes size80 computes (opening_figured s some) key block tape elements;
      few = few_taken s nine;
      some_steps = some_steps s some;
    }

pub opening_right : (r q : List ℕ) (s : ℕ) → Good (both_tests r q) (opened (coefficients_of r) (coefficients_of q)) s
opening_right r q s v e =
    let both = both_records r q e in
    opened_right (coefficients_of r) (coefficients_of q) (record_small both.0) (record_realizes both.0) (record_small both.1) (record_realizes both.1) s

pub opening_good : (r q : List ℕ) (s : ℕ) → ciphering.Good (opening r q s)
opening_good r q s = good_on_bytes (both_tests r q) (opened (coefficients_of r) (coefficients_of q)) s (opening_right r q s)

-- ---- in bytes

-- THE RANDOM BYTES of a call: two elements fill each,
pub open_bytes : (s : ℕ) → bytes_for 4 (open_draws s) ≡ 279 * (s * (s - 1))
unfolding open_draws
open_bytes s = pairs_bytes 558 s ∙ omega (arith, pairs_twice s)

-- and none has room for more.
pub open_full : (s : ℕ) → Full 4 (open_draws s)
unfolding open_draws
open_full s = pairs_full 558 s
