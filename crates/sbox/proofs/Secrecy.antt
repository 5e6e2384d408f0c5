-- Secrecy of the masked S-box, as the paper puts it under "What demand 3 counts".
-- `choices bits program list shown` is the number of choices, of elements of these bits, for which the steps of the program that the list names,
-- in any order and with repeats, record the elements `shown`, place by place.
use mathlib.Core.Path.{◌≡◌, ap, ◌∙◌}
use mathlib.Core.Bool.{cond}
use mathlib.Core.List.{List, [], ◌∷◌, ◌++◌}
use Prim.Native.Nat.{ℕ, zero, suc, ◌+◌, ◌-◌, ◌*◌, ◌^◌, ◌≤◌, ◌<◌}
use native.Mathlib.Omega.{arith}
use lib.ListN.{length, replicate, replicate-append-replicate}
use Rattle.xor.specs.Xor.{◌⊕◌}
use Rattle.xor.specs.Sum.{join}
use Rattle.field.proofs.Inverses.{products}
use Rattle.field.proofs.Tests.{same_below}
use Rattle.steps.specs.Program.{trace, draws}
use Rattle.steps.specs.Watch.{watched, different, Misses}
use Rattle.steps.specs.Choices.{Fits, sum, total_bits, equal, choices}
use Rattle.steps.specs.Settled.{mask_bits, choice_bits}
use Rattle.steps.specs.Shape.{touches_of}
use Rattle.steps.specs.Sharing.{Sharing, Close}
use Rattle.steps.proofs.Shape.{shaped_draws}
use Rattle.steps.proofs.Choices.{tally_all, total_bits_lem}
use Rattle.steps.proofs.Splits.{split_trace}
use Rattle.steps.proofs.Secrecy.{untouched_share, few_steps}
use Rattle.decomposition.specs.Layout.{terms_of}
use Rattle.sbox.specs.Sbox.{factors, sbox}
use Rattle.sbox.specs.Form.{form_of, basis_size, AcceptedForm}
use Rattle.sbox.specs.Shape.{sbox_shape}
use Rattle.sbox.specs.Figures.{products_for, draws_for, sbox_draws}
use Rattle.sbox.specs.Experiment.{experiment, experiment_shape, sbox_inputs}
use Rattle.sbox.proofs.Experiment.{experiment_bits, experiment_touches, shaped_experiment, coupled_experiment, step_nine, step_nine_choices}

-- ---- what a choice is

-- Shares 1 to s - 1 and the random elements of the steps, in this order, are the tape of the experiment: its steps are those of the S-box, on the
-- shares that the secret and the masks give.
pub experiment_steps : (n s : ℕ) (qs ps : List (List ℕ)) (x : ℕ) (masks random : List ℕ) → length masks ≡ s - 1
    → trace (experiment n s qs ps x) (masks ++ random) ≡ trace (sbox n s qs ps (x ⊕ join masks ∷ masks)) random
unfolding experiment
experiment_steps n s qs ps x masks random e = split_trace n s x masks random (sbox n s qs ps) e

-- With no step watched all choices count: there are 2 to the power of n for each mask and each random element.
pub all_choices : (n m s : ℕ) (qs ps : List (List ℕ)) (x : ℕ)
    → choices (choice_bits (sbox_inputs n m s)) (experiment n s qs ps x) [] [] ≡ 2 ^ ((s - 1 + sbox_draws n m s) * n)
unfolding choices choice_bits mask_bits watched equal
all_choices n m s qs ps x =
    tally_all (replicate (s - 1) n ++ replicate (sbox_draws n m s) n)
    ∙ ap (λ (l : List ℕ). 2 ^ total_bits l) (replicate-append-replicate (s - 1) (sbox_draws n m s) n)
    ∙ ap (λ (b : ℕ). 2 ^ b) (total_bits_lem n (s - 1 + sbox_draws n m s))

module _ {n m : ℕ} {qs ps : List (List ℕ)} (accepted : AcceptedForm n m qs ps) (s : ℕ) where
  -- The experiment draws the elements of a choice, and no other.
  pub experiment_draws : 0 < s → s ≤ 9 → (x : ℕ) → x < 2 ^ n → (tape : List ℕ) → Fits (choice_bits (sbox_inputs n m s)) tape
      → draws (experiment n s qs ps x) tape ≡ choice_bits (sbox_inputs n m s)
  experiment_draws some nine x h tape f =
      let e = experiment_bits n m s in
      shaped_draws (shaped_experiment accepted s some nine x h) tape (rw e f) ∙ e

  -- ---- secrecy

  -- FEW STEPS: if the list has at most t different numbers, and s is at least 2 t + 1, then for any two secrets and each list of values equally many
  -- choices show these values at the steps of the list.
  pub sbox_few_steps : s ≤ 9 → (t : ℕ) → 2 * t + 1 ≤ s → (list : List ℕ) → different list ≤ t
      → (shown : List ℕ) (x y : ℕ) → x < 2 ^ n → y < 2 ^ n
      → choices (choice_bits (sbox_inputs n m s)) (experiment n s qs ps x) list shown ≡ choices (choice_bits (sbox_inputs n m s)) (experiment n s qs ps y) list shown
  sbox_few_steps nine t l list d =
      rw (experiment_bits n m s) at
      (few_steps (λ x. x < 2 ^ n) (experiment n s qs ps) (experiment_shape n m s) (λ x c. (length c ≡ 9) × Sharing n s (form_of n qs ps x) c)
      (shaped_experiment accepted s (omega arith) nine) s (Close n) (coupled_experiment accepted s) t l list d)

  -- AN UNTOUCHED SHARE: the same holds of a list of any number of steps, if there is a share u that none of them touches.
  pub sbox_untouched_share : s ≤ 9 → (u : ℕ) → u < s → (list : List ℕ) → Misses u (touches_of (sbox_shape n s (basis_size n m))) list
      → (shown : List ℕ) (x y : ℕ) → x < 2 ^ n → y < 2 ^ n
      → choices (choice_bits (sbox_inputs n m s)) (experiment n s qs ps x) list shown ≡ choices (choice_bits (sbox_inputs n m s)) (experiment n s qs ps y) list shown
  sbox_untouched_share nine u l list h =
      rw (experiment_bits n m s) at
      (untouched_share (λ x. x < 2 ^ n) (experiment n s qs ps) (experiment_shape n m s) (λ x c. (length c ≡ 9) × Sharing n s (form_of n qs ps x) c)
      (shaped_experiment accepted s (omega arith) nine) u (Close n u) (coupled_experiment accepted s u l) list (rw (experiment_touches n m s) h))

-- ---- two shares are not enough for one step

-- A two-share S-box at width 4 has 4,096 choices.
pub two_shares : (qs ps : List (List ℕ)) (x : ℕ) → choices (choice_bits (sbox_inputs 4 4 2)) (experiment 4 2 qs ps x) [] [] ≡ 4096
unfolding sbox_draws draws_for products_for basis_size terms_of factors
two_shares qs ps x = all_choices 4 4 2 qs ps x

-- Its step 9 shows 0 in 256 of them if the secret is 0,
pub step_nine_zero : (qs ps : List (List ℕ)) → choices (choice_bits (sbox_inputs 4 4 2)) (experiment 4 2 qs ps 0) (9 ∷ []) (0 ∷ []) ≡ 256
unfolding sum step_nine equal join products
step_nine_zero qs ps = step_nine_choices qs ps 0

-- and in 512 if it is not.
pub step_nine_other : (qs ps : List (List ℕ)) (x : ℕ) → 0 < x → x < 2 ^ 4
    → choices (choice_bits (sbox_inputs 4 4 2)) (experiment 4 2 qs ps x) (9 ∷ []) (0 ∷ []) ≡ 512
unfolding sum step_nine equal join products
step_nine_other qs ps zero l h = absurd (omega arith)
step_nine_other qs ps (suc i) l h =
    step_nine_choices qs ps (suc i)
    ∙ same_below 15 (λ i. sum 16 (λ m. cond (equal (step_nine (suc i) m ∷ []) (0 ∷ [])) 256 0)) (λ i. 512) tt i (omega arith)
