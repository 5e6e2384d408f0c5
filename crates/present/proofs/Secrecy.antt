-- SECRECY, over any masked program of a key and a block that computes and keeps: what a list of watched steps shows, it shows under equally many choices
-- for any two keys and blocks.
use mathlib.Core.Path.{◌≡◌, ap}
use mathlib.Core.List.{List, ◌++◌}
use Prim.Native.Nat.{ℕ, ◌+◌, ◌-◌, ◌*◌, ◌≤◌, ◌<◌}
use native.Mathlib.Omega.{arith}
use lib.ListN.{replicate}
use Rattle.steps.specs.Program.{Run, draws}
use Rattle.steps.specs.Watch.{different, Misses}
use Rattle.steps.specs.Choices.{Fits, choices}
use Rattle.steps.specs.Shape.{Shape, touches_of, bits_of}
use Rattle.steps.specs.TwoSecrets.{split_two_bits}
use Rattle.steps.proofs.TwoSecrets.{two_draws, two_untouched_share, two_few_steps}
use Rattle.present.specs.Present.{Size, key_bits, State}
use Rattle.present.specs.Experiment.{Computes, Keeps, Secret, experiment, choice_bits}

module _ {f : ℕ → ℕ → ℕ} (program : List ℕ → List ℕ → Run (List ℕ)) (z : Size) (s : ℕ) (τ : Shape) (computes : Computes f z s τ program) where
  -- THE CHOICE. The experiment draws the elements of a choice, and no other.
  pub experiment_draws : 0 < s → (x : State ℕ) → Secret z x → (tape : List ℕ) → Fits (choice_bits z s τ) tape
      → draws (experiment program z s x) tape ≡ choice_bits z s τ
  unfolding experiment choice_bits
  experiment_draws some x h = two_draws some computes (x.key, x.block) (h.key_small, h.block_small)

  -- THE UNTOUCHED SHARE. If the program keeps agreement but for share u and no step of the list touches share u, then for each list of values equally
  -- many choices show these values at the steps of the list, for any two secrets. The list has any length and order, with repeats.
  pub secret_untouched_share : (u : ℕ) → u < s → Keeps u z program
      → (list : List ℕ) → Misses u (touches_of τ) list
      → (shown : List ℕ) (x y : State ℕ) → Secret z x → Secret z y
      → choices (choice_bits z s τ) (experiment program z s x) list shown ≡ choices (choice_bits z s τ) (experiment program z s y) list shown
  unfolding experiment choice_bits
  secret_untouched_share u l keeps list m shown x y hx hy =
      let some : 0 < s = omega arith in
      two_untouched_share some computes u l keeps list m shown
      (x.key, x.block) (y.key, y.block) (hx.key_small, hx.block_small) (hy.key_small, hy.block_small)

  -- FEW STEPS. If it does so for each of the s shares and the list has at most t different numbers, where s is at least 2 t + 1, then for each list of
  -- values equally many choices show these values at the steps of the list, for any two secrets.
  pub secret_few_steps : ((u : ℕ) → u < s → Keeps u z program)
      → (t : ℕ) → 2 * t + 1 ≤ s → (list : List ℕ) → different list ≤ t
      → (shown : List ℕ) (x y : State ℕ) → Secret z x → Secret z y
      → choices (choice_bits z s τ) (experiment program z s x) list shown ≡ choices (choice_bits z s τ) (experiment program z s y) list shown
  unfolding experiment choice_bits
  secret_few_steps keeps t h list d shown x y hx hy =
      let some : 0 < s = omega arith in
      two_few_steps some computes keeps t h list d shown
      (x.key, x.block) (y.key, y.block) (hx.key_small, hx.block_small) (hy.key_small, hy.block_small)

-- a choice: s - 1 shares of the bits of a key, s - 1 of 64 bits, and the random elements, of 4 bits
pub choice_bits_lem : (z : Size) (s : ℕ) (τ : Shape) (d : ℕ) → bits_of τ ≡ replicate d 4
    → choice_bits z s τ ≡ replicate (s - 1) (key_bits z) ++ (replicate (s - 1) 64 ++ replicate d 4)
unfolding choice_bits split_two_bits
choice_bits_lem z s τ d h = ap (λ (l : List ℕ). replicate (s - 1) (key_bits z) ++ (replicate (s - 1) 64 ++ l)) h
