-- SECRECY OF THE BLOCK, over any program of the S-box that substitutes and hides: what a list of watched steps shows, it shows under equally many
-- choices for any two keys and blocks.
use mathlib.Core.Path.{◌≡◌, ap}
use mathlib.Core.List.{List, ◌++◌}
use Prim.Native.Nat.{ℕ, ◌+◌, ◌-◌, ◌*◌, ◌≤◌, ◌<◌}
use native.Mathlib.Omega.{arith}
use lib.ListN.{replicate}
use Rattle.steps.specs.Program.{Run, draws}
use Rattle.steps.specs.Watch.{different, Misses}
use Rattle.steps.specs.Choices.{Fits, choices}
use Rattle.steps.specs.Shape.{Shape, touches_of, draws_of, Uniform, Shaped}
use Rattle.steps.specs.Coupling.{Coupled}
use Rattle.steps.specs.Sharing.{Sharing, Close}
use Rattle.steps.specs.Bytes.{to_bytes}
use Rattle.steps.specs.TwoSecrets.{split_two_bits}
use Rattle.steps.proofs.TwoSecrets.{two_draws, two_untouched_share, two_few_steps}
use Rattle.rijndael.specs.Strings.{Shared}
use Rattle.rijndael.specs.LinearLayers.{Alike}
use Rattle.rijndael.specs.Rijndael.{encrypt}
use Rattle.rijndael.specs.Masked.{Substitutes, Hides, block_shape}
use Rattle.rijndael.specs.Experiment.{Plain, Secret, encrypt_shares, experiment, choice_bits}
use Rattle.rijndael.proofs.Joined.{encrypt_joins}
use Rattle.rijndael.proofs.Counts.{block_bits}
use Rattle.rijndael.proofs.Coupled.{encrypt_coupled}
use Rattle.rijndael.proofs.Loaded.{shared_bytes, alike_bytes}

module _ (f : ℕ → ℕ) (sbox : List ℕ → Run (List ℕ)) (s : ℕ) (nine : s ≤ 9) (σ : Shape) (good : Substitutes f s σ sbox) where
  -- the block on shares that are numbers: what it ends in, and its shape;
  shares_shaped : 0 < s → (k x : ℕ) (a b : List ℕ) → Sharing 128 s k a → Sharing 128 s x b
      → Shaped (Shared 16 s (encrypt f (to_bytes 16 k) (to_bytes 16 x))) (block_shape s σ) (encrypt_shares sbox s a b)
  shares_shaped some k x a b ha hb =
      encrypt_joins f s nine σ sbox good some (to_bytes 16 k) (to_bytes 16 x) _ _ (shared_bytes 16 nine ha) (shared_bytes 16 nine hb)

  -- it hides share u if the S-box does.
  shares_coupled : (u : ℕ) → Hides u sbox → (a a' b b' : List ℕ) → Close 128 u a a' → Close 128 u b b'
      → Coupled u (Alike 16 u) (encrypt_shares sbox s a b) (encrypt_shares sbox s a' b')
  shares_coupled u hides a a' b b' c d = encrypt_coupled u s nine sbox hides _ _ _ _ (alike_bytes 16 c) (alike_bytes 16 d)

  -- THE CHOICE. The experiment draws the elements of a choice, and no other.
  pub experiment_draws : 0 < s → (x : Plain) → Secret x → (tape : List ℕ) → Fits (choice_bits s σ) tape
      → draws (experiment sbox s x) tape ≡ choice_bits s σ
  unfolding experiment choice_bits
  experiment_draws some x h = two_draws some (shares_shaped some) (x.key, x.block) (h.key_small, h.block_small)

  -- THE UNTOUCHED SHARE. If the S-box hides share u and no step of the list touches share u, then for each list of values equally many choices show
  -- these values at the steps of the list, for any two secrets. The list has any length and order, with repeats.
  pub block_untouched_share : (u : ℕ) → u < s → Hides u sbox
      → (list : List ℕ) → Misses u (touches_of (block_shape s σ)) list
      → (shown : List ℕ) (x y : Plain) → Secret x → Secret y
      → choices (choice_bits s σ) (experiment sbox s x) list shown ≡ choices (choice_bits s σ) (experiment sbox s y) list shown
  unfolding experiment choice_bits
  block_untouched_share u l hides list m shown x y hx hy =
      let some : 0 < s = omega arith in
      two_untouched_share some (shares_shaped some) u l (shares_coupled u hides) list m shown
      (x.key, x.block) (y.key, y.block) (hx.key_small, hx.block_small) (hy.key_small, hy.block_small)

  -- FEW STEPS. If the S-box hides each of the s shares and the list has at most t different numbers, where s is at least 2 t + 1, then for each list
  -- of values equally many choices show these values at the steps of the list, for any two secrets.
  pub block_few_steps : ((u : ℕ) → u < s → Hides u sbox)
      → (t : ℕ) → 2 * t + 1 ≤ s → (list : List ℕ) → different list ≤ t
      → (shown : List ℕ) (x y : Plain) → Secret x → Secret y
      → choices (choice_bits s σ) (experiment sbox s x) list shown ≡ choices (choice_bits s σ) (experiment sbox s y) list shown
  unfolding experiment choice_bits
  block_few_steps hides t h list d shown x y hx hy =
      let some : 0 < s = omega arith in
      two_few_steps some (shares_shaped some) (λ u l. shares_coupled u (hides u l)) t h list d shown
      (x.key, x.block) (y.key, y.block) (hx.key_small, hx.block_small) (hy.key_small, hy.block_small)

-- a choice: s - 1 shares of 128 bits, s - 1 of 128 bits, and the random elements of 8 bits
pub choice_bits_lem : (s : ℕ) (σ : Shape) → Uniform 8 σ
    → choice_bits s σ ≡ replicate (s - 1) 128 ++ (replicate (s - 1) 128 ++ replicate (200 * draws_of σ) 8)
unfolding choice_bits split_two_bits
choice_bits_lem s σ h = ap (λ (l : List ℕ). replicate (s - 1) 128 ++ (replicate (s - 1) 128 ++ l)) (block_bits s σ h)
