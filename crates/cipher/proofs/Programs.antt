-- WHAT A RUN COMES TO, of any masked program of a key and a block that computes f and has given figures: what its shares join to, and what it takes.
use mathlib.Core.Path.{◌≡◌, sym, ap, ◌∙◌}
use mathlib.Core.List.{List}
use Prim.Native.Nat.{ℕ, ◌+◌, ◌-◌, ◌*◌, ◌/◌}
use native.Mathlib.Nat.{mul_assoc}
use native.Mathlib.Omega.{arith}
use lib.ListN.{length, replicate, length-replicate}
use Rattle.xor.specs.Sum.{Small}
use Rattle.steps.specs.Program.{Run, result, draws}
use Rattle.steps.specs.Choices.{Fits}
use Rattle.steps.specs.Shape.{Shape, bits_of, steps_of, products_of}
use Rattle.steps.specs.Sharing.{Sharing}
use Rattle.steps.specs.Tape.{bytes_for, Full}
use Rattle.steps.specs.Call.{Takes}
use Rattle.steps.proofs.Choices.{fits_small}
use Rattle.steps.proofs.Shape.{shaped_result, shaped_draws}
use Rattle.steps.proofs.Call.{takes_shape}
use Rattle.product.proofs.Counts.{pairs_twice}
use Rattle.present.specs.Present.{Size, key_bits}
use Rattle.present.specs.Experiment.{Computes}

-- the figures of a shape: so many masked products, random elements, of 4 bits each, and steps
pub record Figured (τ : Shape) (p d n : ℕ) : Type 0 where
  pub products_are : products_of τ ≡ p
  pub bits_are : bits_of τ ≡ replicate d 4
  pub steps_are : steps_of τ ≡ n

-- on sharings of the key k and the block x, with random elements
module _ (z : Size) {f : ℕ → ℕ → ℕ} {s : ℕ} {τ : Shape} {program : List ℕ → List ℕ → Run (List ℕ)} (computes : Computes f z s τ program)
    {p d n : ℕ} (figured : Figured τ p d n) {k x : ℕ} {ks xs : List ℕ} (key : Sharing (key_bits z) s k ks) (block : Sharing 64 s x xs)
    (random : List ℕ) (elements : Small 4 random) where
  fits : Fits (bits_of τ) random
  fits = rw figured.bits_are (fits_small 4 d random elements)

  -- the result is a sharing of what f gives
  pub run_ends : Sharing 64 s (f k x) (result (program ks xs) random)
  run_ends = shaped_result (computes k x ks xs key block) random fits

  -- what it takes are the figures
  pub run_takes : Takes (program ks xs) random p d n
  run_takes =
      takes_shape (computes k x ks xs key block) random fits figured.products_are (ap length figured.bits_are ∙ length-replicate d 4)
      figured.steps_are

  -- its random elements are of 4 bits each
  pub run_draws : draws (program ks xs) random ≡ replicate d 4
  run_draws = shaped_draws (computes k x ks xs key block) random fits ∙ figured.bits_are

-- ---- the bytes of its random elements, of which m S-boxes draw so many

pairs_even : (m s : ℕ) → m * (s * (s - 1)) ≡ m * (s * (s - 1) / 2) * 2
pairs_even m s = ap (λ (n : ℕ). m * n) (sym (pairs_twice s)) ∙ sym (mul_assoc m (s * (s - 1) / 2) 2)

-- two elements fill each byte,
pub pairs_bytes : (m s : ℕ) → bytes_for 4 (m * (s * (s - 1))) ≡ m * (s * (s - 1) / 2)
unfolding bytes_for
pairs_bytes m s = ap (λ (n : ℕ). (n + 1) / 2) (pairs_even m s) ∙ half (m * (s * (s - 1) / 2))
  where
    half : (k : ℕ) → (k * 2 + 1) / 2 ≡ k
    half k = omega arith

-- and none has room for more
pub pairs_full : (m s : ℕ) → Full 4 (m * (s * (s - 1)))
unfolding bytes_for
pairs_full m s = rw (pairs_even m s) (full (m * (s * (s - 1) / 2)))
  where
    full : (k : ℕ) → (k * 2 + 1 + 1) / 2 ≡ (k * 2 + 1) / 2 + 1
    full k = omega arith
