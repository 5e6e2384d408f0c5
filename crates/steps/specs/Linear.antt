-- For proofs only. Linear maps of numbers: what a masked program computes share by share.
use Rattle.std.specs.Prelude.{◌≡◌, ℕ, ◌^◌, ◌<◌}
use Rattle.xor.specs.Xor.{◌⊕◌}
use Rattle.xor.specs.Sum.{AdditiveBelow}

-- f takes numbers below 2 ^ m to numbers below 2 ^ n, and sums to sums
pub record Linear (m n : ℕ) (f : ℕ → ℕ) : Type 0 where
  pub additive : AdditiveBelow m f
  pub small : (x : ℕ) → x < 2 ^ m → f x < 2 ^ n

-- f takes a number below 2 ^ l and one below 2 ^ m to a number below 2 ^ n, and two sums to a sum
pub record LinearPair (l m n : ℕ) (f : ℕ → ℕ → ℕ) : Type 0 where
  pub additive : (x y v w : ℕ) → x < 2 ^ l → y < 2 ^ l → v < 2 ^ m → w < 2 ^ m → f (x ⊕ y) (v ⊕ w) ≡ f x v ⊕ f y w
  pub small : (x v : ℕ) → x < 2 ^ l → v < 2 ^ m → f x v < 2 ^ n
