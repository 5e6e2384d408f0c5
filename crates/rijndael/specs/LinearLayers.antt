-- For proofs only. Linear layers, which a masked program computes share by share, and strings in shares that agree but for one share.
use Rattle.std.specs.Prelude.{◌≡◌, ◌≢◌, List, ℕ, ◌*◌, ◌^◌, ◌<◌, length}
use Rattle.xor.specs.Xor.{◌⊕◌}
use Rattle.xor.specs.Sum.{Small}
use Rattle.rijndael.specs.Strings.{share_byte, Layer, add_byte}

-- each byte is below 256
abbrev pub Bytes : (ℕ → ℕ) → Type 0
Bytes x = (k : ℕ) → x k < 2 ^ 8

-- a layer from l and m bytes to n bytes: it reads no others, keeps bytes, and turns sums into sums
pub record LinearLayer (l m n : ℕ) (f : Layer) : Type 0 where
  pub local : (x x' y y' : ℕ → ℕ) → ((k : ℕ) → k < l → x k ≡ x' k) → ((k : ℕ) → k < m → y k ≡ y' k) → (j : ℕ) → j < n → f x y j ≡ f x' y' j
  pub small : (x y : ℕ → ℕ) → Bytes x → Bytes y → (j : ℕ) → f x y j < 2 ^ 8
  pub additive : (x x' y y' : ℕ → ℕ) → Bytes x → Bytes x' → Bytes y → Bytes y' → (j : ℕ)
      → f (add_byte x x') (add_byte y y') j ≡ f x y j ⊕ f x' y' j

-- two strings of m bytes in shares that agree at every share but u
pub record Alike (m u : ℕ) (a b : List ℕ) : Type 0 where
  pub places : length a ≡ 9 * m
  pub places' : length b ≡ 9 * m
  pub small : Small 8 a
  pub small' : Small 8 b
  pub agree : (i k : ℕ) → i ≢ u → k < m → share_byte m a i k ≡ share_byte m b i k
