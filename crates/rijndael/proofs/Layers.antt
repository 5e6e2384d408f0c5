-- The transformations of AES are linear layers.
use mathlib.Core.Path.{◌≡◌, refl, ap, ap₂}
use Prim.Native.Nat.{ℕ, ◌+◌, ◌-◌, ◌*◌, ◌/◌, ◌%◌, ◌≤◌, ◌<◌}
use native.Mathlib.Omega.{arith}
use lib.Dec.{lit<}
use Rattle.xor.specs.Xor.{◌⊕◌}
use Rattle.xor.proofs.Xor.{⊕-lt, ⊕-exchange, xor}
use Rattle.field.specs.Mul.{mul}
use Rattle.field.proofs.Bilinear.{mul_⊕}
use Rattle.field.proofs.Ring.{ring_8, mul_small}
use Rattle.rijndael.specs.Strings.{take_at}
use Rattle.rijndael.specs.LinearLayers.{LinearLayer}
use Rattle.rijndael.specs.Rijndael.{shift_byte, mix_byte, key_byte, rot_byte, word_byte}

-- a byte of one string
moves : (l n : ℕ) (g : ℕ → ℕ) → ((j : ℕ) → j < n → g j < l) → LinearLayer l 0 n (λ x y j. x (g j))
moves l n g h =
    record {
      local = λ x x' y y' ex ey j k. ex (g j) (h j k);
      small = λ x y hx hy j. hx (g j);
      additive = λ x x' y y' hx hx' hy hy' j. refl;
    }

pub shift_linear : LinearLayer 16 0 16 shift_byte
unfolding shift_byte
shift_linear = moves 16 16 (λ j. j % 4 + 4 * ((j / 4 + j % 4) % 4)) (λ j k. omega arith)

pub rot_linear : (r : ℕ) → 1 ≤ r → r < 11 → LinearLayer 176 0 4 (rot_byte r)
unfolding rot_byte
rot_linear r h l = moves 176 4 (λ j. 16 * r - 4 + (j + 1) % 4) (λ j k. omega arith)

pub take_linear : (m n at : ℕ) → at + n ≤ m → LinearLayer m 0 n (take_at at)
unfolding take_at
take_linear m n at l = moves m n (λ k. at + k) (λ k h. omega arith)

-- the sum of a byte of one string and one of another
sums : (l m n : ℕ) (g h : ℕ → ℕ) → ((j : ℕ) → j < n → g j < l) → ((j : ℕ) → j < n → h j < m) → LinearLayer l m n (λ x y j. x (g j) ⊕ y (h j))
sums l m n g h p q =
    record {
      local = λ x x' y y' ex ey j k. ap₂ ◌⊕◌ (ex (g j) (p j k)) (ey (h j) (q j k));
      small = λ x y hx hy j. ⊕-lt 8 (hx (g j)) (hy (h j));
      additive = λ x x' y y' hx hx' hy hy' j. ⊕-exchange (x (g j)) (x' (g j)) (y (h j)) (y' (h j));
    }

pub key_linear : (r : ℕ) → r < 11 → LinearLayer 16 176 16 (key_byte r)
unfolding key_byte
key_linear r l = sums 16 176 16 (λ j. j) (λ j. 16 * r + j) (λ j k. k) (λ j k. omega arith)

pub word_linear : (i : ℕ) → i < 44 → LinearLayer 176 4 4 (word_byte i)
unfolding word_byte
word_linear i l = sums 176 4 4 (λ j. 4 * i - 16 + j) (λ j. j) (λ j k. omega arith) (λ j k. k)

pub mix_linear : LinearLayer 16 0 16 mix_byte
unfolding mix_byte
mix_linear =
    record {
      local = λ x x' y y' ex ey j k. ap₂ ◌⊕◌ (ap₂ ◌⊕◌ (ap₂ ◌⊕◌
          (ap (mul 8 2) (ex (j / 4 * 4 + j % 4) (omega arith)))
          (ap (mul 8 3) (ex (j / 4 * 4 + (j + 1) % 4) (omega arith))))
          (ex (j / 4 * 4 + (j + 2) % 4) (omega arith)))
          (ex (j / 4 * 4 + (j + 3) % 4) (omega arith));
      small = λ x y hx hy j. ⊕-lt 8 (⊕-lt 8 (⊕-lt 8 (mul_small ring_8 2 _ (lit< tt)) (mul_small ring_8 3 _ (lit< tt))) (hx _)) (hx _);
      additive = λ x x' y y' hx hx' hy hy' j. regroup (x _) (x' _) (x _) (x' _) (x _) (x' _) (x _) (x' _);
    }
  where
    regroup : (a a' b b' c c' d d' : ℕ)
        → mul 8 2 (a ⊕ a') ⊕ mul 8 3 (b ⊕ b') ⊕ (c ⊕ c') ⊕ (d ⊕ d') ≡ mul 8 2 a ⊕ mul 8 3 b ⊕ c ⊕ d ⊕ (mul 8 2 a' ⊕ mul 8 3 b' ⊕ c' ⊕ d')
    regroup a a' b b' c c' d d' = simp (mul_⊕, xor)
