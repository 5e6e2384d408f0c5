-- The S-box layer, nibble by nibble: it is the sum of what each nibble becomes at its place. So a layer undoes another if it does at each nibble.
use mathlib.Core.Path.{◌≡◌, sym, ap, ◌∙◌}
use Prim.Native.Nat.{ℕ, zero, suc, ◌+◌, ◌-◌, ◌*◌, ◌/◌, ◌%◌, ◌^◌, ◌<◌}
use native.Mathlib.Nat.{mod-one, div-one, zero-add, mul_assoc, div-eq_of_lt, mod-eq_of_lt, mod-lt, add_assoc, add_comm, add-mul-div_right}
use native.Mathlib.Decide.{dec_lt}
use native.Mathlib.Omega.{arith}
use lib.Arith.{digits_lt}
use lib.Bits.{xor_comm, xor_shifted}
use lib.Pow.{pow_pos, pow-add, shr-shr, high, low, mod-pow-add}
use Rattle.xor.specs.Xor.{◌⊕◌}
use Rattle.xor.specs.Sum.{sum_of}
use Rattle.xor.proofs.Sum.{sum_of_same}
use Rattle.steps.specs.Iterate.{turns, iterate}
use Rattle.present.specs.Present.{nibble, replace, on_nibble, sbox_layer}
use Rattle.present.proofs.Numbers.{nibble_lt}

-- a number above k bits, and k bits: a sum without carry
pub ⊕-above : (a k b : ℕ) → b < 2 ^ k → b ⊕ a * 2 ^ k ≡ a * 2 ^ k + b
unfolding ◌⊕◌
⊕-above a k b h = xor_comm b (a * 2 ^ k) ∙ xor_shifted a k b h

-- a nibble more
four_more : (k : ℕ) → 4 * suc k ≡ 4 + 4 * k
four_more k = omega arith

sixteen_more : (k : ℕ) → 2 ^ (4 * suc k) ≡ 16 * 2 ^ (4 * k)
sixteen_more k = ap (λ (n : ℕ). 2 ^ n) (four_more k) ∙ pow-add 2 4 (4 * k)

-- the nibbles below what stands above them
low_nibble : (v j k s : ℕ) → j < k → nibble j (v * 2 ^ (4 * k) + s) ≡ nibble j s
unfolding nibble
low_nibble v j k s l =
    let p = 2 ^ (4 * j) in
    let d = 4 * (k - j - 1) in
    let e : 4 * k ≡ d + 4 + 4 * j = omega arith in
    let shifted : v * 2 ^ (4 * k) + s ≡ s + v * 2 ^ d * 16 * p =
    ap (λ (n : ℕ). v * 2 ^ n + s) e
    ∙ ap (λ (n : ℕ). v * n + s) (pow-add 2 (d + 4) (4 * j) ∙ ap (λ (n : ℕ). n * p) (pow-add 2 d 4))
    ∙ add_comm (v * (2 ^ d * 16 * p)) s
    ∙ ap (λ (n : ℕ). s + n) (sym (mul_assoc v (2 ^ d * 16) p) ∙ ap (λ (n : ℕ). n * p) (sym (mul_assoc v (2 ^ d) 16))) in
    ap (λ (n : ℕ). n / p % 16) shifted ∙ ap (λ (n : ℕ). n % 16) (add-mul-div_right s (v * 2 ^ d * 16) (pow_pos (4 * j))) ∙ omega arith

-- the nibble that stands above
pub top_nibble_lem : (v k s : ℕ) → v < 2 ^ 4 → s < 2 ^ (4 * k) → nibble k (v * 2 ^ (4 * k) + s) ≡ v
unfolding nibble
top_nibble_lem v k s hv hs = ap (λ (a : ℕ). a % 16) (high v (4 * k) hs) ∙ mod-eq_of_lt hv

-- what nibble k of x becomes by f, at its place
unfoldable pub nibble_at : (ℕ → ℕ) → ℕ → ℕ → ℕ
nibble_at f x k = f (nibble k x) * 2 ^ (4 * k)

-- the k lowest nibbles of x, each as it is
pub sum_of_nibbles : (x k : ℕ) → sum_of k (nibble_at (λ v. v) x) ≡ x % 2 ^ (4 * k)
unfolding sum_of nibble_at nibble
sum_of_nibbles x zero = sym (mod-one x)
sum_of_nibbles x (suc k) =
    rw (sum_of_nibbles x k, four_more k, mod-pow-add x 4 (4 * k))
    (⊕-above (x / 2 ^ (4 * k) % 16) (4 * k) (x % 2 ^ (4 * k)) (mod-lt x (pow_pos (4 * k))))

-- a nibble is replaced above m bits
replaced : (h m s v : ℕ) → s < 2 ^ m
    → (h * 2 ^ m + s) / 2 ^ (m + 4) * 2 ^ (m + 4) + v * 2 ^ m + (h * 2 ^ m + s) % 2 ^ m ≡ h / 16 * 2 ^ (m + 4) + (v * 2 ^ m + s)
replaced h m s v l =
    rw (← shr-shr (h * 2 ^ m + s) m 4, high h m l, low h m l) (add_assoc (h / 16 * 2 ^ (m + 4)) (v * 2 ^ m) s)

module _ (f : ℕ → ℕ) (small : (v : ℕ) → f v < 2 ^ 4) where
  pub sum_lt : (x k : ℕ) → sum_of k (nibble_at f x) < 2 ^ (4 * k)
  unfolding sum_of nibble_at
  sum_lt x zero = pow_pos 0
  sum_lt x (suc k) =
      rw (⊕-above (f (nibble k x)) (4 * k) (sum_of k (nibble_at f x)) (sum_lt x k), sixteen_more k) (digits_lt (small (nibble k x)) (sum_lt x k))

  sum_more : (x k : ℕ) → sum_of (suc k) (nibble_at f x) ≡ f (nibble k x) * 2 ^ (4 * k) + sum_of k (nibble_at f x)
  unfolding sum_of nibble_at
  sum_more x k = ⊕-above (f (nibble k x)) (4 * k) (sum_of k (nibble_at f x)) (sum_lt x k)

  -- after k nibbles
  layer_so_far : (x k : ℕ) → turns (on_nibble f) 0 k x ≡ x / 2 ^ (4 * k) * 2 ^ (4 * k) + sum_of k (nibble_at f x)
  unfolding turns on_nibble replace nibble
  layer_so_far x zero = unfold sum_of in omega (arith, div-one x)
  layer_so_far x (suc k) =
      let m = 4 * k in
      let h = x / 2 ^ m in
      let s = sum_of k (nibble_at f x) in
      let l : s < 2 ^ m = sum_lt x k in
      let more : m + 4 ≡ 4 * suc k = omega arith in
      let same : (h * 2 ^ m + s) / 2 ^ m % 16 ≡ h % 16 = ap (λ (a : ℕ). a % 16) (high h m l) in
      rw (zero-add k, layer_so_far x k, same, sum_more x k)
      (replaced h m s (f (h % 16)) l ∙ ap (λ (a : ℕ). a * 2 ^ (m + 4) + (f (h % 16) * 2 ^ m + s)) (shr-shr x m 4)
      ∙ ap (λ (n : ℕ). x / 2 ^ n * 2 ^ n + (f (h % 16) * 2 ^ m + s)) more)

  -- the layer is the sum of what its nibbles become
  pub layer_is_sum : (x : ℕ) → x < 2 ^ 64 → sbox_layer f x ≡ sum_of 16 (nibble_at f x)
  unfolding sbox_layer iterate
  layer_is_sum x h =
      layer_so_far x 16 ∙ ap (λ (a : ℕ). a * 2 ^ 64 + sum_of 16 (nibble_at f x)) (div-eq_of_lt h)
      ∙ zero-add (sum_of 16 (nibble_at f x))

  pub layer_lt : (x : ℕ) → x < 2 ^ 64 → sbox_layer f x < 2 ^ 64
  layer_lt x h = rw (layer_is_sum x h) (sum_lt x 16)

  -- the nibbles of the sum
  nibble_of_sum : (x k j : ℕ) → j < k → nibble j (sum_of k (nibble_at f x)) ≡ f (nibble j x)
  nibble_of_sum x zero j h = absurd (omega arith)
  nibble_of_sum x (suc k) j h = rw (sum_more x k) (go (dec_lt j k) (λ l. nibble_of_sum x k j l))
    where
      go : Dec (j < k) → (j < k → nibble j (sum_of k (nibble_at f x)) ≡ f (nibble j x))
          → nibble j (f (nibble k x) * 2 ^ (4 * k) + sum_of k (nibble_at f x)) ≡ f (nibble j x)
      go (yes l) before = low_nibble (f (nibble k x)) j k (sum_of k (nibble_at f x)) l ∙ before l
      go (no l) before =
          let e : j ≡ k = omega arith in
          rw e (top_nibble_lem (f (nibble k x)) k (sum_of k (nibble_at f x)) (small (nibble k x)) (sum_lt x k))

  pub nibble_of_layer : (x j : ℕ) → x < 2 ^ 64 → j < 16 → nibble j (sbox_layer f x) ≡ f (nibble j x)
  nibble_of_layer x j h l = ap (nibble j) (layer_is_sum x h) ∙ nibble_of_sum x 16 j l

-- a layer undoes another if it does at each nibble
pub layer_undone : (f g : ℕ → ℕ) → ((v : ℕ) → f v < 2 ^ 4) → ((v : ℕ) → g v < 2 ^ 4) → ((v : ℕ) → v < 16 → g (f v) ≡ v)
    → (x : ℕ) → x < 2 ^ 64 → sbox_layer g (sbox_layer f x) ≡ x
unfolding nibble_at
layer_undone f g hf hg e x h =
    layer_is_sum g hg (sbox_layer f x) (layer_lt f hf x h)
    ∙ sum_of_same 16 (λ j l. ap (λ (v : ℕ). v * 2 ^ (4 * j)) (ap g (nibble_of_layer f hf x j h l) ∙ e (nibble j x) (nibble_lt j x)))
    ∙ sum_of_nibbles x 16 ∙ mod-eq_of_lt h
