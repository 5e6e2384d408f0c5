-- The product is the one remainder of the product of polynomials by the modulus.
use mathlib.Core.Path.{◌≡◌, refl, sym, ap, ap₂, ◌∙◌, subst}
use mathlib.Core.Logic.{◌⊎◌, inl, inr}
use Prim.Native.Nat.{ℕ, zero, suc, ◌+◌, ◌*◌, ◌/◌, ◌%◌, ◌^◌, ◌≤◌, ◌<◌}
use native.Mathlib.Nat.{mod-lt, div-eq_of_lt, one-mul, zero-mul, mul-one, suc-add, add-suc, lt_of_lt_of_le, add_comm}
use native.Mathlib.Omega.{arith}
use lib.Arith.{lt-one}
use lib.Pow.{pow_pos, pow_mono, high, shr-shr, shl-shr}
use Rattle.xor.specs.Xor.{◌⊕◌}
use Rattle.xor.proofs.Xor.{bit_cases, ⊕-zero, zero_⊕, ⊕-cancel, ⊕-lt, ⊕-equal, ⊕-shr, ⊕-twice, top_bit, xor}
use Rattle.xor.proofs.Sum.{additive_zero}
use Rattle.xor.proofs.Basis.{bit_of_lem, with_bit, without_bit}
use Rattle.field.specs.Mul.{reduction, modulus, double, double_and_add, mul, plain_mul}
use Rattle.field.proofs.Bilinear.{odd_lt, bit_lt, double_lt, double_and_add_left, double_and_add_right, double_and_add_zero, double_and_add_so_far, mul_lt}

-- ---- the product of polynomials is bilinear

plain_mul_⊕ : (k a b c : ℕ) → plain_mul k a (b ⊕ c) ≡ plain_mul k a b ⊕ plain_mul k a c
unfolding plain_mul
plain_mul_⊕ k a b c = double_and_add_right (λ x. 2 * x) k a b c

⊕-plainMul : (k a b c : ℕ) → plain_mul k (a ⊕ b) c ≡ plain_mul k a c ⊕ plain_mul k b c
unfolding plain_mul
⊕-plainMul k a b c = double_and_add_left (λ x. 2 * x) ⊕-twice k c a b

plain_mul_zero : (k a : ℕ) → plain_mul k a 0 ≡ 0
plain_mul_zero k a = additive_zero (plain_mul k a) (plain_mul_⊕ k a)

plain_mul_so_far : (k m a b : ℕ) → k ≤ m → plain_mul k a b ≡ plain_mul m a (b % 2 ^ k)
unfolding plain_mul
plain_mul_so_far k m a b h = double_and_add_so_far (λ x. 2 * x) k m a b h

-- a bit moves from one factor to the other
plain_mul_bit : (k c m b : ℕ) → c < 2 → plain_mul k (c * m) b ≡ plain_mul k m (c * b)
plain_mul_bit k c m b hc = go (bit_cases c hc)
  where
    go : (c ≡ 0) ⊎ (c ≡ 1) → plain_mul k (c * m) b ≡ plain_mul k m (c * b)
    go (inl p) =
        rw (p, zero-mul m, zero-mul b) (additive_zero (λ x. plain_mul k x b) (λ x y. ⊕-plainMul k x y b) ∙ sym (plain_mul_zero k m))
    go (inr p) = rw (p, one-mul m, one-mul b) refl

-- ---- each doubling takes away the modulus or nothing

-- the bit that doubling a carries out
carry : ℕ → ℕ → ℕ
carry n a = 2 * a / 2 ^ n % 2

carry_lt : (n a : ℕ) → carry n a < 2
unfolding carry
carry_lt n a = odd_lt (2 * a / 2 ^ n)

twice_is : (n a : ℕ) → reduction n < 2 ^ n → a < 2 ^ n → 2 * a ≡ double n a ⊕ carry n a * modulus n
unfolding double carry modulus
twice_is n a hr h = go (bit_of_lem n (2 * a) (omega arith))
  where
    go : (2 * a / 2 ^ n ≡ 0) ⊎ (2 * a / 2 ^ n ≡ 1)
        → 2 * a ≡ (2 * a % 2 ^ n ⊕ 2 * a / 2 ^ n % 2 * reduction n) ⊕ 2 * a / 2 ^ n % 2 * (2 ^ n + reduction n)
    go (inl p) =
        rw (p, zero-mul (reduction n), zero-mul (2 ^ n + reduction n)) (without_bit n (2 * a) p ∙ simp xor)
    go (inr p) =
        rw (p, one-mul (reduction n), one-mul (2 ^ n + reduction n), top_bit n (reduction n) hr) (with_bit n (2 * a) p ∙ regroup (2 ^ n) (2 * a % 2 ^ n) (reduction n))
      where
        regroup : (t l r : ℕ) → t ⊕ l ≡ (l ⊕ r) ⊕ (t ⊕ r)
        regroup t l r = simp xor

-- the multiple of the modulus that is taken away in all, when a is multiplied by k bits
quotient : ℕ → ℕ → ℕ → ℕ → ℕ
quotient n zero a b = 0
quotient n (suc k) a b = quotient n k (double n a) (b / 2) ⊕ carry n a * (b / 2) % 2 ^ k

reduce_to : (n m k a b : ℕ) → reduction n < 2 ^ n → a < 2 ^ n → k ≤ m
    → plain_mul k a b ≡ double_and_add (double n) k a b ⊕ plain_mul m (modulus n) (quotient n k a b)
unfolding double_and_add plain_mul quotient
reduce_to n m zero a b hr h l = sym (zero_⊕ (plain_mul m (modulus n) 0) ∙ plain_mul_zero m (modulus n))
reduce_to n m (suc k) a b hr h l =
    ap (λ (x : ℕ). b % 2 * a ⊕ x)
    (shift ∙ ap₂ (λ (x y : ℕ). x ⊕ y) (reduce_to n m k (double n a) (b / 2) hr (double_lt n hr a) (omega arith)) rest)
    ∙ regroup (b % 2 * a) (double_and_add (double n) k (double n a) (b / 2)) (plain_mul m (modulus n) (quotient n k (double n a) (b / 2)))
    (plain_mul m (modulus n) (carry n a * (b / 2) % 2 ^ k))
    ∙ ap (λ (x : ℕ). (b % 2 * a ⊕ double_and_add (double n) k (double n a) (b / 2)) ⊕ x)
    (sym (plain_mul_⊕ m (modulus n) (quotient n k (double n a) (b / 2)) (carry n a * (b / 2) % 2 ^ k)))
  where
    shift : plain_mul k (2 * a) (b / 2) ≡ plain_mul k (double n a) (b / 2) ⊕ plain_mul k (carry n a * modulus n) (b / 2)
    shift = ap (λ (x : ℕ). plain_mul k x (b / 2)) (twice_is n a hr h) ∙ ⊕-plainMul k (double n a) (carry n a * modulus n) (b / 2)

    rest : plain_mul k (carry n a * modulus n) (b / 2) ≡ plain_mul m (modulus n) (carry n a * (b / 2) % 2 ^ k)
    rest =
        plain_mul_bit k (carry n a) (modulus n) (b / 2) (carry_lt n a)
        ∙ plain_mul_so_far k m (modulus n) (carry n a * (b / 2)) (omega arith)

    regroup : (p q r s : ℕ) → p ⊕ ((q ⊕ r) ⊕ s) ≡ (p ⊕ q) ⊕ (r ⊕ s)
    regroup p q r s = simp xor

-- the product differs from the product of polynomials by a multiple of the modulus
pub remainder : (n : ℕ) → reduction n < 2 ^ n → (a b : ℕ) → a < 2 ^ n
    → (q : ℕ) × (plain_mul n a b ≡ mul n a b ⊕ plain_mul n (modulus n) q)
unfolding mul
remainder n hr a b h = (quotient n n a b, reduce_to n n n a b hr h (omega arith))

-- ---- a multiple of the modulus, but for 0, has a bit from n on

-- the product with y ^ i is a shift
plain_mul_power : (k a i : ℕ) → i < k → plain_mul k a (2 ^ i) ≡ a * 2 ^ i
unfolding plain_mul double_and_add
plain_mul_power zero a i h = absurd (omega arith)
plain_mul_power (suc k) a zero h =
    ap₂ (λ (x y : ℕ). x ⊕ y) (one-mul a) (double_and_add_zero (λ x. 2 * x) k (2 * a)) ∙ ⊕-zero a ∙ sym (mul-one a)
plain_mul_power (suc k) a (suc i) h =
    let even : 2 ^ suc i % 2 ≡ 0 = omega arith in
    let half : 2 ^ suc i / 2 ≡ 2 ^ i = omega arith in
    ap₂ (λ (x y : ℕ). x * a ⊕ double_and_add (λ x. 2 * x) k (2 * a) y) even half
    ∙ ap (λ (x : ℕ). x ⊕ double_and_add (λ x. 2 * x) k (2 * a) (2 ^ i)) (zero-mul a)
    ∙ zero_⊕ (double_and_add (λ x. 2 * x) k (2 * a) (2 ^ i)) ∙ plain_mul_power k (2 * a) i (omega arith) ∙ out
  where
    shuffle : (p q : ℕ) → p * (2 * q) ≡ 2 * p * q
    shuffle p q = omega arith

    next : 2 ^ suc i ≡ 2 * 2 ^ i
    next = omega arith

    out : 2 * a * 2 ^ i ≡ a * 2 ^ suc i
    out = sym (ap (λ (x : ℕ). a * x) next ∙ shuffle a (2 ^ i))

-- degrees add: a of degree at most m, times k bits, has degree below m + k
plain_mul_lt : (k m a b : ℕ) → a < 2 ^ suc m → plain_mul k a b < 2 ^ (m + k)
unfolding plain_mul double_and_add
plain_mul_lt zero m a b h = pow_pos (m + 0)
plain_mul_lt (suc k) m a b h =
    ⊕-lt (m + suc k) (bit_lt (m + suc k) (b % 2) a (odd_lt b) (lt_of_lt_of_le h (pow_mono (omega arith))))
    (subst (λ (e : ℕ). double_and_add (λ x. 2 * x) k (2 * a) (b / 2) < 2 ^ e) (suc-add m k ∙ sym (add-suc m k)) (plain_mul_lt k (suc m) (2 * a) (b / 2) (omega arith)))

module _ (n : ℕ) (hr : reduction n < 2 ^ n) where
  -- the modulus has degree n
  modulus_top : modulus n / 2 ^ n ≡ 1
  unfolding modulus
  modulus_top = ap (λ (x : ℕ). (x + reduction n) / 2 ^ n) (sym (one-mul (2 ^ n))) ∙ high 1 n hr

  modulus_lt : modulus n < 2 ^ suc n
  unfolding modulus
  modulus_lt = omega arith

  -- times a number of degree k it has degree k + n
  multiple_top : (m k q : ℕ) → k < m → q / 2 ^ k ≡ 1 → plain_mul m (modulus n) q / 2 ^ (k + n) ≡ 1
  multiple_top m k q l e =
      ap (λ (x : ℕ). plain_mul m (modulus n) x / 2 ^ (k + n)) (with_bit k q e)
      ∙ ap (λ (x : ℕ). x / 2 ^ (k + n)) (plain_mul_⊕ m (modulus n) (2 ^ k) (q % 2 ^ k))
      ∙ ⊕-shr (plain_mul m (modulus n) (2 ^ k)) (plain_mul m (modulus n) (q % 2 ^ k)) (k + n)
      ∙ ap₂ (λ (x y : ℕ). x ⊕ y) upper lower
      ∙ ⊕-zero 1
    where
      upper : plain_mul m (modulus n) (2 ^ k) / 2 ^ (k + n) ≡ 1
      upper =
          ap (λ (x : ℕ). x / 2 ^ (k + n)) (plain_mul_power m (modulus n) k l) ∙ sym (shr-shr (modulus n * 2 ^ k) k n)
          ∙ ap (λ (x : ℕ). x / 2 ^ n) (shl-shr (modulus n) k) ∙ modulus_top

      lower : plain_mul m (modulus n) (q % 2 ^ k) / 2 ^ (k + n) ≡ 0
      lower =
          ap (λ (x : ℕ). x / 2 ^ (k + n)) (sym (plain_mul_so_far k m (modulus n) q (omega arith)))
          ∙ div-eq_of_lt (subst (λ (e : ℕ). plain_mul k (modulus n) q < 2 ^ e) (add_comm n k) (plain_mul_lt k n (modulus n) q modulus_lt))

  -- so only the multiple by 0 is below 2 ^ n
  multiple_zero : (m k q : ℕ) → k ≤ m → q < 2 ^ k → plain_mul m (modulus n) q < 2 ^ n → q ≡ 0
  multiple_zero m zero q l h s = lt-one h
  multiple_zero m (suc k) q l h s = go (bit_of_lem k q h) (λ small. multiple_zero m k q (omega arith) small s)
    where
      go : (q / 2 ^ k ≡ 0) ⊎ (q / 2 ^ k ≡ 1) → (q < 2 ^ k → q ≡ 0) → q ≡ 0
      go (inl e) ih = ih (subst (λ (x : ℕ). x < 2 ^ k) (sym (without_bit k q e)) (mod-lt q (pow_pos k)))
      go (inr e) ih =
          let clash : ◌≡◌ {A = ℕ} 1 0 = sym (multiple_top m k q l e) ∙ div-eq_of_lt (lt_of_lt_of_le s (pow_mono (omega arith))) in
          absurd (omega arith)

  -- no other element differs from the product of polynomials by a multiple of the modulus
  pub remainder_unique : (a b r q : ℕ) → a < 2 ^ n → r < 2 ^ n → plain_mul n a b ≡ r ⊕ plain_mul n (modulus n) q → r ≡ mul n a b
  remainder_unique a b r q ha h e = ⊕-equal r (mul n a b) (sum ∙ ap (plain_mul n (modulus n)) none ∙ plain_mul_zero n (modulus n))
    where
      found : (q : ℕ) × (plain_mul n a b ≡ mul n a b ⊕ plain_mul n (modulus n) q)
      found = remainder n hr a b ha

      -- the difference of the two multiples, by its n low bits
      d : ℕ
      d = (q ⊕ found.0) % 2 ^ n

      regroup : (r s t u x : ℕ) → x ≡ r ⊕ t → x ≡ s ⊕ u → r ⊕ s ≡ t ⊕ u
      regroup r s t u x p q = sym (⊕-cancel x (r ⊕ s)) ∙ ap₂ (λ (y z : ℕ). y ⊕ (z ⊕ (r ⊕ s))) p q ∙ simp xor

      sum : r ⊕ mul n a b ≡ plain_mul n (modulus n) d
      sum =
          regroup r (mul n a b) (plain_mul n (modulus n) q) (plain_mul n (modulus n) found.0) (plain_mul n a b) e found.1
          ∙ sym (plain_mul_⊕ n (modulus n) q found.0)
          ∙ plain_mul_so_far n n (modulus n) (q ⊕ found.0) (omega arith)

      none : d ≡ 0
      none = multiple_zero n n d (omega arith) (mod-lt (q ⊕ found.0) (pow_pos n)) (subst (λ (x : ℕ). x < 2 ^ n) sum (⊕-lt n h (mul_lt n hr b ha)))
