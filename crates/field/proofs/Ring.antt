-- At every width the elements are a commutative ring.
use mathlib.Core.Path.{◌≡◌, refl, sym, ap, ap₂, ◌∙◌}
use Prim.Native.Nat.{ℕ, zero, suc, ◌+◌, ◌*◌, ◌/◌, ◌%◌, ◌^◌, ◌<◌}
use native.Mathlib.Nat.{div-eq_of_lt, mod-eq_of_lt, one-mul, zero-mul}
use native.Mathlib.Omega.{arith}
use lib.Dec.{lit<}
use lib.Pow.{pow_pos, pow-lt, high, low}
use Rattle.xor.specs.Xor.{◌⊕◌}
use Rattle.xor.proofs.Xor.{⊕-zero, zero_⊕}
use Rattle.xor.proofs.Sum.{additive_below}
use Rattle.xor.proofs.Basis.{agree}
use Rattle.field.specs.Mul.{reduction, double, double_and_add, mul, Ring}
use Rattle.field.specs.Loop.{doubled}
use Rattle.field.proofs.Bilinear.{double_add, double_lt, double_and_add_double, double_and_add_zero, mul_lt, mul_⊕, ⊕-mul}

pub ring_4 : Ring 4
unfolding reduction
ring_4 = record { wide = lit< tt; reduces = lit< tt }

pub ring_6 : Ring 6
unfolding reduction
ring_6 = record { wide = lit< tt; reduces = lit< tt }

pub ring_8 : Ring 8
unfolding reduction
ring_8 = record { wide = lit< tt; reduces = lit< tt }

pub doubled_double : (n k a : ℕ) → doubled n k (double n a) ≡ double n (doubled n k a)
unfolding doubled
doubled_double n zero a = refl
doubled_double n (suc k) a = doubled_double n k (double n a)

doubled_doubled : (n j k a : ℕ) → doubled n j (doubled n k a) ≡ doubled n k (doubled n j a)
unfolding doubled
doubled_doubled n zero k a = refl
doubled_doubled n (suc j) k a = ap (doubled n j) (sym (doubled_double n k a)) ∙ doubled_doubled n j k (double n a)

-- ---- the factor 2 ^ i is i doublings

double_steps : (n k a i : ℕ) → i < k → double_and_add (double n) k a (2 ^ i) ≡ doubled n i a
unfolding double_and_add doubled
double_steps n zero a i h = absurd (omega arith)
double_steps n (suc k) a zero h = ap₂ (λ (x y : ℕ). x ⊕ y) (one-mul a) (double_and_add_zero (double n) k (double n a)) ∙ ⊕-zero a
double_steps n (suc k) a (suc i) h =
    let even : 2 ^ suc i % 2 ≡ 0 = omega arith in
    let half : 2 ^ suc i / 2 ≡ 2 ^ i = omega arith in
    ap₂ (λ (x y : ℕ). x * a ⊕ double_and_add (double n) k (double n a) y) even half
    ∙ ap (λ (x : ℕ). x ⊕ double_and_add (double n) k (double n a) (2 ^ i)) (zero-mul a)
    ∙ zero_⊕ (double_and_add (double n) k (double n a) (2 ^ i))
    ∙ double_steps n k (double n a) i (omega arith)

pub mul_doubled : (n a i : ℕ) → i < n → mul n a (2 ^ i) ≡ doubled n i a
unfolding mul
mul_doubled n a i h = double_steps n n a i h

-- below the width, 2 ^ i doubled is the next power of two
pub double_next : (n i : ℕ) → suc i < n → double n (2 ^ i) ≡ 2 ^ suc i
unfolding double
double_next n i h =
    let next : 2 * 2 ^ i ≡ 2 ^ suc i = omega arith in
    ap (λ (x : ℕ). x % 2 ^ n ⊕ x / 2 ^ n % 2 * reduction n) next
    ∙ ap₂ (λ (x y : ℕ). x ⊕ y % 2 * reduction n) (mod-eq_of_lt (pow-lt h)) (div-eq_of_lt (pow-lt h))
    ∙ ap (λ (x : ℕ). 2 ^ suc i ⊕ x) (zero-mul (reduction n))
    ∙ ⊕-zero (2 ^ suc i)

-- and at the width it is reduced
pub double_last : (m : ℕ) → double (suc m) (2 ^ m) ≡ reduction (suc m)
unfolding double
double_last m =
    let next : 2 * 2 ^ m ≡ 1 * 2 ^ suc m + 0 = omega arith in
    ap (λ (x : ℕ). x % 2 ^ suc m ⊕ x / 2 ^ suc m % 2 * reduction (suc m)) next
    ∙ ap₂ (λ (x y : ℕ). x ⊕ y % 2 * reduction (suc m)) (low 1 (suc m) (pow_pos (suc m))) (high 1 (suc m) (pow_pos (suc m)))
    ∙ zero_⊕ (1 * reduction (suc m))
    ∙ one-mul (reduction (suc m))

pub doubled_one : (n i : ℕ) → i < n → doubled n i 1 ≡ 2 ^ i
unfolding doubled
doubled_one n zero h = refl
doubled_one n (suc i) h = doubled_double n i 1 ∙ ap (double n) (doubled_one n i (omega arith)) ∙ double_next n i h

-- ---- the product commutes: it does so at powers of two, and is additive

powers_commute : (n i j : ℕ) → i < n → j < n → mul n (2 ^ i) (2 ^ j) ≡ mul n (2 ^ j) (2 ^ i)
powers_commute n i j hi hj =
    mul_doubled n (2 ^ i) j hj ∙ ap (doubled n j) (sym (doubled_one n i hi)) ∙ doubled_doubled n j i 1
    ∙ ap (doubled n i) (doubled_one n j hj) ∙ sym (mul_doubled n (2 ^ j) i hi)

pub mul_comm : (n a b : ℕ) → a < 2 ^ n → b < 2 ^ n → mul n a b ≡ mul n b a
mul_comm n a b ha hb =
    agree n (mul n a) (λ x. mul n x a) (additive_below n (mul n a) (mul_⊕ n a)) (additive_below n (λ x. mul n x a) (λ x y. ⊕-mul n x y a))
    (λ j hj. agree n (λ x. mul n x (2 ^ j)) (mul n (2 ^ j))
    (additive_below n (λ x. mul n x (2 ^ j)) (λ x y. ⊕-mul n x y (2 ^ j))) (additive_below n (mul n (2 ^ j)) (mul_⊕ n (2 ^ j)))
    (λ i hi. powers_commute n i j hi hj) a ha)
    b hb

-- a factor doubled doubles the product
pub mul_double_left : (n a b : ℕ) → mul n (double n a) b ≡ double n (mul n a b)
unfolding mul
mul_double_left n a b = double_and_add_double (double n) (double_add n) n a b

module _ {n : ℕ} (ring : Ring n) where
  pub mul_double_right : (a b : ℕ) → a < 2 ^ n → b < 2 ^ n → mul n a (double n b) ≡ double n (mul n a b)
  mul_double_right a b ha hb =
      mul_comm n a (double n b) ha (double_lt n ring.reduces b) ∙ mul_double_left n b a ∙ ap (double n) (mul_comm n b a hb ha)

  mul_doubled_right : (k a b : ℕ) → a < 2 ^ n → b < 2 ^ n → mul n a (doubled n k b) ≡ doubled n k (mul n a b)
  unfolding doubled
  mul_doubled_right zero a b ha hb = refl
  mul_doubled_right (suc k) a b ha hb =
      mul_doubled_right k a (double n b) ha (double_lt n ring.reduces b) ∙ ap (doubled n k) (mul_double_right a b ha hb)

  pub mul_assoc : (a b c : ℕ) → a < 2 ^ n → b < 2 ^ n → c < 2 ^ n → mul n (mul n a b) c ≡ mul n a (mul n b c)
  mul_assoc a b c ha hb hc =
      agree n (mul n (mul n a b)) (λ x. mul n a (mul n b x))
      (additive_below n (mul n (mul n a b)) (mul_⊕ n (mul n a b)))
      (λ x y hx hy. ap (mul n a) (mul_⊕ n b x y) ∙ mul_⊕ n a (mul n b x) (mul n b y))
      (λ k hk. mul_doubled n (mul n a b) k hk ∙ sym (mul_doubled_right k a b ha hb) ∙ ap (mul n a) (sym (mul_doubled n b k hk)))
      c hc

  pub mul_left_comm : (a b c : ℕ) → a < 2 ^ n → b < 2 ^ n → c < 2 ^ n → mul n a (mul n b c) ≡ mul n b (mul n a c)
  mul_left_comm a b c ha hb hc = sym (mul_assoc a b c ha hb hc) ∙ ap (λ (x : ℕ). mul n x c) (mul_comm n a b ha hb) ∙ mul_assoc b a c hb ha hc

  pub mul_small : (a b : ℕ) → a < 2 ^ n → mul n a b < 2 ^ n
  mul_small a b h = mul_lt n ring.reduces b h

  -- ---- one, and y

  pub one_lt : 1 < 2 ^ n
  one_lt = pow-lt {i = 0} {j = n} (omega (arith, ring.wide))

  pub two_lt : 2 < 2 ^ n
  two_lt = pow-lt {i = 1} {j = n} ring.wide

  pub mul_one : (a : ℕ) → mul n a 1 ≡ a
  unfolding doubled
  mul_one a = mul_doubled n a 0 (omega (arith, ring.wide))

  pub mul_one_left : (a : ℕ) → a < 2 ^ n → mul n 1 a ≡ a
  mul_one_left a h = mul_comm n 1 a one_lt h ∙ mul_one a

  -- the product with y is the double
  pub mul_y : (a : ℕ) → mul n a 2 ≡ double n a
  unfolding doubled
  mul_y a = mul_doubled n a 1 ring.wide
