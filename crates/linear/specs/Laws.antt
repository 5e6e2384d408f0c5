-- For proofs only. The two fields of the entries and the two shapes meet their laws. The proofs stand here, since the ghost members of an impl may
-- cite only specs/.
use mathlib.Core.Bool.{true}
use mathlib.Core.List.{List}
use mathlib.Core.Logic.{◌⊎◌, inl, inr}
use mathlib.Core.Path.{◌≡◌, refl, ap, ap₂, ◌∙◌}
use Prim.Native.Nat.{ℕ, zero, suc, ◌+◌, ◌*◌, ◌/◌, ◌%◌, ◌^◌, ◌<◌}
use native.Mathlib.Decide.{ℕ_discrete}
use native.Mathlib.Nat.{le_refl, zero-div, zero-mod, mul-zero, mul-one, mul_comm, mul_assoc}
use native.Mathlib.Omega.{arith}
use lib.ListN.{get_or, replicate}
use borrow.Author.Tests.{ne_eqb}
use Rattle.std.proofs.lemmas.Bool.{eqb-true}
use Rattle.xor.specs.Xor.{◌⊕◌}
use Rattle.xor.proofs.Xor.{⊕-assoc, ⊕-comm, ⊕-zero, ⊕-self, ⊕-lt, bit_cases}
use Rattle.field.specs.Mul.{Narrow}
use Rattle.field.specs.Power.{Field}
use Rattle.field.proofs.Bilinear as bilinear
use Rattle.field.proofs.Bilinear.{mul_⊕, mul_zero}
use Rattle.field.proofs.Ring.{mul_comm as product_comm, mul_assoc as product_assoc, mul_one, one_lt, mul_small}
use Rattle.field.proofs.Inverses.{field_of, inverse_small}
use Rattle.field.proofs.Turns.{narrow_width}
use Rattle.linear.specs.Bits.{bit, bits}
use Rattle.linear.specs.Packed.{bit_cell, bits_of}
use Rattle.linear.specs.Scalars.{ScalarLaws, scalars}
use Rattle.linear.specs.Shape.{ShapeLaws, bit_shape, element_shape, narrow}
use Rattle.linear.specs.System.{Elements}

-- ---- the elements of a width

pub scalar_laws : {n : ℕ} → Field n → ScalarLaws (scalars n)
scalar_laws {n} f =
    let r = f.ring in
    record {
      one_below = one_lt r;
      add_below = λ h g. ⊕-lt n h g;
      mul_below = λ {a} {b} h g. mul_small r a b h;
      inv_below = λ {a} h. inverse_small f a h;
      add_zero = ⊕-zero;
      add_self = ⊕-self;
      add_comm = ⊕-comm;
      add_assoc = ⊕-assoc;
      mul_comm = λ {a} {b} h g. product_comm n a b h g;
      mul_assoc = λ {a} {b} {c} ha hb hc. product_assoc r a b c ha hb hc;
      mul_add = λ {a} {b} {c} ha hb hc. mul_⊕ n a b c;
      mul_one = λ {a} h. mul_one r a;
      mul_zero = λ {a} h. mul_zero n a;
      mul_inv = λ {a} h nz. f.inverts a (omega (arith, nz)) h;
    }

-- the widths that the code solves at
pub laws_of : {n : ℕ} → Narrow n → ScalarLaws (scalars n)
laws_of {n} w = scalar_laws (field_of n (narrow_width n w))

-- ---- bits

pub bit_lt : (i a : ℕ) → bit i a < 2
unfolding bit
bit_lt i a = bilinear.odd_lt (a / 2 ^ i)

pub bit_zero : (i : ℕ) → bit i 0 ≡ 0
unfolding bit
bit_zero i = ap (λ (x : ℕ). x % 2) (zero-div (2 ^ i)) ∙ zero-mod 2

pub bit_laws : ScalarLaws bits
bit_laws = record {
  one_below = le_refl 2;
  add_below = λ h g. ⊕-lt 1 h g;
  mul_below = λ {a} {b} h g. bilinear.bit_lt 1 a b h g;
  inv_below = λ h. h;
  add_zero = ⊕-zero;
  add_self = ⊕-self;
  add_comm = ⊕-comm;
  add_assoc = ⊕-assoc;
  mul_comm = λ {a} {b} h g. mul_comm a b;
  mul_assoc = λ {a} {b} {c} ha hb hc. mul_assoc a b c;
  mul_add = λ {a} {b} {c} ha hb hc. mul_comm a (b ⊕ c) ∙ bilinear.⊕-bit b c a hb hc ∙ ap₂ ◌⊕◌ (mul_comm b a) (mul_comm c a);
  mul_one = λ {a} h. mul-one a;
  mul_zero = λ {a} h. mul-zero a;
  mul_inv = λ {a} h nz. unit (bit_cases a h) nz;
}
  where
    unit : {a : ℕ} → (a ≡ 0) ⊎ (a ≡ 1) → (a ≡ 0 → ⊥) → a * a ≡ 1
    unit {a} (inl e) nz = absurd (nz e)
    unit {a} (inr e) nz = rw e refl

-- bits are elements
pub cell_elements : (s : ℕ) (l : List ℕ) (m w : ℕ) → Elements bits m w (bit_cell s l)
cell_elements s l m w = record { at = λ i h. record { at = λ k g. bit_lt ((i * (s * 8) + k) % 8) (get_or l ((i * (s * 8) + k) / 8) 0) } }

-- ---- a buffer of zeros

pub zeros_at : (k j : ℕ) → ◌≡◌ {A = ℕ} (get_or (replicate k 0) j 0) 0
zeros_at zero j = refl
zeros_at (suc k) zero = refl
zeros_at (suc k) (suc j) = zeros_at k j

pub zero_bits : (n k : ℕ) {l : List ℕ} → l ≡ replicate k 0 → (c : ℕ) → bits_of n l c ≡ 0
zero_bits n k e c = ap (λ (t : List ℕ). bits_of n t c) e ∙ ap (bit (c % n)) (zeros_at k (c / n)) ∙ bit_zero (c % n)

-- ---- the shapes

-- the widths are those of the field's product
pub is_narrow : (n : ℕ) → narrow n ≡ true → Narrow n
is_narrow n h = elim (ℕ_discrete n 4) [ yes e ↦ inl e | no f ↦ inr (eqb-true n 6 (rw (ne_eqb n 4 f) at h)) ]

pub element_laws : {n : ℕ} (m u : ℕ) → narrow n ≡ true → ShapeLaws (element_shape n m u)
element_laws {n} m u h = record { field = laws_of (is_narrow n h); right_side = omega arith; bytes = omega arith; none = zeros_at }

pub bit_shape_laws : {s u : ℕ} (n m : ℕ) → u < s * 8 → ShapeLaws (bit_shape s n m u)
bit_shape_laws n m h = record { field = bit_laws; right_side = h; bytes = omega arith; none = λ k c. zero_bits n k refl c }
