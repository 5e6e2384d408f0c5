-- The layouts of the pairs fit together, and their numbers stay small.
use mathlib.Core.Bool.{Bool, true, false, ◌||◌, ◌&&◌, and-eq-true_iff}
use mathlib.Core.Logic.{◌⊎◌, inl, inr}
use mathlib.Core.Path.{◌≡◌, refl, ◌∙◌, ap, sym, subst}
use Prim.Native.Nat.{ℕ, ◌*◌, ◌/◌, ◌≤◌, ◌+◌, ◌-◌, ◌<◌, ◌^◌, suc}
use native.Mathlib.Nat.{mul-le-mul, suc-mul, le_refl}
use native.Mathlib.Omega.{arith}
use lib.Dec.{eqb}
use lib.ListN.{length}
use lib.Pow.{pow_mono, pow_pos}
use borrow.Author.Tests.{eqb-true, eq-eqb, ne_eqb}
use Rattle.field.specs.Mul.{Width, Narrow}
use Rattle.field.proofs.Turns.{narrow_width}
use Rattle.field.specs.Polynomial.{exponents}
use Rattle.field.proofs.Polynomial.{length_exponents_4, length_exponents_6}
use Rattle.field.proofs.Turns.{width_le}
use Rattle.linear.proofs.Buffer.{row_room}
use Rattle.decomposition.specs.Layout.{terms_of, sized, layout, record_size, Sizes, Known, Pair}
use Rattle.decomposition.specs.declared.layouts.Layout.{Layout}

-- ---- the widths

either : (a b : Bool) → (a || b) ≡ true → (a ≡ true) ⊎ (b ≡ true)
either true b h = inl refl
either false b h = inr h

-- what holds at 4 and at 6 holds at each width that has decompositions
pub known_both : (P : ℕ → Type 0) → P 4 → P 6 → (n : ℕ) → Known n → P n
known_both P four six n w = go (either (eqb n 4) (eqb n 6) w)
  where
    go : (eqb n 4 ≡ true) ⊎ (eqb n 6 ≡ true) → P n
    go (inl e) = subst P (sym (eqb-true n 4 e)) four
    go (inr e) = subst P (sym (eqb-true n 6 e)) six

-- one that is not 4 is 6
pub known_6 : (n : ℕ) → Known n → (n ≡ 4 → ⊥) → n ≡ 6
known_6 = known_both (λ n. (n ≡ 4 → ⊥) → n ≡ 6) (λ h. absurd (h refl)) (λ h. refl)

-- each is a width at which the code multiplies, and so one of the field
pub known_narrow : (n : ℕ) → Known n → Narrow n
known_narrow = known_both Narrow (inl refl) (inr refl)

pub known_width : (n : ℕ) → Known n → Width n
known_width n k = narrow_width n (known_narrow n k)

-- ---- the pairs

-- what holds at (4, 4), (6, 6) and (6, 4) holds at each pair
pub each_pair : (P : ℕ → ℕ → Type 0) → P 4 4 → P 6 6 → P 6 4 → (n m : ℕ) → Pair n m → P n m
each_pair P four six mixed n m k = go (either (eqb m n) (eqb n 6 && eqb m 4) k.outputs)
  where
    go : (eqb m n ≡ true) ⊎ ((eqb n 6 && eqb m 4) ≡ true) → P n m
    go (inl e) = rw (eqb-true m n e) (known_both (λ n. P n n) four six n k.width)
    go (inr e) = let x = (and-eq-true_iff (eqb n 6) (eqb m 4)).0 e in rw (eqb-true n 6 x.0, eqb-true m 4 x.1) mixed

-- at width 4 all four bits come out; at width 6 all six or four
pub outputs_4 : (n m : ℕ) → Pair n m → n ≡ 4 → m ≡ 4
outputs_4 = each_pair (λ n m. n ≡ 4 → m ≡ 4) (λ e. refl) (λ e. absurd (omega arith)) (λ e. refl)

pub outputs_6 : (n m : ℕ) → Pair n m → (m ≡ 6 → ⊥) → m ≡ 4
outputs_6 = each_pair (λ n m. (m ≡ 6 → ⊥) → m ≡ 4) (λ e. refl) (λ e. absurd (e refl)) (λ e. refl)

-- each width pairs with itself
pub same_pair : (n : ℕ) → Known n → Pair n n
same_pair n k = record { width = k; outputs = rw (eq-eqb n n refl) refl }

-- and four bits pair with six
pub pair_6_4 : Pair 6 4
pair_6_4 = record { width = refl; outputs = refl }

-- ---- the layouts

-- the numbers of the pairs are small
abbrev Few : ℕ → ℕ → ℕ → ℕ → Type 0
Few n m e t = (2 ^ n < 256) × (0 < e) × (e < 32) × (0 < t) × (t < 8) × (t * e * n / 8 + 1 ≤ 64) × (0 < m) × (m ≤ n)
    × ((m ≡ n → ⊥) → t * e * n / 8 + 1 ≡ 43)

few : (n m : ℕ) → Pair n m → Few n m (length (exponents n)) (terms_of n m)
unfolding terms_of
few =
    each_pair (λ n m. Few n m (length (exponents n)) (terms_of n m))
    (rw length_exponents_4 (omega arith, omega arith, omega arith, omega arith, omega arith, omega arith, omega arith, omega arith, λ h. absurd (h refl)))
    (rw length_exponents_6 (omega arith, omega arith, omega arith, omega arith, omega arith, omega arith, omega arith, omega arith, λ h. absurd (h refl)))
    (rw length_exponents_6 (omega arith, omega arith, omega arith, omega arith, omega arith, omega arith, omega arith, omega arith, λ h. refl))

one_less : (e t : ℕ) → 0 < t → (t - 1) * e + e ≡ t * e
one_less e t h = let g : suc (t - 1) ≡ t = omega arith in sym (suc-mul (t - 1) e) ∙ ap (λ (k : ℕ). k * e) g

-- a row has room for the bits and the right side
row_bits : (u : ℕ) → u < (u / 8 + 1) * 8
row_bits u = omega arith

-- the layouts of the pairs fit together
pub sizes : (n m : ℕ) → Pair n m → Sizes (layout n m)
unfolding layout sized
sizes n m k =
    let f = few n m k in
    let t = terms_of n m in
    let e = length (exponents n) in
    record {
      width = known_narrow n k.width;
      inputs = refl;
      entries = refl;
      some_outputs = f.6;
      few_outputs = f.7;
      listed = refl;
      unknowns = refl;
      basis = one_less e t f.3;
      coefficients = refl;
      element_work = λ q. rw (eq-eqb m n q) refl;
      bit_work = λ q. rw (ne_eqb m n q) refl;
      bit_room = row_bits (t * e * n);
      few_bytes = f.5;
      bit_row = f.8;
      byte = f.0;
      some_exponents = f.1;
      few_exponents = f.2;
      some_terms = f.3;
      few_terms = f.4;
    }

-- their numbers
pub layout_4_4 : layout 4 4 ≡ record { width = 4; outputs = 4; inputs = 16; entries = 16; exponents = 9; terms = 2; unknowns = 18; basis = 9; coefficients = 27; stride = 10; work = 304 }
unfolding layout sized terms_of
layout_4_4 = rw length_exponents_4 refl

pub layout_6_6 : layout 6 6 ≡ record { width = 6; outputs = 6; inputs = 64; entries = 64; exponents = 19; terms = 4; unknowns = 76; basis = 57; coefficients = 133; stride = 58; work = 4928 }
unfolding layout sized terms_of
layout_6_6 = rw length_exponents_6 refl

pub layout_6_4 : layout 6 4 ≡ record { width = 6; outputs = 4; inputs = 64; entries = 16; exponents = 19; terms = 3; unknowns = 57; basis = 38; coefficients = 95; stride = 43; work = 11008 }
unfolding layout sized terms_of
layout_6_4 = rw length_exponents_6 refl

-- the numbers that the papers name: the lengths of a record in each version, and of the work of a fit
pub sizes_4_4 : let L = layout 4 4 in (record_size 1 L ≡ 33) × (record_size 2 L ≡ 34) × (L.work ≡ 304)
unfolding layout sized terms_of
sizes_4_4 = rw length_exponents_4 (refl, refl, refl)

pub sizes_6_6 : let L = layout 6 6 in (record_size 1 L ≡ 139) × (record_size 2 L ≡ 140) × (L.work ≡ 4928)
unfolding layout sized terms_of
sizes_6_6 = rw length_exponents_6 (refl, refl, refl)

-- 256 equations in 342 unknown bits
pub sizes_6_4 : let L = layout 6 4 in
    (record_size 2 L ≡ 102) × (L.work ≡ 11008) × (L.terms ≡ 3) × (L.inputs * L.outputs ≡ 256) × (L.unknowns * L.width ≡ 342)
unfolding layout sized terms_of
sizes_6_4 = rw length_exponents_6 (refl, refl, refl, refl, refl)

pub layout_width : (n m : ℕ) → (layout n m).width ≡ n
unfolding layout sized
layout_width n m = refl

pub layout_outputs : (n m : ℕ) → (layout n m).outputs ≡ m
unfolding layout sized
layout_outputs n m = refl

-- ---- the numbers stay small

module _ {L : Layout} (z : Sizes L) where
  pub unknowns_few : L.unknowns ≤ 217
  unknowns_few = rw z.unknowns (mul-le-mul {n₂ = 7} {m₂ = 31} (omega (arith, z.few_terms)) (omega (arith, z.few_exponents)))

  pub coefficients_few : L.coefficients ≤ 434
  coefficients_few = omega (arith, z.coefficients, z.basis, unknowns_few)

  pub work_few : L.inputs * (L.unknowns + 1) ≤ 55808
  work_few = mul-le-mul {n₂ = 256} {m₂ = 218} (omega (arith, z.byte)) (omega (arith, unknowns_few))

  pub rows_few : L.inputs * L.outputs ≤ 2048
  rows_few =
      mul-le-mul {n₂ = 256} {m₂ = 8} (omega (arith, z.byte))
      (omega (arith, z.few_outputs, width_le L.width (narrow_width L.width z.width)))

  pub entries_few : L.entries ≤ L.inputs
  entries_few = rw (z.entries, z.inputs) (pow_mono z.few_outputs)

  pub some_entries : 0 < L.entries
  some_entries = rw z.entries (pow_pos L.outputs)

  pub width_few : L.width ≤ 8
  width_few = width_le L.width (narrow_width L.width z.width)

  -- polynomial number i lies within the solution, and within the basis unless it is the last
  pub block_room : {i : ℕ} → i < L.terms → i * L.exponents + L.exponents ≤ L.unknowns
  block_room h = rw z.unknowns (row_room L.exponents h (le_refl (L.terms * L.exponents)))

  pub basis_room : {i : ℕ} → suc i < L.terms → i * L.exponents + L.exponents ≤ L.basis
  basis_room {i} h = omega (arith, block_room h, suc-mul i L.exponents, z.basis)
