-- Equations over the elements of width n, taken apart into bits. The bits of elements solve the equations over bits if and only if the elements
-- solve the equations over elements at the bits asked for. Where all n bits are asked for, the canonical solution over bits is that over elements.
use mathlib.Core.Bool.{cond}
use mathlib.Core.Logic.{◌⊎◌, inl, inr}
use mathlib.Core.Path.{◌≡◌, refl, sym, ap, ap₂, ◌∙◌}
use Prim.Native.Nat.{ℕ, zero, suc, ◌+◌, ◌*◌, ◌/◌, ◌%◌, ◌^◌, ◌≤◌, ◌<◌}
use native.Mathlib.Decide.{ℕ_discrete}
use native.Mathlib.Nat.{mod-lt, mod-eq_of_lt, le_refl, zero-mul, suc-mul, mul-zero, mul-one, one-mul, add-zero, div-eq_of_lt, div-lt_iff_lt-mul, le-div_iff_mul-le, div-add-mod', mul-add-div_right, mul-add-mod_self_right, mul-le-mul_right}
use native.Mathlib.Omega.{arith}
use lib.Dec.{ltb}
use lib.Pow.{pow_pos, pow-lt}
use borrow.Author.Tests.{lt-ltb, le-ltb}
use Rattle.xor.specs.Xor.{◌⊕◌}
use Rattle.xor.proofs.Basis.{agree}
use Rattle.field.specs.Mul.{mul}
use Rattle.field.specs.Power.{Field}
use Rattle.field.proofs.Bilinear.{mul_⊕}
use Rattle.field.proofs.Ring as ring
use Rattle.linear.specs.Bits.{bit, bits, bit_of, row_of, bitwise}
use Rattle.linear.specs.Row.{RowElements, Agree, dot, times}
use Rattle.linear.specs.Scalars.{ScalarLaws, scalars}
use Rattle.linear.specs.System.{Elements, Combination, Free, Canonical, Inconsistent}
use Rattle.linear.proofs.Bits.{bit_lt, bit_sum, bit_zero, bit_here, bit_elsewhere, bits_equal, bit_laws, together, together_lt, together_bit}
use Rattle.linear.proofs.Exists.{canonical_or_inconsistent}
use Rattle.linear.proofs.Row.{dot_agree, dot_append, dot_below, dot_end, dot_plus, dot_single, dot_times, small_shorter}
use Rattle.linear.proofs.Scalars.{scalar_laws}
use Rattle.linear.proofs.System.{canonical_agree, canonical_unique, combination_agree}

-- ---- places

-- place k·n + i is place i of element k
pub place_element : (n k i : ℕ) → i < n → (k * n + i) / n ≡ k
place_element n k i l = mul-add-div_right (omega arith) k i ∙ ap (λ (x : ℕ). k + x) (div-eq_of_lt l) ∙ add-zero k

pub place_bit : (n k i : ℕ) → i < n → (k * n + i) % n ≡ i
place_bit n k i l = mul-add-mod_self_right k n i ∙ mod-eq_of_lt l

pub bit_of_place : (n : ℕ) (p : ℕ → ℕ) (k i : ℕ) → i < n → bit_of n p (k * n + i) ≡ bit i (p k)
bit_of_place n p k i l = ap₂ (λ (x y : ℕ). bit x (p y)) (place_bit n k i l) (place_element n k i l)

pub row_of_place : (n b : ℕ) (r : ℕ → ℕ) (k i : ℕ) → i < n → row_of n b r (k * n + i) ≡ bit b (mul n (r k) (2 ^ i))
row_of_place n b r k i l = ap₂ (λ (x y : ℕ). bit b (mul n (r y) (2 ^ x))) (place_bit n k i l) (place_element n k i l)

-- place i of element k is among the places of u elements
pub place_within : (u n k i : ℕ) → k < u → i < n → k * n + i < u * n
place_within u n k i h g = omega (arith, mul-le-mul_right n h, suc-mul k n)

-- where there is a place, an element has some
some_places : (u n : ℕ) {c : ℕ} → c < u * n → 0 < n
some_places u n l = elim (ℕ_discrete n 0) [ yes e ↦ absurd (let z : u * n ≡ 0 = rw (e, mul-zero u) refl in omega arith) | no g ↦ omega arith ]

element_within : (u n : ℕ) {c : ℕ} → c < u * n → c / n < u
element_within u n l = (div-lt_iff_lt-mul (some_places u n l)).1 l

-- ---- a row

-- the product of two elements at bit b, bit by bit of the second
product_bits : (n a b v : ℕ) → v < 2 ^ n → dot bits n (λ i. bit b (mul n a (2 ^ i))) (λ i. bit i v) ≡ bit b (mul n a v)
product_bits n a b =
    agree n (λ v. dot bits n row (λ i. bit i v)) (λ v. bit b (mul n a v))
    (λ v w hv hw.
    dot_agree bits n {r = row} {s = row} {d = λ i. bit i (v ⊕ w)} {e = λ i. bit i v ⊕ bit i w} (record { at = λ j l. refl })
    (record { at = λ j l. bit_sum j v w })
    ∙ dot_plus bit_laws n small (record { at = λ j l. bit_lt j v }) (record { at = λ j l. bit_lt j w }))
    (λ v w hv hw. ap (bit b) (mul_⊕ n a v w) ∙ bit_sum b (mul n a v) (mul n a w))
    (λ i l. dot_single bit_laws n i {r = row} {d = λ j. bit j (2 ^ i)} l (λ j g ne. ap (λ (x : ℕ). row j * x) (other i j ne) ∙ mul-zero (row j))
    ∙ ap (λ (x : ℕ). row i * x) (here i) ∙ mul-one (row i))
  where
    row : ℕ → ℕ
    row i = bit b (mul n a (2 ^ i))

    small : RowElements bits n row
    small = record { at = λ j l. bit_lt b (mul n a (2 ^ j)) }

    here : (i : ℕ) → bit i (2 ^ i) ≡ 1
    here i = ap (bit i) (sym (one-mul (2 ^ i))) ∙ bit_here i 1 (le_refl 2)

    other : (i j : ℕ) → (j ≡ i → ⊥) → bit j (2 ^ i) ≡ 0
    other i j ne = ap (bit j) (sym (one-mul (2 ^ i))) ∙ bit_elsewhere i j 1 (le_refl 2) ne

-- the product of a row and a column, at bit b
pub dot_bits : (n b u : ℕ) (r p : ℕ → ℕ) → RowElements (scalars n) u p → dot bits (u * n) (row_of n b r) (bit_of n p) ≡ bit b (dot (scalars n) u r p)
unfolding dot
dot_bits n b zero r p s = ap (λ (k : ℕ). dot bits k (row_of n b r) (bit_of n p)) (zero-mul n) ∙ sym (bit_zero b)
dot_bits n b (suc u) r p s =
    ap (λ (k : ℕ). dot bits k (row_of n b r) (bit_of n p)) (suc-mul u n)
    ∙ dot_append bit_laws (u * n) n (row_of n b r) (bit_of n p)
    ∙ ap₂ ◌⊕◌ (dot_bits n b u r p (small_shorter (omega arith) s))
    (dot_agree bits n {r = λ j. row_of n b r (u * n + j)} {s = λ i. bit b (mul n (r u) (2 ^ i))} {d = λ j. bit_of n p (u * n + j)} {e = λ i. bit i (p u)}
    (record { at = λ i l. row_of_place n b r u i l }) (record { at = λ i l. bit_of_place n p u i l })
    ∙ product_bits n (r u) b (p u) (s.at u (le_refl (suc u))))
    ∙ sym (bit_sum b (dot (scalars n) u r p) (mul n (r u) (p u)))

-- y^i times the first k factors, and then zeros
abbrev shifted : ℕ → ℕ → ℕ → (ℕ → ℕ) → ℕ → ℕ
shifted n k i d j = cond (ltb j k) (mul n (2 ^ i) (d j)) 0

-- ---- a matrix

module _ {n : ℕ} (f : Field n) (m R : ℕ) (M : ℕ → ℕ → ℕ) where
  some_bits : 0 < n
  some_bits = let w = f.ring.wide in omega arith

  -- the right side, and every other first bit of an entry
  first_bit : (b u : ℕ) (r : ℕ → ℕ) → row_of n b r (u * n) ≡ bit b (r u)
  first_bit b u r =
      ap (row_of n b r) (sym (add-zero (u * n))) ∙ row_of_place n b r u 0 some_bits ∙ ap (bit b) (ring.mul_one f.ring (r u))

  -- elements that solve the equations at the bits asked for: their bits solve the equations over bits
  pub solves_bits : (u : ℕ) (p : ℕ → ℕ) → RowElements (scalars n) u p
      → ((x b : ℕ) → x < R → b < m → bit b (dot (scalars n) u (M x) p) ≡ bit b (M x u)) → Combination bits (R * m) (bitwise n m M) (u * n) (bit_of n p)
  solves_bits u p s h = record {
    small = record { at = λ c l. bit_lt (c % n) (p (c / n)) };
    row = λ r l.
        dot_bits n (r % m) u (M (r / m)) p s ∙ h (r / m) (r % m) (element_within R m l) (mod-lt r (some_places R m l)) ∙ sym (first_bit (r % m) u (M (r / m)));
  }

  -- and back
  pub bits_solve : (u : ℕ) (p : ℕ → ℕ) → RowElements (scalars n) u p → Combination bits (R * m) (bitwise n m M) (u * n) (bit_of n p)
      → (x b : ℕ) → x < R → b < m → bit b (dot (scalars n) u (M x) p) ≡ bit b (M x u)
  bits_solve u p s c x b hx hb =
      let r = x * m + b in
      let e : r / m ≡ x = place_element m x b hb in
      let g : r % m ≡ b = place_bit m x b hb in
      ap₂ (λ (i j : ℕ). bit i (dot (scalars n) u (M j) p)) (sym g) (sym e)
      ∙ sym (dot_bits n (r % m) u (M (r / m)) p s)
      ∙ c.row r (place_within R m x b hx hb)
      ∙ first_bit (r % m) u (M (r / m))
      ∙ ap₂ (λ (i j : ℕ). bit i (M j u)) g e

  pub bit_elements : (w : ℕ) → Elements bits (R * m) w (bitwise n m M)
  bit_elements w = record { at = λ r l. record { at = λ c g. bit_lt (r % m) (mul n (M (r / m) (c / n)) (2 ^ (c % n))) } }

  -- an element that is a combination of earlier ones: so is each of its bits
  pub free_bits : (k i : ℕ) → i < n → Elements (scalars n) R (suc k) M → Free (scalars n) R M k → Free bits (R * m) (bitwise n m M) (k * n + i)
  free_bits k i l el fr = record {
    factors = bit_of n (shifted n k i fr.factors);
    combination = record {
      small = record { at = λ c g. bit_lt (c % n) (shifted n k i fr.factors (c / n)) };
      row = λ r g.
          dot_end bit_laws (k * n) (k * n + i) {r = bitwise n m M r} {d = bit_of n (shifted n k i fr.factors)} (omega arith) (later r)
          ∙ dot_bits n (r % m) k (M (r / m)) (shifted n k i fr.factors) small_d
          ∙ ap (bit (r % m)) (scaled (r / m) (element_within R m g))
          ∙ sym (row_of_place n (r % m) (M (r / m)) k i l);
    };
  }
    where
      F : ScalarLaws (scalars n)
      F = scalar_laws f

      d_below : (j : ℕ) → j < k → shifted n k i fr.factors j ≡ mul n (2 ^ i) (fr.factors j)
      d_below j h = rw (lt-ltb j k h) refl

      d_past : (j : ℕ) → k ≤ j → shifted n k i fr.factors j ≡ 0
      d_past j h = rw (le-ltb j k h) refl

      power : 2 ^ i < 2 ^ n
      power = pow-lt l

      small_d : RowElements (scalars n) k (shifted n k i fr.factors)
      small_d = record { at = λ j h. rw (d_below j h) (F.mul_below power (fr.combination.small.at j h)) }

      later : (r j : ℕ) → k * n ≤ j → j < k * n + i → bitwise n m M r j * bit_of n (shifted n k i fr.factors) j ≡ 0
      later r j a b =
          let q : k ≤ j / n = (le-div_iff_mul-le some_bits).1 a in
          ap (λ (x : ℕ). bitwise n m M r j * bit (j % n) x) (d_past (j / n) q) ∙ ap (λ (x : ℕ). bitwise n m M r j * x) (bit_zero (j % n))
          ∙ mul-zero (bitwise n m M r j)

      scaled : (x : ℕ) → x < R → dot (scalars n) k (M x) (shifted n k i fr.factors) ≡ mul n (M x k) (2 ^ i)
      scaled x h =
          dot_agree (scalars n) k {r = M x} {d = shifted n k i fr.factors} {e = times (scalars n) (2 ^ i) fr.factors}
          (record { at = λ j g. refl }) (record { at = λ j g. d_below j g })
          ∙ dot_times F k power (small_shorter (omega arith) (el.at x h)) fr.combination.small
          ∙ ap (mul n (2 ^ i)) (fr.combination.row x h)
          ∙ F.mul_comm power ((el.at x h).at k (le_refl (suc k)))

-- ---- elements put together

-- the elements whose bits are d
abbrev pub elements_of : ℕ → (ℕ → ℕ) → ℕ → ℕ
elements_of n d k = together n (λ i. d (k * n + i))

module _ (n u : ℕ) (d : ℕ → ℕ) (s : RowElements bits (u * n) d) where
  element_small : (k : ℕ) → k < u → RowElements bits n (λ i. d (k * n + i))
  element_small k h = record { at = λ i l. s.at (k * n + i) (place_within u n k i h l) }

  pub elements_small : RowElements (scalars n) u (elements_of n d)
  elements_small = record { at = λ k h. together_lt n (λ i. d (k * n + i)) (element_small k h) }

  pub elements_bits : Agree (u * n) d (bit_of n (elements_of n d))
  elements_bits = record {
    at = λ c l.
        let k = c / n in
        sym (together_bit n (λ i. d (k * n + i)) (element_small k (element_within u n l)) (c % n) (mod-lt c (some_places u n l)) ∙ ap d (div-add-mod' c n));
  }

-- elements are equal by their bits
pub elements_equal : (n u : ℕ) {p q : ℕ → ℕ} → RowElements (scalars n) u p → RowElements (scalars n) u q → Agree (u * n) (bit_of n p) (bit_of n q)
    → Agree u p q
elements_equal n u {p} {q} sp sq a = record {
  at = λ k h. bits_equal n (p k) (q k) (sp.at k h) (sq.at k h)
      (λ i l. sym (bit_of_place n p k i l) ∙ a.at (k * n + i) (place_within u n k i h l) ∙ bit_of_place n q k i l);
}

-- ---- the canonical solution over bits

module _ {n : ℕ} (f : Field n) (m R u : ℕ) (M : ℕ → ℕ → ℕ) where
  -- there is one, the bits of elements, or none at all
  pub bitwise_or_inconsistent : ((p : ℕ → ℕ) × RowElements (scalars n) u p × Canonical bits (R * m) (bitwise n m M) (u * n) (bit_of n p))
      ⊎ Inconsistent bits (R * m) (bitwise n m M) (u * n)
  bitwise_or_inconsistent = go (canonical_or_inconsistent bit_laws (R * m) (u * n) (bitwise n m M) (bit_elements f m R M (suc (u * n))))
    where
      go : ((d : ℕ → ℕ) × Canonical bits (R * m) (bitwise n m M) (u * n) d) ⊎ Inconsistent bits (R * m) (bitwise n m M) (u * n)
          → ((p : ℕ → ℕ) × RowElements (scalars n) u p × Canonical bits (R * m) (bitwise n m M) (u * n) (bit_of n p))
          ⊎ Inconsistent bits (R * m) (bitwise n m M) (u * n)
      go (inl x) =
          let s = x.1.solves.small in
          inl (elements_of n x.0, elements_small n u x.0 s, canonical_agree (elements_bits n u x.0 s) x.1)
      go (inr c) = inr c

  -- there is at most one
  pub bitwise_unique : {p q : ℕ → ℕ} → RowElements (scalars n) u p → RowElements (scalars n) u q
      → Canonical bits (R * m) (bitwise n m M) (u * n) (bit_of n p) → Canonical bits (R * m) (bitwise n m M) (u * n) (bit_of n q) → Agree u p q
  bitwise_unique {p} {q} sp sq cp cq =
      elements_equal n u sp sq
      (canonical_unique bit_laws (R * m) (u * n) (bitwise n m M) (bit_elements f m R M (suc (u * n))) (bit_of n p) (bit_of n q) cp cq)

-- ---- where all bits are asked for

module _ {n : ℕ} (f : Field n) (R u : ℕ) (M : ℕ → ℕ → ℕ) (el : Elements (scalars n) R (suc u) M) where
  pub all_bits_solve : (p : ℕ → ℕ) → RowElements (scalars n) u p → Combination bits (R * n) (bitwise n n M) (u * n) (bit_of n p)
      → Combination (scalars n) R M u p
  all_bits_solve p s c = record {
    small = s;
    row = λ x h.
        bits_equal n (dot (scalars n) u (M x) p) (M x u) (dot_below (scalar_laws f) u (small_shorter (omega arith) (el.at x h)) s)
        ((el.at x h).at u (le_refl (suc u))) (λ b g. bits_solve f n R M u p s c x b h g);
  }

  pub solves_all_bits : (p : ℕ → ℕ) → Combination (scalars n) R M u p → Combination bits (R * n) (bitwise n n M) (u * n) (bit_of n p)
  solves_all_bits p c = solves_bits f n R M u p c.small (λ x b h g. ap (bit b) (c.row x h))

  -- canonical over bits is canonical over elements: where an element is free, all its bits are
  pub canonical_elements : (p : ℕ → ℕ) → RowElements (scalars n) u p → Canonical bits (R * n) (bitwise n n M) (u * n) (bit_of n p)
      → Canonical (scalars n) R M u p
  canonical_elements p s c = record {
    solves = all_bits_solve p s c.solves;
    free = λ k h fr.
        bits_equal n (p k) 0 (s.at k h) (pow_pos n)
        (λ i l. sym (bit_of_place n p k i l)
        ∙ c.free (k * n + i) (place_within u n k i h l) (free_bits f n R M k i l (record { at = λ x g. small_shorter (omega arith) (el.at x g) }) fr)
        ∙ sym (bit_zero i));
  }

  -- and canonical over elements is canonical over bits: there is such a solution over bits, and over elements there is only one
  pub canonical_bits : (p : ℕ → ℕ) → Canonical (scalars n) R M u p → Canonical bits (R * n) (bitwise n n M) (u * n) (bit_of n p)
  canonical_bits p c = go (bitwise_or_inconsistent f n R u M)
    where
      go : ((q : ℕ → ℕ) × RowElements (scalars n) u q × Canonical bits (R * n) (bitwise n n M) (u * n) (bit_of n q))
          ⊎ Inconsistent bits (R * n) (bitwise n n M) (u * n) → Canonical bits (R * n) (bitwise n n M) (u * n) (bit_of n p)
      go (inl x) =
          let q = x.0 in
          let a : Agree u q p = canonical_unique (scalar_laws f) R u M el q p (canonical_elements q x.1 x.2) c in
          canonical_agree (record { at = λ j l. ap (bit (j % n)) (a.at (j / n) (element_within u n l)) }) x.2
      go (inr z) = absurd (z.never (bit_of n p) (solves_all_bits p c.solves))

  -- the equations over bits are inconsistent if and only if those over elements are
  pub inconsistent_bits : Inconsistent (scalars n) R M u → Inconsistent bits (R * n) (bitwise n n M) (u * n)
  inconsistent_bits i = record {
    never = λ d c.
        i.never (elements_of n d)
        (all_bits_solve (elements_of n d) (elements_small n u d c.small) (combination_agree (elements_bits n u d c.small) c));
  }

  pub inconsistent_elements : Inconsistent bits (R * n) (bitwise n n M) (u * n) → Inconsistent (scalars n) R M u
  inconsistent_elements i = record { never = λ p c. i.never (bit_of n p) (solves_all_bits p c) }
