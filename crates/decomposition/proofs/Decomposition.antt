-- THE decomposition is the canonical solution of the equations over bits; there is at most one, and there is one whenever any p meets the table.
use mathlib.Core.List.{List, map}
use mathlib.Core.Logic.{◌⊎◌, inl, inr}
use mathlib.Core.Path.{◌≡◌, refl, sym, subst, ap, ◌∙◌}
use Prim.Native.Nat.{ℕ, suc, ◌+◌, ◌*◌, ◌/◌, ◌%◌, ◌^◌, ◌<◌}
use native.Mathlib.Decide.{dec_lt}
use native.Mathlib.Nat.{div-lt_iff_lt-mul, mod-eq_of_lt, mod-lt, zero-mod}
use native.Mathlib.Omega.{arith}
use lib.ListN.{length, get_or, get_or-eq_default, length-replicate, replicate}
use lib.Pow.{pow_pos}
use lib.Seq.{ext_get_or}
use Rattle.std.specs.List.{range_with_len}
use Rattle.std.proofs.lemmas.List.FromFn.{get_or-map-range_with_len, length-map-range_with_len}
use Rattle.xor.specs.Sum.{Small as SmallList}
use Rattle.field.specs.Mul.{mul}
use Rattle.field.specs.Power.{Field}
use Rattle.field.proofs.Bilinear.{mul_zero}
use Rattle.field.proofs.Inverses.{field_of}
use Rattle.field.proofs.Turns.{narrow_width}
use Rattle.linear.specs.Bits.{bit, bits, bit_of, bitwise}
use Rattle.linear.specs.Packed.{bits_of}
use Rattle.linear.specs.Row.{Agree, RowElements}
use Rattle.linear.specs.Scalars.{scalars}
use Rattle.linear.specs.System.{Canonical, Combination, Elements, Inconsistent}
use Rattle.linear.proofs.Bits.{bit_low, bit_zero, bits_equal}
use Rattle.linear.proofs.Bitwise.{bit_of_place, bits_solve, free_bits, place_within, bitwise_or_inconsistent, bitwise_unique, canonical_bits, inconsistent_bits, solves_bits}
use Rattle.linear.proofs.Packed.{zero_bits, zeros_at}
use Rattle.linear.proofs.Row.{agree_sym, dot_none}
use Rattle.linear.proofs.Scalars.{laws_of}
use Rattle.linear.proofs.System.{canonical_agree, free_rows}
use Rattle.decomposition.specs.Equations.{bit_system, equation, system}
use Rattle.decomposition.specs.Form.{Computes, Decomposition, ElementDecomposition, FreeUnknown, NoDecomposition, unknown_column, form}
use Rattle.decomposition.specs.Layout.{Sizes}
use Rattle.decomposition.specs.declared.layouts.Layout.{Layout}
use Rattle.decomposition.proofs.Columns.{column_small, equation_column, equation_right, equation_small, form_equation, form_small}

-- ---- lists of factors

-- entries below the length are elements, and so is what is read past the end
pub small_list : (n : ℕ) (l : List ℕ) → ((k : ℕ) → k < length l → get_or l k 0 < 2 ^ n) → SmallList n l
small_list n l h k = elim (dec_lt k (length l)) [
  | yes g ↦ h k g
  | no g ↦ rw (get_or-eq_default l 0 {n = k} (omega arith)) (pow_pos n)
]

-- ---- the canonical solution of the equations over bits

module _ {L : Layout} (z : Sizes L) (table basis : List ℕ) (sb : SmallList L.width basis) where
  F : Field L.width
  F = field_of L.width (narrow_width L.width z.width)

  abbrev R : ℕ
  R = 2 ^ L.width

  -- before the right side, the equations are the columns
  system_columns : (r : ℕ) → r < R * L.outputs
      → Agree (L.unknowns * L.width) (bit_system L table basis r) (bitwise L.width L.outputs (unknown_column L basis) r)
  system_columns r h = record {
    at = λ c l.
        let n = L.width in
        let x = r / L.outputs in
        let np : 0 < n = omega (arith, z.some_outputs, z.few_outputs) in
        ap (λ (y : ℕ). bit (r % L.outputs) (mul n y (2 ^ (c % n)))) (equation_column L basis x (get_or table x 0) (c / n) ((div-lt_iff_lt-mul np).1 l));
  }

  -- p meets the table if and only if its bits solve the equations
  pub computes_solves : (p : List ℕ) → Computes L table basis p
      → Combination bits (R * L.outputs) (bit_system L table basis) (L.unknowns * L.width) (bits_of L.width p)
  computes_solves p c =
      solves_bits F L.outputs R (system L table basis) L.unknowns (λ k. get_or p k 0) (record { at = λ k l. c.elements k })
      (λ x b hx hb. ap (bit b) (form_equation z basis sb x hx p c.elements (get_or table x 0)) ∙ sym (bit_low L.outputs b (form L basis p x) hb)
      ∙ ap (bit b) (c.equal x hx ∙ sym (equation_right L basis x (get_or table x 0))))

  pub solves_computes : SmallList L.outputs table → (p : List ℕ) → length p ≡ L.unknowns → SmallList L.width p
      → Combination bits (R * L.outputs) (bit_system L table basis) (L.unknowns * L.width) (bits_of L.width p) → Computes L table basis p
  solves_computes st p e sp c = record {
    unknowns = e;
    elements = sp;
    equal = λ x hx. bits_equal L.outputs (form L basis p x % 2 ^ L.outputs) (get_or table x 0)
        (mod-lt (form L basis p x) (pow_pos L.outputs)) (st x)
        (λ b hb. bit_low L.outputs b (form L basis p x) hb
        ∙ ap (bit b) (sym (form_equation z basis sb x hx p sp (get_or table x 0)))
        ∙ bits_solve F L.outputs R (system L table basis) L.unknowns (λ k. get_or p k 0) (record { at = λ k l. sp k }) c x b hx hb
        ∙ ap (bit b) (equation_right L basis x (get_or table x 0)));
  }

  -- THE decomposition is the canonical solution
  pub decomposition_canonical : (p : List ℕ) → Decomposition L table basis p
      → Canonical bits (R * L.outputs) (bit_system L table basis) (L.unknowns * L.width) (bits_of L.width p)
  decomposition_canonical p d = record {
    solves = computes_solves p d.computes;
    free = λ c l f. d.free c l (free_rows l system_columns f);
  }

  pub canonical_decomposition : SmallList L.outputs table → (p : List ℕ) → length p ≡ L.unknowns → SmallList L.width p
      → Canonical bits (R * L.outputs) (bit_system L table basis) (L.unknowns * L.width) (bits_of L.width p) → Decomposition L table basis p
  canonical_decomposition st p e sp c = record {
    computes = solves_computes st p e sp c.solves;
    free = λ k l f. c.free k l (free_rows l (λ x h. agree_sym (system_columns x h)) f);
  }

  -- where the equations are inconsistent, no p meets the table
  pub inconsistent_none : Inconsistent bits (R * L.outputs) (bit_system L table basis) (L.unknowns * L.width) → NoDecomposition L table basis
  inconsistent_none u = record { never = λ p c. u.never (bits_of L.width p) (computes_solves p c) }

  module _ (st : SmallList L.outputs table) where
    -- there is at most one
    pub decomposition_unique : (p q : List ℕ) → Decomposition L table basis p → Decomposition L table basis q → p ≡ q
    decomposition_unique p q d e =
        let a : Agree L.unknowns (λ k. get_or p k 0) (λ k. get_or q k 0) =
        bitwise_unique F L.outputs R L.unknowns (system L table basis) (record { at = λ k l. d.computes.elements k })
        (record { at = λ k l. e.computes.elements k }) (decomposition_canonical p d) (decomposition_canonical q e) in
        let lp = d.computes.unknowns in
        ext_get_or 0 p q (lp ∙ sym e.computes.unknowns) (λ i l. a.at i (omega (arith, lp)))

    -- there is one, or no p meets the table
    pub decomposition_or_none : ((p : List ℕ) × Decomposition L table basis p) ⊎ NoDecomposition L table basis
    decomposition_or_none = go (bitwise_or_inconsistent F L.outputs R L.unknowns (system L table basis))
      where
        go : ((p : ℕ → ℕ) × RowElements (scalars L.width) L.unknowns p
            × Canonical bits (R * L.outputs) (bit_system L table basis) (L.unknowns * L.width) (bit_of L.width p))
            ⊎ Inconsistent bits (R * L.outputs) (bit_system L table basis) (L.unknowns * L.width)
            → ((p : List ℕ) × Decomposition L table basis p) ⊎ NoDecomposition L table basis
        go (inl x) =
            let p : List ℕ = map x.0 (range_with_len 0 L.unknowns) in
            let e : length p ≡ L.unknowns = length-map-range_with_len x.0 0 L.unknowns in
            let at : (k : ℕ) → k < L.unknowns → get_or p k 0 ≡ x.0 k =
            λ k l. get_or-map-range_with_len x.0 0 L.unknowns k k 0 l (omega arith) in
            let np : 0 < L.width = omega (arith, z.some_outputs, z.few_outputs) in
            inl (
              p,
              canonical_decomposition st p e (small_list L.width p (λ k l. let h : k < L.unknowns = omega (arith, e) in rw (at k h) (x.1.at k h)))
                  (canonical_agree (record {
                    at = λ j l. ap (bit (j % L.width)) (sym (at (j / L.width) ((div-lt_iff_lt-mul np).1 l)));
                  }) x.2),
            )
        go (inr u) = inr (inconsistent_none u)

    -- so there is one whenever any p meets the table
    pub decomposition_exists : (p : List ℕ) → Computes L table basis p → (q : List ℕ) × Decomposition L table basis q
    decomposition_exists p c = go decomposition_or_none
      where
        go : ((q : List ℕ) × Decomposition L table basis q) ⊎ NoDecomposition L table basis → (q : List ℕ) × Decomposition L table basis q
        go (inl x) = x
        go (inr u) = absurd (u.never p c)

-- THE decomposition is 0 at each unknown that is free over elements
free_elements : {L : Layout} → Sizes L → (table basis : List ℕ) → SmallList L.width basis → (p : List ℕ)
    → Decomposition L table basis p → (k : ℕ) → k < L.unknowns → FreeUnknown L basis k → get_or p k 0 ≡ 0
free_elements {L} z table basis sb p d k h f =
    let n = L.width in
    bits_equal n (get_or p k 0) 0 (d.computes.elements k) (pow_pos n)
    (λ i l. sym (bit_of_place n (λ j. get_or p j 0) k i l)
    ∙ d.free (k * n + i) (place_within L.unknowns n k i h l)
    (free_bits (field_of n (narrow_width n z.width)) L.outputs (2 ^ n) (unknown_column L basis) k i l
    (record { at = λ x g. record { at = λ j b. column_small z basis sb x g j } }) f)
    ∙ sym (bit_zero i))

-- ---- equal widths: the canonical solution over elements is that over bits

module _ {L : Layout} (z : Sizes L) (table basis : List ℕ) (sb : SmallList L.width basis) (same : L.outputs ≡ L.width)
    (st : SmallList L.outputs table) where
  abbrev G : Field L.width
  G = field_of L.width (narrow_width L.width z.width)

  pub system_elements : Elements (scalars L.width) (2 ^ L.width) (suc L.unknowns) (system L table basis)
  system_elements =
      record { at = λ x l. record { at = λ k g. equation_small z basis sb x (get_or table x 0) k l (rw (← same) (st x)) } }

  -- the equations where m bits of each input are asked for
  abbrev BitsCanonical : ℕ → List ℕ → Type 0
  BitsCanonical m p =
      Canonical bits (2 ^ L.width * m) (bitwise L.width m (system L table basis)) (L.unknowns * L.width) (bits_of L.width p)

  abbrev BitsSolve : ℕ → List ℕ → Type 0
  BitsSolve m p =
      Combination bits (2 ^ L.width * m) (bitwise L.width m (system L table basis)) (L.unknowns * L.width) (bits_of L.width p)

  pub elements_decomposition : (p : List ℕ) → length p ≡ L.unknowns
      → Canonical (scalars L.width) (2 ^ L.width) (system L table basis) L.unknowns (λ k. get_or p k 0) → Decomposition L table basis p
  elements_decomposition p e c =
      let sp : SmallList L.width p = small_list L.width p (λ k l. c.solves.small.at k (omega (arith, e))) in
      canonical_decomposition z table basis sb st p e sp
      (subst (λ (m : ℕ). BitsCanonical m p) (sym same)
      (canonical_bits G (2 ^ L.width) L.unknowns (system L table basis) system_elements (λ k. get_or p k 0) c))

  -- where no elements solve the equations, no p meets the table
  pub elements_none : Inconsistent (scalars L.width) (2 ^ L.width) (system L table basis) L.unknowns → NoDecomposition L table basis
  elements_none u = record {
    never = λ p c.
        (inconsistent_bits G (2 ^ L.width) L.unknowns (system L table basis) system_elements u).never (bits_of L.width p)
        (subst (λ (m : ℕ). BitsSolve m p) same (computes_solves z table basis sb p c));
  }

  -- all bits of the form count
  whole_form : (p : List ℕ) → SmallList L.width p → (x : ℕ) → x < 2 ^ L.width → form L basis p x % 2 ^ L.outputs ≡ form L basis p x
  whole_form p sp x h = mod-eq_of_lt (subst (λ (m : ℕ). form L basis p x < 2 ^ m) (sym same) (form_small z basis sb x h p sp))

  -- THE decomposition is the one over elements
  pub decomposition_elements : (p : List ℕ) → Decomposition L table basis p → ElementDecomposition L table basis p
  decomposition_elements p d = record {
    unknowns = d.computes.unknowns;
    elements = d.computes.elements;
    equal = λ x h. sym (whole_form p d.computes.elements x h) ∙ d.computes.equal x h;
    free = free_elements z table basis sb p d;
  }

  -- and the one over elements is THE decomposition
  pub elements_are : (p : List ℕ) → ElementDecomposition L table basis p → Decomposition L table basis p
  elements_are p d = elements_decomposition p d.unknowns (record {
    solves = record {
      small = record { at = λ k l. d.elements k };
      row = λ x h.
          form_equation z basis sb x h p d.elements (get_or table x 0) ∙ d.equal x h ∙ sym (equation_right L basis x (get_or table x 0));
    };
    free = λ k l f. d.free k l
        (free_rows {w = L.unknowns} l (λ x h. record { at = λ j g. equation_column L basis x (get_or table x 0) j g }) f);
  })

-- ---- the zero table

pub zero_decomposition : {L : Layout} → Sizes L → (basis : List ℕ) → SmallList L.width basis
    → Decomposition L (replicate L.inputs 0) basis (replicate L.unknowns 0)
zero_decomposition {L} z basis sb = record {
  computes = record {
    unknowns = length-replicate L.unknowns 0;
    elements = small;
    equal = λ x h. ap (λ (y : ℕ). y % 2 ^ L.outputs) (zero_form x h) ∙ zero-mod (2 ^ L.outputs) ∙ sym (zeros_at L.inputs x);
  };
  free = λ c l f. zero_bits L.width L.unknowns refl c;
}
  where
    small : SmallList L.width (replicate L.unknowns 0)
    small k = rw (zeros_at L.unknowns k) (pow_pos L.width)

    zero_form : (x : ℕ) → x < 2 ^ L.width → form L basis (replicate L.unknowns 0) x ≡ 0
    zero_form x h =
        sym (form_equation z basis sb x h (replicate L.unknowns 0) small 0)
        ∙ dot_none (laws_of z.width) L.unknowns {r = equation L basis x 0} {d = λ k. get_or (replicate L.unknowns 0) k 0}
        (λ k l. ap (mul L.width (equation L basis x 0 k)) (zeros_at L.unknowns k) ∙ mul_zero L.width (equation L basis x 0 k))
