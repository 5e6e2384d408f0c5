-- How the record of a decomposition and the work of Fit lie in bytes. All sizes stand here.
use Rattle.std.specs.Prelude.{Bool, cond, ◌||◌, ◌&&◌, true, ◌≡◌, ℕ, ◌+◌, ◌-◌, ◌*◌, ◌/◌, ◌^◌, ◌≤◌, ◌<◌, eqb, length}
use Rattle.field.specs.Mul.{Narrow}
use Rattle.field.specs.Polynomial.{exponents}
use Rattle.decomposition.specs.declared.layouts.Layout.{Layout}

-- ---- the pairs of width and output bits

-- the widths for which there are decompositions: some of the widths of the field
abbrev pub known : ℕ → Bool
known n = eqb n 4 || eqb n 6

-- n is one of them
abbrev pub Known : ℕ → Type 0
Known n = known n ≡ true

-- the numbers of output bits that pair with such a width: as many as the width has, and 4 with 6
abbrev pub paired : ℕ → ℕ → Bool
paired n m = eqb m n || (eqb n 6 && eqb m 4)

-- n and m are a pair: tables of n bits in and m bits out have decompositions
pub record Pair (n m : ℕ) : Type 0 where
  pub width : Known n
  pub outputs : paired n m ≡ true

-- ---- the sizes

-- t, the number of terms of the form p1·q1 + .. + p(t-1)·q(t-1) + pt, by width and output bits
unfoldable pub terms_of : ℕ → ℕ → ℕ
terms_of n m = cond (eqb n 4) 2 (cond (eqb n 6) (cond (eqb m 6) 4 3) 0)

-- The layout for width n, m output bits, e listed exponents and t terms. It knows no head.
unfoldable pub sized : ℕ → ℕ → ℕ → ℕ → Layout
sized n m e t = record {
  width = n;
  outputs = m;
  inputs = 2 ^ n;
  entries = 2 ^ m;
  exponents = e;
  terms = t;
  -- the unknowns are the coefficients of p1 to pt; the basis is q1 to q(t-1)
  unknowns = t * e;
  basis = (t - 1) * e;
  -- the coefficients of a record: the basis, then p1 to pt
  coefficients = (t - 1) * e + t * e;
  -- the work: at equal widths an equation for each input, with a byte for each unknown and one for the right side; at other widths one for each output
  -- bit of each input, with n bits for each unknown and one for the right side, in whole bytes
  stride = t * e * n / 8 + 1;
  work = cond (eqb m n) (2 ^ n * (t * e + 1)) (2 ^ n * m * (t * e * n / 8 + 1));
}

-- the layout for width n and m output bits
unfoldable pub layout : ℕ → ℕ → Layout
layout n m = sized n m (length (exponents n)) (terms_of n m)

-- the bytes of a record's head: the mark, the version and the width, and in version 2 the output bits; the coefficients follow
abbrev pub head : ℕ → ℕ
head version = cond (eqb version 2) 7 6

-- the bytes of a record: 33 and 139 in version 1; 34, 140 and 102 in version 2. The work has 304, 4,928 and 11,008 (proofs/Sizes.antt, `sizes_4_4` ..)
abbrev pub record_size : ℕ → Layout → ℕ
record_size version L = head version + L.coefficients

-- what the theory asks of a layout: its width is one of the field, its parts fit together, and are small enough for bytes and indices
pub record Sizes (L : Layout) : Type 0 where
  pub width : Narrow L.width
  pub inputs : L.inputs ≡ 2 ^ L.width
  pub entries : L.entries ≡ 2 ^ L.outputs
  pub some_outputs : 0 < L.outputs
  pub few_outputs : L.outputs ≤ L.width
  pub listed : length (exponents L.width) ≡ L.exponents
  pub unknowns : L.unknowns ≡ L.terms * L.exponents
  pub basis : L.basis + L.exponents ≡ L.unknowns
  pub coefficients : L.coefficients ≡ L.basis + L.unknowns
  pub element_work : L.outputs ≡ L.width → L.work ≡ L.inputs * (L.unknowns + 1)
  pub bit_work : (L.outputs ≡ L.width → ⊥) → L.work ≡ L.inputs * L.outputs * L.stride
  pub bit_room : L.unknowns * L.width < L.stride * 8
  pub few_bytes : L.stride ≤ 64
  pub bit_row : (L.outputs ≡ L.width → ⊥) → L.stride ≡ 43
  pub byte : L.inputs < 256
  pub some_exponents : 0 < L.exponents
  pub few_exponents : L.exponents < 32
  pub some_terms : 0 < L.terms
  pub few_terms : L.terms < 8
