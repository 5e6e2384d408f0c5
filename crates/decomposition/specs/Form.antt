-- The form p1·q1 + .. + p(t-1)·q(t-1) + pt, when it computes a table, and which of the p that do so is THE decomposition.
use Rattle.std.specs.Prelude.{cond, List, ◌≡◌, ℕ, suc, ◌-◌, ◌*◌, ◌/◌, ◌%◌, ◌^◌, ◌<◌, ltb, length, get_or, take, drop}
use Rattle.xor.specs.Sum.{sum_of, Small}
use Rattle.xor.specs.Xor.{◌⊕◌}
use Rattle.field.specs.Mul.{mul}
use Rattle.field.specs.Polynomial.{exponents, value}
use Rattle.field.specs.Power.{pow}
use Rattle.linear.specs.Bits.{bits, bit_of, bitwise}
use Rattle.linear.specs.Scalars.{scalars}
use Rattle.linear.specs.System.{Free}
use Rattle.decomposition.specs.declared.layouts.Layout.{Layout}

-- ---- the form

-- p1·q1 + .. + ph·qh + p(h+1) at width n, where q i and p i are the values of q(i+1) and p(i+1) at some x
abbrev pub form_of_values : ℕ → ℕ → (ℕ → ℕ) → (ℕ → ℕ) → ℕ
form_of_values n h q p = sum_of h (λ i. mul n (p i) (q i)) ⊕ p h

-- the coefficients of polynomial number i, from 0, where the polynomials lie one after the other
abbrev pub polynomial_in : Layout → List ℕ → ℕ → List ℕ
polynomial_in L coefficients i = take L.exponents (drop (i * L.exponents) coefficients)

-- its value at x
unfoldable pub value_of : Layout → List ℕ → ℕ → ℕ → ℕ
value_of L coefficients i x = value L.width (polynomial_in L coefficients i) x

-- p1·q1 + .. + p(t-1)·q(t-1) + pt at x
unfoldable pub form : Layout → List ℕ → List ℕ → ℕ → ℕ
form L basis p x = form_of_values L.width (L.terms - 1) (λ i. value_of L basis i x) (λ i. value_of L p i x)

-- p meets the table: with it the low output bits of the form are those of the table, at all inputs
pub record Computes (L : Layout) (table basis p : List ℕ) : Type 0 where
  pub unknowns : length p ≡ L.unknowns
  pub elements : Small L.width p
  pub equal : (x : ℕ) → x < 2 ^ L.width → form L basis p x % 2 ^ L.outputs ≡ get_or table x 0

-- ---- THE decomposition

-- the unknowns are the coefficients of p1 to pt, each in list order: unknown k is coefficient k % e of polynomial k / e.
-- What polynomial number i is multiplied with at x: the polynomial of the basis, and 1 for the last
unfoldable pub factor : Layout → List ℕ → ℕ → ℕ → ℕ
factor L basis i x = cond (ltb (suc i) L.terms) (value_of L basis i x) 1

-- x to the power that stands at place j of the list of exponents
unfoldable pub monomial : ℕ → ℕ → ℕ → ℕ
monomial n x j = pow n x (get_or (exponents n) j 0)

-- the column of unknown k: what the unknown is multiplied with at input x
unfoldable pub unknown_column : Layout → List ℕ → ℕ → ℕ → ℕ
unknown_column L basis x k = mul L.width (factor L basis (k / L.exponents) x) (monomial L.width x (k % L.exponents))

-- Each unknown is solved for by its bits, bit 0 first: bit number k·n + i is bit i of unknown k. What it is multiplied with at an input is y ^ i times
-- the column of unknown k there, and of this the output bits count: a column of 2 ^ n · m bits. A bit is free if its column is a combination of earlier columns
abbrev pub FreeBit : Layout → List ℕ → ℕ → Type 0
FreeBit L basis c = Free bits (2 ^ L.width * L.outputs) (bitwise L.width L.outputs (unknown_column L basis)) c

-- p is THE decomposition: it meets the table, and free bits are 0
pub record Decomposition (L : Layout) (table basis p : List ℕ) : Type 0 where
  pub computes : Computes L table basis p
  pub free : (c : ℕ) → c < L.unknowns * L.width → FreeBit L basis c → bit_of L.width (λ k. get_or p k 0) c ≡ 0

-- no p meets the table
pub record NoDecomposition (L : Layout) (table basis : List ℕ) : Type 0 where
  pub never : (p : List ℕ) → Computes L table basis p → ⊥

-- ---- where all bits of the form count: the decomposition over elements, which is the same (proofs/Theorems.antt, `equal_widths`)

-- unknown k is free: its column of 2 ^ n values is a combination of earlier columns
abbrev pub FreeUnknown : Layout → List ℕ → ℕ → Type 0
FreeUnknown L basis k = Free (scalars L.width) (2 ^ L.width) (unknown_column L basis) k

-- the form with p is the table, and free unknowns are 0
pub record ElementDecomposition (L : Layout) (table basis p : List ℕ) : Type 0 where
  pub unknowns : length p ≡ L.unknowns
  pub elements : Small L.width p
  pub equal : (x : ℕ) → x < 2 ^ L.width → form L basis p x ≡ get_or table x 0
  pub free : (k : ℕ) → k < L.unknowns → FreeUnknown L basis k → get_or p k 0 ≡ 0
