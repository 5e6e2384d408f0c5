-- The end of the elimination: all columns but the right side are reduced. Where a row below the rank leads at column k, unknown k is the
-- right side of that row; the other unknowns are 0. There is no solution if and only if a row from the rank on has a right side that is not 0.
use mathlib.Core.Logic.{◌⊎◌, inl, inr, ⊎_elim}
use mathlib.Core.Path.{◌≡◌, sym, ap, ap₂, ◌∙◌}
use Prim.Native.Nat.{ℕ, zero, suc, ◌≤◌, ◌<◌}
use native.Mathlib.Decide.{ℕ_discrete, dec_lt}
use native.Mathlib.Nat.{le_refl}
use native.Mathlib.Omega.{arith}
use Rattle.std.proofs.Common.{Option, None, Some, MatchOption}
use Rattle.linear.specs.Elimination.{LeadingOne, Reduced, Eliminated, LeadingAt, ReadOff, ZerosBefore}
use Rattle.linear.specs.Row.{RowElements, dot}
use Rattle.linear.specs.Scalars.{Scalars, ScalarLaws}
use Rattle.linear.specs.System.{Combination, Free, Canonical, Inconsistent}
use Rattle.linear.proofs.Row.{zero_below, zero_mul, one_mul, dot_none, dot_single}

pub leading_unique : {M : ℕ → ℕ → ℕ} {i k l : ℕ} → LeadingAt M i k → LeadingAt M i l → k ≡ l
leading_unique {M} {i} {k} {l} f g = elim (dec_lt k l) [
  | yes b ↦ absurd (f.here (g.before k b))
  | no n ↦ elim (dec_lt l k) [ yes b ↦ absurd (g.here (f.before l b)) | no o ↦ omega arith ]
]

leading_one_at : {m c i : ℕ} {M : ℕ → ℕ → ℕ} (o : LeadingOne m M c i) → LeadingAt M i o.at
leading_one_at o = record { before = o.before; here = λ z. let e : ◌≡◌ {A = ℕ} 1 0 = sym o.one ∙ z in omega arith }

-- a row below the rank has one
pub leading_exists : {m c r i : ℕ} {M : ℕ → ℕ → ℕ} → Reduced m M c r → i < r → ZerosBefore M i c → ⊥
leading_exists h l z =
    let o = h.leading _ l in
    let e : ◌≡◌ {A = ℕ} 1 0 = sym o.one ∙ z o.at o.below in
    omega arith

-- what a search along row i finds
pub leading_found : (u i : ℕ) (M : ℕ → ℕ → ℕ) (k : Option ℕ)
    → MatchOption k ((j : ℕ) → 0 ≤ j → j < u → M i j ≡ 0) (λ j. (0 ≤ j) × (j < u) × (M i j ≡ 0 → ⊥) × ((h : ℕ) → 0 ≤ h → h < j → M i h ≡ 0))
    → MatchOption k (ZerosBefore M i u) (λ j. (j < u) × LeadingAt M i j)
leading_found u i M None h = λ j l. h j (omega arith) l
leading_found u i M (Some j) h = (h.1, record { before = λ k l. h.3 k (omega arith) l; here = h.2 })

-- two rows below the rank lead at different columns
pub leading_apart : {m c r : ℕ} {M : ℕ → ℕ → ℕ} → Reduced m M c r → (i j k : ℕ) → i < r → j < r → (j ≡ i → ⊥) → LeadingAt M i k → LeadingAt M j k → ⊥
leading_apart {M = M} h i j k l g n f f' =
    let o = h.leading i l in
    let e : k ≡ o.at = leading_unique f (leading_one_at o) in
    f'.here (ap (M j) e ∙ o.alone j (omega (arith, h.rank)) n)

-- which of the rows below t, if any, has its first entry at column k
pub find_row : {m c r : ℕ} {M : ℕ → ℕ → ℕ} → Reduced m M c r → (k t : ℕ) → t ≤ r
    → ((i : ℕ) × (i < t) × LeadingAt M i k) ⊎ ((i : ℕ) → i < t → LeadingAt M i k → ⊥)
find_row h k zero b = inr (λ i l. absurd (omega arith))
find_row {M = M} h k (suc t) b = ⊎_elim
    (λ x. inl (x.0, omega (arith, x.1), x.2))
    (λ no_row. let o = h.leading t b in
    elim (ℕ_discrete o.at k) [
      | yes e ↦ inl (t, le_refl (suc t), rw e at (leading_one_at o))
      | no n ↦ inr (λ i l f. elim (dec_lt i t) [
        | yes g ↦ no_row i g f
        | no g ↦ let e : i ≡ t = omega arith in n (leading_unique (leading_one_at o) (rw e at f))
      ])
    ])
    (find_row h k t (omega arith))

-- no row is read yet, and the unknowns are 0
pub read_off_start : (M : ℕ → ℕ → ℕ) (n : ℕ) (p : ℕ → ℕ) → ((k : ℕ) → k < n → p k ≡ 0) → ReadOff M n 0 p
read_off_start M n p z = record { lead = λ i k l. absurd (omega arith); none = λ k l h. z k l }

-- one more row is read
pub read_off_more : {m c r n i : ℕ} {M : ℕ → ℕ → ℕ} {p : ℕ → ℕ} → Reduced m M c r → i < r → ReadOff M n i p → (k : ℕ) (q : ℕ → ℕ) → LeadingAt M i k
    → q k ≡ M i n → ((j : ℕ) → (j ≡ k → ⊥) → q j ≡ p j) → ReadOff M n (suc i) q
read_off_more {r = r} {n = n} {i = i} {M = M} {p = p} h ir rd k q f here others = record { lead = lead; none = none }
  where
    lead : (j l : ℕ) → j < suc i → l < n → LeadingAt M j l → q l ≡ M j n
    lead j l b g f' = elim (ℕ_discrete j i) [
      | yes e ↦
          let f'' : LeadingAt M i l = rw e at f' in
          rw (e, leading_unique f'' f) here
      | no ne ↦
          others l (λ e. leading_apart h i j k ir (omega arith) ne f (rw e at f')) ∙ rd.lead j l (omega arith) g f'
    ]

    none : (l : ℕ) → l < n → ((j : ℕ) → j < suc i → LeadingAt M j l → ⊥) → q l ≡ 0
    none l g z = others l (λ e. z i (le_refl (suc i)) (rw (← e) at f)) ∙ rd.none l g (λ j b. z j (omega arith))

module _ {S : Scalars} (F : ScalarLaws S) (m n w r : ℕ) (nw : n < w) (M₀ M : ℕ → ℕ → ℕ) (h : Eliminated S m w M₀ M n r) where
  -- where a row from the rank on has a right side that is not 0, there is no solution
  pub read_off_none : (i : ℕ) → r ≤ i → i < m → (M i n ≡ 0 → ⊥) → Inconsistent S m M₀ n
  read_off_none i g l nz = record {
    never = λ p x.
        let y : Combination S m M n p = h.equivalent.to n p nw x in
        nz (sym (y.row i l) ∙ dot_none F n {r = M i} {d = p} (λ j b. ap (λ (a : ℕ). S.mul a (p j)) (h.reduced.rest i j g l b)
        ∙ zero_mul F (y.small.at j b)));
  }

  module _ (zeros : (i : ℕ) → r ≤ i → i < m → M i n ≡ 0) (p : ℕ → ℕ) (rd : ReadOff M n r p) where
    small : RowElements S n p
    small = record {
      at = λ j l. ⊎_elim
          (λ x. let im : x.0 < m = omega (arith, x.1, h.reduced.rank) in rw (rd.lead x.0 j x.1 l x.2)
          ((h.elements.at x.0 im).at n nw))
          (λ z. rw (rd.none j l z) (zero_below F))
          (find_row h.reduced j r (le_refl r));
    }

    solves_row : (i : ℕ) → i < m → dot S n (M i) p ≡ M i n
    solves_row i im = elim (dec_lt i r) [
      | yes l ↦
          let o = h.reduced.leading i l in
          dot_single F n o.at o.below (λ j b ne. ⊎_elim
          (λ x. ap (λ (a : ℕ). S.mul a (p j))
          (let e : j ≡ (h.reduced.leading x.0 x.1).at = leading_unique x.2 (leading_one_at (h.reduced.leading x.0 x.1)) in
          ap (M i) e ∙ (h.reduced.leading x.0 x.1).alone i im (λ e'. ne (leading_unique (rw (← e') at x.2) (leading_one_at o))))
          ∙ zero_mul F (small.at j b))
          (λ z. ap (S.mul (M i j)) (rd.none j b z) ∙ F.mul_zero ((h.elements.at i im).at j (omega arith)))
          (find_row h.reduced j r (le_refl r)))
          ∙ ap₂ S.mul o.one (rd.lead i o.at l o.below (leading_one_at o))
          ∙ one_mul F ((h.elements.at i im).at n nw)
      | no g ↦
          dot_none F n {r = M i} {d = p} (λ j b. ap (λ (a : ℕ). S.mul a (p j)) (h.reduced.rest i j (omega arith) im b)
          ∙ zero_mul F (small.at j b))
          ∙ sym (zeros i (omega arith) im)
    ]

    free_zero : (k : ℕ) → k < n → Free S m M₀ k → p k ≡ 0
    free_zero k l fr = rd.none k l (λ i b f.
        let im : i < m = omega (arith, h.reduced.rank) in
        let y : Combination S m M k fr.factors = h.equivalent.to k fr.factors (omega arith) fr.combination in
        f.here (sym (y.row i im) ∙ dot_none F k {r = M i} {d = fr.factors}
        (λ j g. ap (λ (a : ℕ). S.mul a (fr.factors j)) (f.before j g) ∙ zero_mul F (y.small.at j g))))

    -- what is read off is the canonical solution
    pub read_off_canonical : Canonical S m M₀ n p
    read_off_canonical = record { solves = h.equivalent.from n p nw (record { small = small; row = solves_row }); free = free_zero }
