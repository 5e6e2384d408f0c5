-- How far the elimination has come, after a column without a pivot and after one with a pivot.
use mathlib.Core.Path.{◌≡◌, ap, ◌∙◌}
use Prim.Native.Nat.{ℕ, suc, ◌≤◌, ◌<◌}
use native.Mathlib.Decide.{ℕ_discrete, dec_lt}
use native.Mathlib.Nat.{le_refl}
use native.Mathlib.Omega.{arith}
use Rattle.linear.specs.Elimination.{Equivalent, LeadingOne, Reduced}
use Rattle.linear.specs.Row.{Agree}
use Rattle.linear.specs.Scalars.{Scalars}

pub equivalent_refl : (S : Scalars) (m w : ℕ) (M : ℕ → ℕ → ℕ) → Equivalent S m w M M
equivalent_refl S m w M = record { to = λ k d l h. h; from = λ k d l h. h }

pub equivalent_trans : {S : Scalars} {m w : ℕ} {M N O : ℕ → ℕ → ℕ} → Equivalent S m w M N → Equivalent S m w N O → Equivalent S m w M O
equivalent_trans f g = record { to = λ k d l h. g.to k d l (f.to k d l h); from = λ k d l h. f.from k d l (g.from k d l h) }

-- what lies below c is all that matters
pub reduced_agree : {m c r : ℕ} {M N : ℕ → ℕ → ℕ} → ((i : ℕ) → i < m → Agree c (N i) (M i)) → Reduced m M c r → Reduced m N c r
reduced_agree {m} {c} {r} {M} {N} a h = record { rank = h.rank; leading = lead; rest = λ i k g l b. (a i l).at k b ∙ h.rest i k g l b }
  where
    lead : (i : ℕ) → i < r → LeadingOne m N c i
    lead i l =
        let o = h.leading i l in
        let im : i < m = omega (arith, h.rank) in
        record {
          at = o.at;
          below = o.below;
          before = λ k g. (a i im).at k (omega (arith, o.below)) ∙ o.before k g;
          one = (a i im).at o.at o.below ∙ o.one;
          alone = λ j g n. (a j g).at o.at o.below ∙ o.alone j g n;
        }

-- nothing is done at the start
pub reduced_start : (m : ℕ) (M : ℕ → ℕ → ℕ) → Reduced m M 0 0
reduced_start m M = record { rank = omega arith; leading = λ i l. absurd (omega arith); rest = λ i k g l b. absurd (omega arith) }

-- a column that has only zeros from row r on
pub reduced_skip : {m c r : ℕ} {M : ℕ → ℕ → ℕ} → Reduced m M c r → ((i : ℕ) → r ≤ i → i < m → M i c ≡ 0) → Reduced m M (suc c) r
reduced_skip {m} {c} {r} {M} h z = record { rank = h.rank; leading = lead; rest = zeros }
  where
    lead : (i : ℕ) → i < r → LeadingOne m M (suc c) i
    lead i l = let o = h.leading i l in record { at = o.at; below = omega (arith, o.below); before = o.before; one = o.one; alone = o.alone }

    zeros : (i k : ℕ) → r ≤ i → i < m → k < suc c → M i k ≡ 0
    zeros i k g l b = elim (ℕ_discrete k c) [ yes e ↦ ap (M i) e ∙ z i g l | no n ↦ h.rest i k g l (omega arith) ]

-- a column that has 1 in row r and zeros elsewhere
pub reduced_grow : {m c r : ℕ} {M : ℕ → ℕ → ℕ} → Reduced m M c r → r < m → M r c ≡ 1 → ((i : ℕ) → i < m → (i ≡ r → ⊥) → M i c ≡ 0)
    → Reduced m M (suc c) (suc r)
reduced_grow {m} {c} {r} {M} h l one z = record { rank = l; leading = lead; rest = zeros }
  where
    new : LeadingOne m M (suc c) r
    new = record { at = c; below = le_refl (suc c); before = λ k b. h.rest r k (le_refl r) l b; one = one; alone = z }

    lead : (i : ℕ) → i < suc r → LeadingOne m M (suc c) i
    lead i b = elim (dec_lt i r) [
      | yes g ↦ let o = h.leading i g in record { at = o.at; below = omega (arith, o.below); before = o.before; one = o.one; alone = o.alone }
      | no n ↦ let e : r ≡ i = omega arith in rw (← e) new
    ]

    zeros : (i k : ℕ) → suc r ≤ i → i < m → k < suc c → M i k ≡ 0
    zeros i k g g' b = elim (ℕ_discrete k c) [ yes e ↦ ap (M i) e ∙ z i g' (λ q. omega arith) | no n ↦ h.rest i k (omega arith) g' (omega arith) ]
