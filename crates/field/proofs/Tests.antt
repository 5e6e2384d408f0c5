-- Tests that are computed over all numbers below a bound, and what follows at each of them.
use mathlib.Core.Path.{◌≡◌, sym, subst}
use mathlib.Core.Bool.{Bool, true, false, ◌&&◌}
use mathlib.Core.Logic.{◌⊎◌, inl, inr}
use Prim.Native.Nat.{ℕ, zero, suc, ◌<◌}
use native.Mathlib.Nat.{eq-or-lt_of_le, le_of_suc-le-suc, not-suc-le-zero}
use lib.Dec.{T, eqb, eqb→eq}

pub and_left : (a b : Bool) → T (a && b) → T a
and_left true b t = tt
and_left false b t = t

pub and_right : (a b : Bool) → T (a && b) → T b
and_right true b t = t
and_right false b t = absurd t

-- the test passes at each number below n
abbrev pub all : ℕ → (ℕ → Bool) → Bool
all zero f = true
all (suc n) f = f n && all n f

pub all_at : (n : ℕ) (f : ℕ → Bool) → T (all n f) → (i : ℕ) → i < n → T (f i)
all_at zero f t i h = absurd (not-suc-le-zero h)
all_at (suc n) f t i h = go (eq-or-lt_of_le (le_of_suc-le-suc h)) (λ l. all_at n f (and_right (f n) (all n f) t) i l)
  where
    go : (i ≡ n) ⊎ (i < n) → (i < n → T (f i)) → T (f i)
    go (inl e) k = subst (λ (j : ℕ). T (f j)) (sym e) (and_left (f n) (all n f) t)
    go (inr l) k = k l

-- two functions agree below n
pub same_below : (n : ℕ) (f g : ℕ → ℕ) → T (all n (λ i. eqb (f i) (g i))) → (i : ℕ) → i < n → f i ≡ g i
same_below n f g t i h = eqb→eq (f i) (g i) (all_at n (λ j. eqb (f j) (g j)) t i h)
