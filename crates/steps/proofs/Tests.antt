-- Tests: what follows where one failed.
use mathlib.Core.Path.{sym, subst}
use mathlib.Core.Logic.{◌≢◌}
use mathlib.Core.Bool.{Bool, true, false, not, ◌||◌}
use Prim.Native.Nat.{ℕ}
use lib.Dec.{T, eqb, eqb→eq, eqb_refl, T_not, not_T}

-- neither of two tests passed
pub nor : (x y : Bool) → T (not x) → T (not y) → T (not (x || y))
nor true y h k = h
nor false y h k = k

pub nor_left : (x y : Bool) → T (not (x || y)) → T (not x)
nor_left true y h = h
nor_left false y h = tt

pub nor_right : (x y : Bool) → T (not (x || y)) → T (not y)
nor_right true y h = absurd h
nor_right false y h = h

-- two numbers that the test tells apart
pub apart : (u i : ℕ) → T (not (eqb u i)) → i ≢ u
apart u i h e = T_not (eqb u i) h (subst (λ (x : ℕ). T (eqb u x)) (sym e) (eqb_refl u))

pub told_apart : (u i : ℕ) → u ≢ i → T (not (eqb u i))
told_apart u i h = not_T (eqb u i) (λ t. h (eqb→eq u i t))
