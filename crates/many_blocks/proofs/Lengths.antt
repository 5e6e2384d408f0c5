-- The lengths that fit.
use mathlib.Core.Path.{◌≡◌}
use mathlib.Core.Bool.{true, and-eq-true_iff}
use Prim.Native.Nat.{ℕ, ◌%◌}
use borrow.Author.Tests.{eqb-true}
use lib.Dec.{eqb}
use Rattle.many_blocks.specs.Many.{fits}

pub lengths : (key blocks out : ℕ) → fits key blocks out ≡ true → (key ≡ 10) × ((blocks % 8 ≡ 0) × (out ≡ blocks))
unfolding fits
lengths key blocks out e =
    let first = (and-eq-true_iff (eqb key 10) _).0 e in
    let rest = (and-eq-true_iff (eqb (blocks % 8) 0) _).0 first.1 in
    (eqb-true _ _ first.0, (eqb-true _ _ rest.0, eqb-true _ _ rest.1))
