-- The test of a range.
use mathlib.Core.Path.{◌≡◌}
use mathlib.Core.Bool.{true, and-eq-true_iff}
use Prim.Native.Nat.{ℕ, ◌≤◌}
use borrow.Author.Tests.{leb-true}
use lib.Dec.{leb}
use Rattle.refusal.specs.Range.{one_to}

pub one_to_range : (most x : ℕ) → one_to most x ≡ true → (1 ≤ x) × (x ≤ most)
unfolding one_to
one_to_range most x e =
    let both = (and-eq-true_iff (leb 1 x) (leb x most)).0 e in
    (leb-true 1 x both.0, leb-true x most both.1)
