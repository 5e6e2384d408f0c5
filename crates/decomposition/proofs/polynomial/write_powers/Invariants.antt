-- `polynomial::write_powers` meets its contract. The invariant: the first j powers are written, and `power` is that of the exponent e.
use mathlib.Core.Path.{◌≡◌}
use Prim.Native.Nat.{ℕ, ◌<◌}
use lib.ListN.{get_or}
use Rattle.field.specs.Power.{pow}
use Rattle.field.specs.Polynomial.{exponents}
use Rattle.decomposition.proofs.polynomial.write_powers.Given as goal

abbrev pub invariant-loop-j : goal.invariant-loop-j
invariant-loop-j l = record {
  powers : (k : ℕ) → k < l.j → get_or l.out k 0 ≡ pow l.width l.x (get_or (exponents l.width) k 0);
  last : l.power ≡ pow l.width l.x l.e;
}
