-- `field::inverse` meets its contract. The invariant: the product times the squares that are still to come is the inverse.
use mathlib.Core.Path.{◌≡◌}
use Prim.Native.Nat.{◌-◌}
use Rattle.field.specs.Power.{inverse}
use Rattle.field.proofs.Inverses.{chain}
use Rattle.field.proofs.inverse.Given as goal

abbrev pub invariant-loop-k : goal.invariant-loop-k
invariant-loop-k l = chain l.width (l.width - l._k) l.power l.product ≡ inverse l.width l.a
