-- `Field::multiply` meets its contract. The invariant is `AfterBits`: after each bit half the sum is a times the bits
-- of b read so far.
use Prim.Native.Nat.{◌/◌, ◌^◌, ◌<◌}
use Rattle.field.specs.Loop.{AfterBits}
use Rattle.field.proofs.Field.multiply.Given as goal

abbrev pub invariant-loop-k : goal.invariant-loop-k
invariant-loop-k g l = (l.term < 2 ^ 8) × (l.sum < 2 ^ 9) × (l.rest < 2 ^ 9) × AfterBits g.Self.Field.WIDTH l.a l.b l._k (l.sum / 2) l.term (l.rest / 2)
