-- `Field::multiply_public` meets its contract. The invariant is `AfterBits`: after each bit the sum is a times the bits
-- of b read so far.
use Prim.Native.Nat.{◌^◌, ◌<◌}
use Rattle.field.specs.Loop.{AfterBits}
use Rattle.field.proofs.Field.multiply_public.Given as goal

abbrev pub invariant-loop-k : goal.invariant-loop-k
invariant-loop-k g l = (l.term < 2 ^ 8) × AfterBits g.Self.Field.WIDTH l.a l.b l._k l.sum l.term l.left
