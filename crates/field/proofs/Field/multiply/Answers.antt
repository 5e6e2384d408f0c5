-- `Field::multiply` meets its contract. The invariant is `AfterBits`: after each bit half the sum is a times the bits
-- of b read so far.
use mathlib.Core.Path.{◌≡◌}
use Prim.Native.Nat.{◌*◌, ◌/◌}
use native.Mathlib.Omega.{arith}
use borrow.Author.Rules.{rules}
use Rattle.xor.specs.Xor.{◌⊕◌}
use Rattle.field.proofs.Loop.{no_bits, next_bit_higher, all_bits}
use Rattle.field.proofs.Turns.{term_lt, sum_lt}
use Rattle.field.proofs.Field.multiply.Goals as goal

-- what a turn asks besides, in whatever order its lines stand
ruleset turn = (rules, term_lt)

pub loop-k-init : goal.loop-k-init
loop-k-init g c =
    let b : c.from-rest.result * 2 / 2 ≡ c.args.b = omega (arith, c.from-rest.ensures) in (
      search rules,
      omega arith,
      omega (arith, c.from-rest.ensures, c.ranges.b.fits),
      rw (b, c.from-term.ensures) (no_bits g.Self.Field.WIDTH c.args.a c.args.b),
    )

pub loop-k-preserved : goal.loop-k-preserved
unfolding ◌⊕◌
loop-k-preserved g c =
    let was = c.loop-k.invariant in (
      search rules,
      sum_lt c.loop-k.sum c.loop-k.term (c.loop-k.rest / 2) was.1 was.0,
      omega (arith, was.2),
      rw c.twice-term.ensures.doubled
          (next_bit_higher c.loop-k.sum c.loop-k.rest (rw c.WIDTH-k-end.ensures at c.loop-k-test.true) was.3),
    )

pub returns : goal.returns
returns g c =
    let all : c.loop-k._k ≡ g.Self.Field.WIDTH = omega (arith, c.loop-k.auto._k-end) in
    all_bits (rw all at c.loop-k.invariant.3)
