-- `Field::multiply_public` meets its contract. The invariant is `AfterBits`: after each bit the sum is a times the bits
-- of b read so far.
use mathlib.Core.Path.{◌≡◌}
use native.Mathlib.Omega.{arith}
use borrow.Author.Rules.{rules}
use Rattle.xor.specs.Xor.{◌⊕◌}
use Rattle.field.proofs.Loop.{no_bits, next_bit, all_bits}
use Rattle.field.proofs.Turns.{bit_fits}
use Rattle.field.proofs.Field.multiply_public.Goals as goal

-- what a turn asks besides, in whatever order its lines stand
ruleset turn = (rules, bit_fits)

pub loop-k-init : goal.loop-k-init
loop-k-init g c = (search rules, no_bits g.Self.Field.WIDTH c.args.a c.args.b)

pub loop-k-preserved : goal.loop-k-preserved
unfolding ◌⊕◌
loop-k-preserved g c = (search rules, rw c.double-term.ensures (next_bit (rw c.WIDTH-k-end.ensures at c.loop-k-test.true) c.loop-k.invariant.1))

pub returns : goal.returns
returns g c =
    let all : c.loop-k._k ≡ g.Self.Field.WIDTH = omega (arith, c.loop-k.auto._k-end) in
    all_bits (rw all at c.loop-k.invariant.1)
