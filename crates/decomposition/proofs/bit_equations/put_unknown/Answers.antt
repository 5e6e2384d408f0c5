-- `bit_equations::put_unknown` meets its contract. The invariant: i columns are written, and x is v doubled i times.
use mathlib.Core.Path.{◌≡◌, refl, ap, ◌∙◌}
use Prim.Native.Nat.{◌*◌, ◌+◌, ◌<◌}
use native.Mathlib.Omega.{arith}
use Rattle.field.specs.Loop.{doubled}
use Rattle.linear.specs.Bits.{bit, row_of}
use Rattle.decomposition.proofs.Blocks.{block_join, block_none, block_values, doubled_more, unknown_bit}
use Rattle.decomposition.proofs.bit_equations.put_unknown.Goals as goal

pub loop-i-init : goal.loop-i-init
loop-i-init c = record { doubles = unfold doubled in refl; columns = λ r k e q. block_none _ _ _ _ _ _ }

pub loop-i-preserved : goal.loop-i-preserved
loop-i-preserved c =
    let hi : c.loop-i.i < c.args.width = c.loop-i-test.true in
    record {
      doubles = doubled_more c.args.width c.loop-i.i c.args.v c.loop-i.x c.double-x.result c.loop-i.invariant.doubles c.double-x.ensures;
      columns = λ r k e q.
          block_join (c.args.c + c.loop-i.i) 1 (c.loop-i.invariant.columns r k e q) refl
          (block_values (λ b. row_of c.args.width b r) c.put_column.ensures (λ b j hb l g.
          let place : k * c.args.width + c.loop-i.i ≡ j = omega arith in
          ap (bit b) c.loop-i.invariant.doubles ∙ unknown_bit c.args.width k c.loop-i.i c.args.v b r hi q ∙ ap (row_of c.args.width b r) place));
    }

pub returns : goal.returns
returns c =
    let e : c.loop-i.i ≡ c.args.width = omega (arith, c.loop-i.auto.i-end, c.loop-i-test.false) in
    λ r k h q. rw e at (c.loop-i.invariant.columns r k h q)
