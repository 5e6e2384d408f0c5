-- `field::inverse` meets its contract. The invariant: the product times the squares that are still to come is the inverse.
use mathlib.Core.Path.{◌≡◌, ap, ap₂, sym, ◌∙◌}
use Prim.Native.Nat.{◌+◌, ◌-◌}
use native.Mathlib.Omega.{arith}
use Rattle.field.specs.Power.{square}
use Rattle.field.proofs.Inverses.{field_of, chain, inverse_chain}
use Rattle.field.proofs.Turns.{narrow_width, next_chain}
use Rattle.field.proofs.inverse.Goals as goal

pub loop-k-init : goal.loop-k-init
unfolding square
loop-k-init c =
    let ring = (field_of c.args.width (narrow_width c.args.width c.requires.narrow)).ring in
    ap₂ (chain c.args.width (c.args.width - 2)) c.square-power.ensures c.square-power.ensures ∙ sym (inverse_chain ring c.args.a c.requires.a_bound)

pub loop-k-preserved : goal.loop-k-preserved
unfolding square
loop-k-preserved c =
    ap (chain c.args.width (c.args.width - (c.loop-k._k + 1)) c.square-power-in-loop-k.result) c.mul-product.ensures
    ∙ next_chain c.args.width c.loop-k._k c.loop-k.power c.loop-k.product c.square-power-in-loop-k.result c.loop-k-test.true c.square-power-in-loop-k.ensures
    ∙ c.loop-k.invariant

pub returns : goal.returns
unfolding chain
returns c =
    let none : c.args.width - c.loop-k._k ≡ 0 = omega arith in
    rw none at c.loop-k.invariant
