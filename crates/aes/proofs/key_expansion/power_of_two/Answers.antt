-- `key_expansion::power_of_two` meets its contract: one is doubled e times.
use mathlib.Core.Path.{refl, ap, ◌∙◌}
use native.Mathlib.Numerals.{add-one}
use native.Mathlib.Omega.{arith}
use Rattle.field.specs.Mul.{mul}
use Rattle.field.specs.Power.{pow}
use Rattle.aes.proofs.Places.{twice}
use Rattle.aes.proofs.key_expansion.power_of_two.Goals as goal

pub loop-i-init : goal.loop-i-init
unfolding pow
loop-i-init c = (refl, omega arith)

pub loop-i-preserved : goal.loop-i-preserved
unfolding pow
loop-i-preserved c =
    let same = c.double-power.ensures ∙ twice _ c.loop-i.invariant.1 ∙ ap (mul 8 2) c.loop-i.invariant.0 in
    (rw (add-one c.loop-i._i) same, c.double-power.type_inv)
