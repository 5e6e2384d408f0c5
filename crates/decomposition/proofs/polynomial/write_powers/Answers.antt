-- `polynomial::write_powers` meets its contract: where all powers are written, they are the list.
use mathlib.Core.Path.{sym, ap, ◌∙◌}
use lib.ListN.{length}
use native.Mathlib.Omega.{arith}
use Rattle.std.proofs.lemmas.List.{ext_get_or, get_or-map}
use Rattle.field.proofs.Power.{pow_zero}
use Rattle.decomposition.proofs.Value.{length_map}
use Rattle.decomposition.proofs.polynomial.write_powers.Goals as goal

pub loop-j-init : goal.loop-j-init
loop-j-init c = record { powers = λ k h. absurd (omega arith); last = sym (pow_zero _ _) }

pub returns : goal.returns
returns c =
    ext_get_or 0 _ _ (c.loop-j.auto.out ∙ c.requires.x_bound.1 ∙ sym (length_map _ _))
    (λ k h. c.loop-j.invariant.powers k (omega (arith, h, c.loop-j.auto.out, c.loop-j-test.false, c.requires.x_bound.1, ap length c.exponents-next-items.ensures))
    ∙ sym (get_or-map _ _ k 0 0 (omega (arith, h, c.loop-j.auto.out, c.requires.x_bound.1))))
