-- `polynomials` meets its contract: a loop over the polynomials.
use mathlib.Core.Path.{◌≡◌}
use Prim.Native.Nat.{ℕ, ◌+◌, ◌*◌, ◌-◌}
use native.Mathlib.Omega.{arith}
use lib.ListN.{set}
use Rattle.steps.proofs.Loop.{going_ready, going_on, gone}
use Rattle.steps.proofs.Parts.{ready_first, went_map}
use Rattle.sbox.specs.TableSteps as spec
use Rattle.sbox.proofs.polynomial_rows.polynomials.Goals as goal

-- what is lent of the coefficients is as many as a polynomial has
own : (first e : ℕ) → first + e - first ≡ e
own first e = omega arith

pub polynomial-requires-clause-ready : goal.polynomial-requires-clause-ready
unfolding spec.polynomial_row spec.coefficients_at
polynomial-requires-clause-ready g c =
    rw (c.POWERS-size.ensures, own (c.loop-j.j * (g.F.NarrowField.POWERS + 1)) (g.F.NarrowField.POWERS + 1))
    (ready_first _ _ (going_ready c.loop-j.invariant c.requires.ready c.loop-j-test.true))

pub loop-j-preserved : goal.loop-j-preserved
unfolding spec.polynomial_row spec.coefficients_at
loop-j-preserved g c =
    let went = rw (c.POWERS-size.ensures, own (c.loop-j.j * (g.F.NarrowField.POWERS + 1)) (g.F.NarrowField.POWERS + 1)) at c.polynomial.ensures in
    going_on c.loop-j.invariant c.requires.ready c.loop-j-test.true (went_map (λ row. set c.loop-j.out c.loop-j.j row) went)

pub returns : goal.returns
returns g c = gone c.loop-j.invariant c.loop-j-test.false
