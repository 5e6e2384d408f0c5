-- `polynomial_share` meets its contract: a loop over the powers.
use Rattle.steps.specs.Loop.{Going}
use Rattle.sbox.specs.Sbox as sbox
use Rattle.sbox.proofs.polynomial_rows.polynomial_share.Given as goal

abbrev pub invariant-loop-r : goal.invariant-loop-r
invariant-loop-r g l = Going (sbox.term g.F.Field.WIDTH l.coefficients l.t l.i) 0 g.F.NarrowField.POWERS l.initial.u (g.M.Machine.state l.initial.machine) l.r l.u (g.M.Machine.state l.machine)
