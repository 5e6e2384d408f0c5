-- `polynomial` meets its contract: a loop over the shares.
use lib.ListN.{get_or, set}
use Rattle.steps.specs.Loop.{Going}
use Rattle.steps.specs.Program.{return, for, ◌>>=◌}
use Rattle.product.specs.ByShare as by_share
use Rattle.sbox.specs.Sbox as sbox
use Rattle.sbox.proofs.polynomial_rows.polynomial.Given as goal

abbrev pub invariant-loop-i : goal.invariant-loop-i
invariant-loop-i g l =
    Going (λ i c. for 0 g.F.NarrowField.POWERS (sbox.term g.F.Field.WIDTH l.coefficients l.t i) (by_share.constant i (get_or l.coefficients 0 0)) >>= (λ v. return (set c i v)))
    0 l.fn.s.count l.initial.c (g.M.Machine.state l.initial.machine) l.i l.c (g.M.Machine.state l.machine)
