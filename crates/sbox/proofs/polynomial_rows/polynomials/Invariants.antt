-- `polynomials` meets its contract: a loop over the polynomials.
use Prim.Native.Nat.{◌+◌}
use Rattle.steps.specs.Loop.{Going}
use Rattle.sbox.specs.TableSteps as spec
use Rattle.sbox.proofs.polynomial_rows.polynomials.Given as goal

abbrev pub invariant-loop-j : goal.invariant-loop-j
invariant-loop-j g l =
    Going (spec.polynomial_row g.F.Field.WIDTH l.fn.s.count (g.F.NarrowField.POWERS + 1) l.fn.coefficients l.fn.t)
    0 l.fn.count l.initial.out (g.M.Machine.state l.initial.machine) l.j l.out (g.M.Machine.state l.machine)
