-- `power_class` meets its contract: the product of its factors, and then the squares.
use mathlib.Core.Path.{ap}
use Prim.Native.Nat.{ℕ}
use native.Mathlib.Omega.{arith}
use Rattle.steps.proofs.Parts.{ready_first, ready_next, went_then}
use Rattle.sbox.specs.TableSteps as spec
use Rattle.sbox.proofs.TableClasses.{class_of}
use Rattle.sbox.proofs.power_rows.power_class.Goals as goal

pub overflow_add-z : goal.overflow_add-z
overflow_add-z g c = omega (arith, (class_of _ g.met.F.NarrowField.decomposed _ c.requires.factors.0).few)

pub overflow_mul-z : goal.overflow_mul-z
overflow_mul-z g c = rw c.WIDTH-width.ensures (omega (arith, (class_of _ g.met.F.NarrowField.decomposed _ c.requires.factors.0).rows))

pub multiply_rows-requires-clause-bounds : goal.multiply_rows-requires-clause-bounds
multiply_rows-requires-clause-bounds g c =
    let class = class_of _ g.met.F.NarrowField.decomposed _ c.requires.factors.0 in
    rw c.WIDTH-width.ensures (
      omega (arith, class.first, class.rows, ap (λ (f : ℕ × ℕ). f.0) c.requires.factors.1),
      omega (arith, class.second, class.rows, ap (λ (f : ℕ × ℕ). f.1) c.requires.factors.1),
      omega (arith, class.rows),
    )

pub multiply_rows-requires-clause-ready : goal.multiply_rows-requires-clause-ready
unfolding spec.power_class
multiply_rows-requires-clause-ready g c =
    rw (c.WIDTH-width.ensures, ap (λ (f : ℕ × ℕ). f.0) c.requires.factors.1, ap (λ (f : ℕ × ℕ). f.1) c.requires.factors.1)
    (ready_first _ _ c.requires.ready)

pub overflow_add-z-2 : goal.overflow_add-z-2
overflow_add-z-2 g c = rw c.WIDTH-width.ensures (omega (arith, (class_of _ g.met.F.NarrowField.decomposed _ c.requires.factors.0).rows))

pub square_rows-requires-clause-last_bound : goal.square_rows-requires-clause-last_bound
square_rows-requires-clause-last_bound g c =
    let class = class_of _ g.met.F.NarrowField.decomposed _ c.requires.factors.0 in
    rw c.WIDTH-width.ensures (omega (arith, class.rows, class.wide))

pub square_rows-requires-clause-ready : goal.square_rows-requires-clause-ready
unfolding spec.power_class
square_rows-requires-clause-ready g c =
    let product = rw (c.WIDTH-width.ensures, ap (λ (f : ℕ × ℕ). f.0) c.requires.factors.1, ap (λ (f : ℕ × ℕ). f.1) c.requires.factors.1) at c.multiply_rows.ensures in
    rw c.WIDTH-width.ensures (ready_next _ c.requires.ready product)

pub returns : goal.returns
unfolding spec.power_class
returns g c =
    let product = rw (c.WIDTH-width.ensures, ap (λ (f : ℕ × ℕ). f.0) c.requires.factors.1, ap (λ (f : ℕ × ℕ). f.1) c.requires.factors.1) at c.multiply_rows.ensures in
    went_then _ product (rw c.WIDTH-width.ensures at c.square_rows.ensures)
