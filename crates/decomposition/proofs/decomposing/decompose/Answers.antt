-- `decomposing::decompose` meets its contract. The work holds the equations, so what `solve` says of the work it says of them.
use mathlib.Core.Path.{◌∙◌, subst, sym}
use Prim.Native.Nat.{ℕ, ◌*◌, ◌^◌, ◌<◌}
use native.Mathlib.Omega.{arith}
use lib.ListN.{get_or}
use Rattle.linear.specs.Packed.{bit_cell}
use Rattle.linear.specs.Shape.{Shape, Solved, bit_shape}
use Rattle.decomposition.proofs.Solved.{bits_solved, elements_solved}
use Rattle.decomposition.proofs.Whole.{sizes_of}
use Rattle.decomposition.proofs.Work.{rows_elements}
use Rattle.decomposition.proofs.decomposing.decompose.Goals as goal

pub solve-requires : goal.solve-requires
solve-requires c =
    let p = c.args.problem.now in
    let z = sizes_of p.sizes in
    let same = c.if-layout.true in
    let l = c.equations.auto.work ∙ c.requires.0 ∙ z.element_work same in (
      omega (arith, l),
      rows_elements z (λ k. subst (λ (j : ℕ). get_or p.table.now k 0 < 2 ^ j) same (p.entries k)) p.elements c.equations.ensures,
      omega (arith, c.requires.1),
    )

pub returns-then-layout : goal.returns-then-layout
returns-then-layout c =
    let p = c.args.problem.now in
    elements_solved (sizes_of p.sizes) p.table.now p.basis.now p.elements c.if-layout.true p.entries c.equations.new.work c.args.p.now c.solve.new.out
    c.equations.ensures (c.solve.auto.out ∙ c.requires.1) c.solve.result c.solve.ensures.solved

pub returns-else-layout : goal.returns-else-layout
returns-else-layout c =
    let p = c.args.problem.now in
    let L = p.layout in
    let z = sizes_of p.sizes in
    let work = c.bit_equations.new.work in
    let system : ℕ → Shape = λ k. bit_shape k L.width (L.inputs * L.outputs) (L.unknowns * L.width) in
    bits_solved z p.table.now p.basis.now p.elements p.entries work c.args.p.now c.solve-else-layout.new.out c.bit_equations.ensures
    (c.solve-else-layout.auto.out ∙ c.requires.1) c.solve-else-layout.result
    (subst (λ (k : ℕ). Solved (system k) (bit_cell k work) c.args.p.now c.solve-else-layout.new.out c.solve-else-layout.result)
    (sym (z.bit_row c.if-layout.false)) c.solve-else-layout.ensures.solved)
