-- `bit_equations::bit_equations` meets its contract. The invariant: the rows of the inputs passed are written.
use mathlib.Core.Path.{◌≡◌}
use native.Mathlib.Omega.{arith}
use Rattle.decomposition.proofs.Blocks.{bit_rows_more}
use Rattle.decomposition.proofs.Whole.{sizes_of}
use Rattle.decomposition.proofs.Work.{next_block}
use Rattle.decomposition.proofs.bit_equations.bit_equations.Goals as goal

pub loop-x-preserved : goal.loop-x-preserved
loop-x-preserved c =
    let p = c.args.problem.now in
    rw (next_block c.loop-x.x p.layout.outputs)
    (bit_rows_more p.layout c.loop-x.x p.table.now p.basis.now c.loop-x.work c.put_equations.new.work (sizes_of p.sizes).bit_room c.loop-x.invariant
    c.put_equations.ensures)

pub returns : goal.returns
returns c =
    let p = c.args.problem.now in
    let e : c.loop-x.x ≡ p.layout.inputs = omega (arith, c.loop-x.auto.x-end, c.loop-x-test.false, p.inputs) in
    rw e at c.loop-x.invariant
