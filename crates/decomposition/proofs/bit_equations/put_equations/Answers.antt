-- `bit_equations::put_equations` meets its contract: the columns, and then the right sides.
use Prim.Native.Nat.{◌*◌, ◌≤◌}
use native.Mathlib.Omega.{arith}
use lib.ListN.{length}
use Rattle.decomposition.proofs.Blocks.{input_block, rows_room}
use Rattle.decomposition.proofs.Sizes.{width_few}
use Rattle.decomposition.proofs.Whole.{sizes_of}
use Rattle.decomposition.proofs.bit_equations.put_equations.Goals as goal

pub put_polynomials-requires : goal.put_polynomials-requires
put_polynomials-requires c =
    let L = c.args.problem.now.layout in
    rw c.at.ensures.0 (rows_room L.outputs L.stride c.requires.1 c.requires.0)

pub put_column-requires : goal.put_column-requires
put_column-requires c =
    let L = c.args.problem.now.layout in
    let z = sizes_of c.args.problem.now.sizes in
    let room : L.inputs * L.outputs * L.stride ≤ length c.put_polynomials.new.work = omega (arith, c.requires.0, c.put_polynomials.auto.work) in (
      rows_room L.outputs L.stride c.requires.1 room,
      z.bit_room,
      omega (arith, width_few z, z.few_outputs),
    )

pub returns : goal.returns
returns c =
    input_block (sizes_of c.args.problem.now.sizes) c.args.problem.now.basis.now c.args.x c.args.v (c.args.problem.now.layout.stride * 8)
    (rw (c.at.ensures.0, c.at.ensures.1) at c.put_polynomials.ensures) c.put_column.ensures
