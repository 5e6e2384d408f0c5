-- `Record::product` meets its contract.
use mathlib.Core.Path.{◌∙◌, ap₂}
use Prim.Native.Nat.{◌<◌, suc}
use native.Mathlib.Omega.{arith}
use Rattle.field.specs.Mul.{mul}
use Rattle.decomposition.proofs.Sizes.{basis_room, block_room}
use Rattle.decomposition.proofs.Whole.{sizes_of}
use Rattle.decomposition.proofs.records.Record.product.Goals as goal

pub value-p-requires : goal.value-p-requires
value-p-requires c =
    let l : c.args.i < c.args.self.now.layout.terms = omega (arith, c.requires.1) in
    rw (c.requires.0, c.solution.ensures.1) (block_room (sizes_of c.args.self.now.sizes) l)

pub value-q-requires : goal.value-q-requires
value-q-requires c =
    let l : suc c.args.i < c.args.self.now.layout.terms = omega (arith, c.requires.1) in
    rw (c.requires.0, c.basis.ensures.1) (basis_room (sizes_of c.args.self.now.sizes) l)

pub returns : goal.returns
returns c =
    c.mul.ensures
    ∙ ap₂ (mul c.args.self.now.layout.width) (rw (c.requires.0, c.solution.ensures.0) at c.value-p.ensures)
    (rw (c.requires.0, c.basis.ensures.0) at c.value-q.ensures)
