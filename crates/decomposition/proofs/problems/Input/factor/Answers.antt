-- `Input::factor` meets its contract: by the test on the number of the polynomial.
use mathlib.Core.Path.{refl}
use Prim.Native.Nat.{◌≤◌, suc}
use native.Mathlib.Omega.{arith}
use borrow.Author.Tests.{le-ltb, lt-ltb}
use Rattle.decomposition.specs.Form.{factor}
use Rattle.decomposition.proofs.Sizes.{basis_room}
use Rattle.decomposition.proofs.Whole.{sizes_of}
use Rattle.decomposition.proofs.problems.Input.factor.Goals as goal

pub value-requires : goal.value-requires
value-requires c =
    rw (c.args.self.now.same_layout, c.args.self.now.problem.whole) (basis_room (sizes_of c.args.self.now.problem.sizes) (omega (arith, c.if-i-self.true)))

pub returns-then-i-self : goal.returns-then-i-self
unfolding factor
returns-then-i-self c =
    rw (lt-ltb (suc c.args.i) c.args.self.now.problem.layout.terms (omega (arith, c.if-i-self.true))) (rw c.args.self.now.same_layout at c.value.ensures)

pub returns-else-i-self : goal.returns-else-i-self
unfolding factor
returns-else-i-self c =
    let l : c.args.self.now.problem.layout.terms ≤ suc c.args.i = omega (arith, c.if-i-self.false) in
    rw (le-ltb _ _ l) refl
