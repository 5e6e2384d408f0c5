-- `AcceptedCall::substitute` meets its contract: the shares stand in nine places, 0 past them.
use mathlib.Core.Path.{◌≡◌}
use mathlib.Core.List.{List}
use Prim.Native.Nat.{ℕ, ◌-◌}
use lib.ListN.{length}
use Rattle.steps.specs.Fill.{padded}
use Rattle.steps.proofs.Sharing.{share_padded}
use Rattle.sbox.proofs.Places.{sbox_same}
use Rattle.sbox.specs.Form.{basis_in, solution_in}
use Rattle.sbox.specs.Operations.{layout_program}
use Rattle.decomposition.specs.declared.layouts.Layout.{Layout}
use Rattle.sbox.proofs.calling.AcceptedCall.substitute.Goals as goal

-- the program goes by the shares alone
same_program : (L : Layout) (cs : List ℕ) (s : ℕ) (shares : List ℕ) → layout_program L cs s (padded 9 shares) ≡ layout_program L cs s shares
same_program L cs s shares =
    sbox_same L.width s (padded 9 shares) shares (λ i h. share_padded shares (9 - length shares) i) (basis_in L.width L.outputs cs) (solution_in L.width L.outputs cs)

pub run-requires-clause-ready : goal.run-requires-clause-ready
run-requires-clause-ready g c =
    let call = c.args.self.now in
    rw (c.padded-x.ensures, same_program call.record.layout call.record.coefficients.now call.count.count call.shares.now) c.requires

pub returns : goal.returns
returns g c =
    let call = c.args.self.now in
    rw (c.padded-x.ensures, same_program call.record.layout call.record.coefficients.now call.count.count call.shares.now) at c.run.ensures
