-- `evaluate` meets its contract: the powers, the polynomials, the products and their sum.
use mathlib.Core.List.{List}
use mathlib.Core.Path.{ap, ◌∙◌}
use Prim.Native.Nat.{ℕ, ◌≤◌}
use native.Mathlib.Omega.{arith}
use lib.ListN.{length, length-drop}
use lib.Seq.{length-take-le}
use Rattle.steps.proofs.Parts.{ready_first, ready_next, went_then}
use Rattle.decomposition.specs.declared.layouts.Layout.{Layout}
use Rattle.decomposition.specs.Layout.{Sizes}
use Rattle.decomposition.proofs.Whole.{sizes_of}
use Rattle.sbox.proofs.TableRuns.{basis_room, solution_room}
use Rattle.sbox.specs.TableSteps as spec
use Rattle.sbox.proofs.evaluation.evaluate.Goals as goal

-- the basis is within the coefficients
basis_within : {L : Layout} → Sizes L → {n : ℕ} → L.coefficients ≤ n → L.basis ≤ n
basis_within z h = omega (arith, z.coefficients)

pub powers-requires : goal.powers-requires
unfolding spec.sbox_rows
powers-requires g c = ready_first _ _ c.requires.ready

pub polynomials-requires-clause-bounds : goal.polynomials-requires-clause-bounds
polynomials-requires-clause-bounds g c =
    let z = sizes_of c.requires.sizes.0 in
    let size = ap length c.split_at.ensures.front ∙ length-take-le _ _ (basis_within z c.requires.room) in
    (omega (arith, c.requires.sizes.1.few), rw size (basis_room z c.requires.sizes.1))

pub polynomials-requires-clause-ready : goal.polynomials-requires-clause-ready
unfolding spec.sbox_rows
polynomials-requires-clause-ready g c = rw c.split_at.ensures.front (ready_first _ _ (ready_next _ c.requires.ready c.powers.ensures))

pub polynomials-requires-2-clause-bounds : goal.polynomials-requires-2-clause-bounds
polynomials-requires-2-clause-bounds g c =
    let z = sizes_of c.requires.sizes.0 in
    let L = c.args.layout.now in
    let size = ap length c.split_at.ensures.back ∙ length-drop L.basis c.args.coefficients.now in
    (omega (arith, c.requires.sizes.1.few), rw size (omega (arith, solution_room z c.requires.sizes.1, z.coefficients, c.requires.room)))

pub polynomials-requires-2-clause-ready : goal.polynomials-requires-2-clause-ready
unfolding spec.sbox_rows
polynomials-requires-2-clause-ready g c =
    let basis = rw c.split_at.ensures.front at c.polynomials.ensures in
    rw c.split_at.ensures.back (ready_first _ _ (ready_next _ (ready_next _ c.requires.ready c.powers.ensures) basis))

pub products-requires-clause-ready : goal.products-requires-clause-ready
unfolding spec.sbox_rows
products-requires-clause-ready g c =
    let basis = rw c.split_at.ensures.front at c.polynomials.ensures in
    let solution = rw c.split_at.ensures.back at c.polynomials-2.ensures in
    ready_first _ _ (ready_next _ (ready_next _ (ready_next _ c.requires.ready c.powers.ensures) basis) solution)

pub total-requires-clause-ready : goal.total-requires-clause-ready
unfolding spec.sbox_rows
total-requires-clause-ready g c =
    let basis = rw c.split_at.ensures.front at c.polynomials.ensures in
    let solution = rw c.split_at.ensures.back at c.polynomials-2.ensures in
    ready_next _ (ready_next _ (ready_next _ (ready_next _ c.requires.ready c.powers.ensures) basis) solution) c.products.ensures

pub returns : goal.returns
unfolding spec.sbox_rows
returns g c =
    let basis = rw c.split_at.ensures.front at c.polynomials.ensures in
    let solution = rw c.split_at.ensures.back at c.polynomials-2.ensures in
    went_then _ c.powers.ensures (went_then _ basis (went_then _ solution (went_then _ c.products.ensures c.total.ensures)))
