-- `bit_equations::put_polynomial` meets its contract. The invariant: the columns of j unknowns are written.
use mathlib.Core.Path.{◌≡◌, refl, sym, ap, ◌∙◌}
use Prim.Native.Nat.{ℕ, ◌*◌, ◌+◌, ◌<◌, ◌≤◌}
use native.Mathlib.Nat.{le_refl, add-mul}
use native.Mathlib.Omega.{arith}
use Rattle.field.specs.Mul.{mul}
use Rattle.linear.proofs.Buffer.{row_room}
use Rattle.decomposition.specs.Layout.{Sizes}
use Rattle.decomposition.specs.declared.layouts.Layout.{Layout}
use Rattle.decomposition.proofs.Blocks.{block_join}
use Rattle.decomposition.proofs.Sizes.{block_room, unknowns_few, width_few}
use Rattle.decomposition.proofs.Value.{power_at}
use Rattle.decomposition.proofs.Whole.{sizes_of}
use Rattle.decomposition.proofs.Work.{next_block}
use Rattle.decomposition.proofs.bit_equations.put_polynomial.Goals as goal

-- the columns of unknown j of polynomial i lie among those of the unknowns
columns_room : {L : Layout} → Sizes L → (i j : ℕ) → i < L.terms → j < L.exponents
    → (i * L.exponents + j) * L.width + L.width ≤ L.unknowns * L.width
columns_room {L} z i j h g =
    let place : i * L.exponents + j < L.unknowns = omega (arith, block_room z h) in
    row_room L.width place (le_refl (L.unknowns * L.width))

pub overflow_add-first : goal.overflow_add-first
overflow_add-first c =
    let z = sizes_of c.args.input.now.problem.sizes in
    omega (arith, block_room z c.requires.1, unknowns_few z, c.loop-j-test.true)

pub overflow_mul-first-in-loop-j : goal.overflow_mul-first-in-loop-j
overflow_mul-first-in-loop-j c =
    let z = sizes_of c.args.input.now.problem.sizes in
    omega (arith, columns_room z c.args.i c.loop-j.j c.requires.1 c.loop-j-test.true, z.bit_room, z.few_bytes)

pub put_unknown-requires-clause-stride_in_bounds : goal.put_unknown-requires-clause-stride_in_bounds
put_unknown-requires-clause-stride_in_bounds c =
    let z = sizes_of c.args.input.now.problem.sizes in (
      omega (arith, c.requires.0, c.loop-j.auto.work),
      omega (arith, columns_room z c.args.i c.loop-j.j c.requires.1 c.loop-j-test.true, z.bit_room),
      omega (arith, width_few z, z.few_outputs),
      z.few_bytes,
    )

pub loop-j-preserved : goal.loop-j-preserved
loop-j-preserved c =
    let p = c.args.input.now.powers in
    let L = c.args.input.now.problem.layout in
    let first = c.args.i * L.exponents in
    let power = rw c.args.input.now.same_layout at (power_at (sizes_of p.sizes) p.x p.row p.powers c.loop-j.j) in
    let v = c.mul-v.ensures ∙ ap (mul L.width c.args.f) (power c.loop-j-test.true) in
    λ r h.
    rw (next_block c.loop-j.j L.width)
    (block_join ((first + c.loop-j.j) * L.width) L.width (c.loop-j.invariant r h) (add-mul first c.loop-j.j L.width)
    (c.put_unknown.ensures r (first + c.loop-j.j) refl (h c.loop-j.j c.loop-j-test.true ∙ sym v)))

pub returns : goal.returns
returns c =
    let e : c.loop-j.j ≡ c.args.input.now.problem.layout.exponents = omega (arith, c.loop-j.auto.j-end, c.loop-j-test.false) in
    λ r h. rw e at (c.loop-j.invariant r h)
