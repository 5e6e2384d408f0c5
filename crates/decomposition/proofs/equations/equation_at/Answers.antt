-- `equations::equation_at` meets its contract. The invariant: the columns of i polynomials are written.
use mathlib.Core.Path.{◌≡◌, ◌∙◌, ap, sym}
use Prim.Native.Nat.{ℕ, ◌*◌}
use native.Mathlib.Omega.{arith}
use Rattle.field.specs.Mul.{mul}
use Rattle.linear.specs.Buffer.{Overwritten}
use Rattle.linear.proofs.Buffer.{overwritten_more, overwritten_values}
use Rattle.decomposition.specs.Form.{monomial, unknown_column}
use Rattle.decomposition.proofs.Columns.{column_at, equation_column, equation_right}
use Rattle.decomposition.proofs.Sizes.{block_room}
use Rattle.decomposition.proofs.Whole.{sizes_of}
use Rattle.decomposition.proofs.Work.{overwritten_join, next_block}
use Rattle.decomposition.proofs.equations.equation_at.Goals as goal

pub multiple-requires : goal.multiple-requires
multiple-requires c =
    let room = block_room (sizes_of c.args.input.now.problem.sizes) c.loop-i-test.true in
    rw c.args.input.now.same_layout (omega (arith, room, c.requires, c.loop-i.auto.work))

pub loop-i-preserved : goal.loop-i-preserved
loop-i-preserved c =
    let L = c.args.input.now.problem.layout in
    let x = c.args.input.now.powers.x in
    rw (next_block c.loop-i.i L.exponents)
    (overwritten_join c.loop-i.invariant (rw c.args.input.now.same_layout at c.multiple.ensures) (λ j l.
    ap (λ (y : ℕ). mul L.width y (monomial L.width x j)) c.factor-f.ensures ∙ sym (column_at L c.args.input.now.problem.basis.now x c.loop-i.i j l)))

pub returns : goal.returns
returns c =
    let p = c.args.input.now.problem in
    let L = p.layout in
    let x = c.args.input.now.powers.x in
    let e : c.loop-i.i ≡ L.terms = omega (arith, c.loop-i.auto.i-end, c.loop-i-test.false) in
    let all : c.loop-i.i * L.exponents ≡ L.unknowns = ap (λ (k : ℕ). k * L.exponents) e ∙ sym (sizes_of p.sizes).unknowns in
    let u : Overwritten c.args.work.now c.loop-i.work c.args.a L.unknowns (unknown_column L p.basis.now x) = rw all at c.loop-i.invariant in
    overwritten_more c.loop-i.work (overwritten_values u (λ j l. sym (equation_column L p.basis.now x c.args.v j l)))
    (omega (arith, c.requires, c.loop-i.auto.work)) c.args.v (sym (equation_right L p.basis.now x c.args.v))
