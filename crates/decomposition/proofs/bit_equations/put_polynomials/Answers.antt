-- `bit_equations::put_polynomials` meets its contract. The invariant: the columns of i polynomials are written.
use mathlib.Core.Path.{◌≡◌, sym, ap, ◌∙◌}
use Prim.Native.Nat.{ℕ, ◌*◌, ◌+◌}
use native.Mathlib.Nat.{zero-add, add-mul}
use native.Mathlib.Omega.{arith}
use Rattle.field.specs.Mul.{mul}
use Rattle.decomposition.specs.Form.{monomial, unknown_column}
use Rattle.decomposition.proofs.Blocks.{block_join}
use Rattle.decomposition.proofs.Columns.{column_at}
use Rattle.decomposition.proofs.Whole.{sizes_of}
use Rattle.decomposition.proofs.Work.{next_block}
use Rattle.decomposition.proofs.bit_equations.put_polynomials.Goals as goal

pub loop-i-preserved : goal.loop-i-preserved
loop-i-preserved c =
    let L = c.args.input.now.problem.layout in
    let x = c.args.input.now.powers.x in
    let basis = c.args.input.now.problem.basis.now in
    let done = c.loop-i.i * L.exponents in
    let more : (c.loop-i.i + 1) * L.exponents * L.width ≡ done * L.width + L.exponents * L.width =
    ap (λ (k : ℕ). k * L.width) (next_block c.loop-i.i L.exponents) ∙ add-mul done L.exponents L.width in
    rw more
    (block_join (done * L.width) (L.exponents * L.width) c.loop-i.invariant (sym (zero-add (done * L.width)))
    (c.put_polynomial.ensures (unknown_column L basis x) (λ j h.
    column_at L basis x c.loop-i.i j h ∙ ap (λ (y : ℕ). mul L.width y (monomial L.width x j)) (sym c.factor.ensures))))

pub returns : goal.returns
returns c =
    let p = c.args.input.now.problem in
    let L = p.layout in
    let e : c.loop-i.i ≡ L.terms = omega (arith, c.loop-i.auto.i-end, c.loop-i-test.false) in
    let all : c.loop-i.i * L.exponents ≡ L.unknowns = ap (λ (k : ℕ). k * L.exponents) e ∙ sym (sizes_of p.sizes).unknowns in
    rw all at c.loop-i.invariant
