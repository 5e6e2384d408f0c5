-- `fitting::find` meets its contract.
use mathlib.Core.Path.{◌≡◌, ◌∙◌, ap, refl}
use Prim.Native.Nat.{◌-◌, ℕ, ◌+◌}
use native.Mathlib.Omega.{arith}
use lib.ListN.{length, drop}
use Rattle.std.proofs.lemmas.Result.{MatchResult-at_err, MatchResult-at_ok}
use borrow.Rule.Slice.PartMut.{put_mid, put_same}
use Rattle.refusal.specs.declared.refusals.Refusal.TheVariants.{Undecomposable}
use Rattle.refusal.specs.Refusals.{nothing}
use Rattle.refusal.proofs.Exits.{exits}
use Rattle.decomposition.specs.Record.{headed}
use Rattle.decomposition.proofs.Solved.{error_of, put_tail, success_of}
use Rattle.decomposition.proofs.Whole.{sizes_of}
use Rattle.decomposition.proofs.fitting.find.Goals as goal

pub returns-in_err-or-clause-found : goal.returns-in_err-or-clause-found
returns-in_err-or-clause-found c =
    let head = 7 + c.args.problem.now.layout.basis in
    let rest = length c.args.out.now - head in
    let e = error_of _ c.or.ensures c.in_err-or.was in
    let none = MatchResult-at_err _ _ _ e.1 c.decompose-solved.ensures in
    rw (exits nothing _ _ Undecomposable c.from_residual.ensures.1 e.2 refl) record {
      number_is = refl;
      place_is = refl;
      none = none.0;
      unchanged = ap (put_mid head rest c.args.out.now) none.1 ∙ put_same head rest c.args.out.now;
    }

pub returns-clause-found : goal.returns-clause-found
returns-clause-found c =
    let p = c.args.problem.now in
    let head = 7 + p.layout.basis in
    let rest = length c.args.out.now - head in
    let unknowns = c.decompose-solved.new.p in
    let tail : drop (7 + length p.basis.now) (put_mid head rest c.args.out.now unknowns) ≡ unknowns =
    ap (λ (k : ℕ). drop (7 + k) (put_mid head rest c.args.out.now unknowns)) p.whole
    ∙ put_tail head rest c.args.out.now unknowns (omega (arith, c.requires.1, (sizes_of p.sizes).coefficients)) in
    record {
      p = unknowns;
      decomposition = MatchResult-at_ok _ _ _ (success_of _ _ c.or.ensures c.in_ok-or.was) c.decompose-solved.ensures;
      whole = c.write_head.ensures ∙ ap (headed p.layout.width p.layout.outputs p.basis.now) tail;
      nothing_more = refl;
    }
