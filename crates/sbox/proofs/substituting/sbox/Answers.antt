-- `sbox` meets its contract: a run that nobody watches, whose result is copied out.
use mathlib.Core.Path.{◌≡◌, refl, sym, ap, ◌∙◌}
use Prim.Native.Nat.{ℕ}
use native.Mathlib.Omega.{arith}
use borrow.Author.Tests.{eqb-true}
use lib.ListN.{length}
use Rattle.xor.specs.Sum.{Small}
use Rattle.refusal.specs.Outcome.{done}
use Rattle.refusal.proofs.Outcome.{refuses, succeeds}
use Rattle.refusal.proofs.Exits.{reports}
use Rattle.steps.specs.Taken.{handed}
use Rattle.steps.specs.Fill.{tabulate}
use Rattle.steps.specs.Sharing.{share}
use Rattle.steps.specs.Machine.{Whole}
use Rattle.steps.specs.Call.{call_outcome}
use Rattle.decomposition.specs.Record.{width_of}
use Rattle.sbox.specs.Operations.{Callable, sbox_outcome, sbox_call}
use Rattle.sbox.proofs.Calls.{passed_call, call_counts_lem, call_output, width_is, first_shares}
use Rattle.sbox.proofs.Passed.{at_call}
use Rattle.sbox.proofs.substituting.sbox.Goals.{In_ok-call}
use Rattle.sbox.proofs.substituting.sbox.Goals as goal

pub returns-in_err-call : goal.returns-in_err-call
unfolding sbox_outcome sbox_call call_outcome
returns-in_err-call c = refuses (reports handed _ _ c.from_residual.ensures.1) (rw (← c.in_err-call.ensures.outcome) refl)

-- past the tests
past : (c : In_ok-call) → Callable (width_of c.args.bytes.now) c.args.bytes.now c.args.s c.args.shares.now c.args.random.now
    × (length c.args.out.now ≡ c.args.s)
past c =
    let bytes : Small 8 c.args.random.now = λ j. omega (arith, c.type_inv.random j) in
    let p = passed_call _ _ _ _ _ bytes (sym c.in_ok-call.ensures.outcome) in
    (p.0, eqb-true _ _ p.1)

-- the result has a place for each share
pub store-requires : goal.store-requires
store-requires c = let p = past (goal.at.store-requires c).In_ok-call in omega (arith, p.1, p.0.nine, c.unwatched.type_inv)

pub returns : goal.returns
unfolding sbox_outcome sbox_call call_outcome
returns c =
    let p = past (goal.at.returns c).In_ok-call in
    let call = c.in_ok-call.ensures.accepted in
    let whole = at_call call (λ tape m. Whole tape m c.unwatched.result.0 c.unwatched.result.1) c.unwatched.ensures in
    let taken = rw (width_is c.args.bytes.now call.layout) at c.taken.ensures in
    succeeds (rw (← c.in_ok-call.ensures.outcome) (ap done (call_counts_lem p.0 whole ∙ sym taken)))
    (c.store.ensures ∙ first_shares _ _ (omega (arith, p.1, p.0.nine, c.unwatched.type_inv))
    ∙ ap (λ (n : ℕ). tabulate n (share c.unwatched.result.0)) p.1 ∙ call_output p.0 whole)
