-- `watch_sbox` meets its contract: the step numbers are tested, and then a run is watched.
use mathlib.Core.Bool.{and-eq-true_iff}
use mathlib.Core.Path.{◌≡◌, refl, sym, ap, ◌∙◌}
use Prim.Native.Nat.{◌≤◌}
use native.Mathlib.Omega.{arith}
use borrow.Author.Tests.{eqb-true, leb-true, le-leb}
use lib.ListN.{length}
use Rattle.xor.specs.Sum.{Small}
use Rattle.refusal.specs.Outcome.{done}
use Rattle.refusal.proofs.Outcome.{refuses, succeeds}
use Rattle.refusal.proofs.Exits.{reports}
use Rattle.steps.specs.Taken.{handed}
use Rattle.steps.specs.Machine.{Whole}
use Rattle.steps.specs.Program.{result, trace}
use Rattle.steps.specs.Watch.{watched}
use Rattle.steps.specs.Call as call
use Rattle.decomposition.specs.Record.{outputs_of, width_of}
use Rattle.sbox.specs.Figures.{sbox_steps}
use Rattle.sbox.specs.Operations.{Callable, watch_outcome, watch_output, sbox_call}
use Rattle.sbox.proofs.Calls.{passed_call, call_counts_lem, width_is, outputs_is}
use Rattle.sbox.proofs.Passed.{at_call}
use Rattle.sbox.proofs.watching.watch_sbox.Goals.{In_ok-call, After-step_count}
use Rattle.sbox.proofs.watching.watch_sbox.Goals as goal

pub returns-in_err-call : goal.returns-in_err-call
unfolding watch_outcome sbox_call call.watch_outcome
returns-in_err-call c =
    refuses (reports handed _ _ c.from_residual.ensures.1) (rw (← c.list_fits-fits.ensures, ← c.in_err-call.ensures.outcome) refl)

-- past the tests but the last
past : (c : In_ok-call) → Callable (width_of c.args.bytes.now) c.args.bytes.now c.args.s c.args.shares.now c.args.random.now
    × (length c.args.list.now ≡ length c.args.values.now) × (length c.args.list.now ≤ 64)
past c =
    let bytes : Small 8 c.args.random.now = λ j. omega (arith, c.type_inv.random j) in
    let p = passed_call _ _ _ _ _ bytes (sym (rw c.list_fits-fits.ensures at c.in_ok-call.ensures.outcome)) in
    let fits = (and-eq-true_iff _ _).0 p.1 in
    (p.0, eqb-true _ _ fits.0, leb-true _ _ fits.1)

-- how many steps there are
total : (c : After-step_count) → c.step_count.result ≡ sbox_steps (width_of c.args.bytes.now) (outputs_of c.args.bytes.now) c.args.s
total c =
    let call = c.in_ok-call.ensures.accepted in
    rw (width_is c.args.bytes.now call.layout, outputs_is c.args.bytes.now call.layout, call.count) at c.step_count.ensures

pub returns-in_err-refuse_past : goal.returns-in_err-refuse_past
unfolding watch_outcome sbox_call call.watch_outcome
returns-in_err-refuse_past c =
    let past = rw (total (goal.at.returns-in_err-refuse_past c).After-step_count) at c.in_err-refuse_past.ensures in
    refuses (reports handed _ _ c.from_residual-in_err-refuse_past.ensures.1) (rw (← c.list_fits-fits.ensures, ← c.in_ok-call.ensures.outcome) (past _))

pub watched-counts-requires-clause-places : goal.watched-counts-requires-clause-places
watched-counts-requires-clause-places c =
    let p = past (goal.at.watched-counts-requires-clause-places c).In_ok-call in (p.2, p.1)

pub returns : goal.returns
unfolding watch_outcome sbox_call call.watch_outcome watch_output call.watch_output
returns c =
    let p = past (goal.at.returns c).In_ok-call in
    let call = c.in_ok-call.ensures.accepted in
    let below = rw (total (goal.at.returns c).After-step_count) at c.in_ok-refuse_past.ensures in
    let whole = at_call call (λ tape m. Whole tape m (result m tape) c.watched-counts.result) c.watched-counts.ensures.counts in
    let shown = at_call call (λ tape m. c.watched-counts.new.values ≡ watched c.args.list.now (trace m tape)) c.watched-counts.ensures.values in
    let taken = rw (width_is c.args.bytes.now call.layout) at c.taken.ensures in
    succeeds (rw (← c.list_fits-fits.ensures, ← c.in_ok-call.ensures.outcome, le-leb _ _ below) (ap done (call_counts_lem p.0 whole ∙ sym taken))) shown
