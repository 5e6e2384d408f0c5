-- `calling::watch` meets its contract: the step numbers are tested, and then a run is watched, by nobody where there are none.
use mathlib.Core.Path.{◌≡◌, refl, sym, ap, ◌∙◌}
use mathlib.Core.Bool.{and-eq-true_iff}
use Prim.Native.Nat.{◌≤◌}
use native.Mathlib.Omega.{arith}
use borrow.Author.Tests.{eqb-true, leb-true, le-leb}
use lib.ListN.{length}
use Rattle.std.proofs.lemmas.List.{nil_from_length}
use Rattle.refusal.specs.Outcome.{done}
use Rattle.refusal.proofs.Outcome.{refuses, succeeds}
use Rattle.refusal.proofs.Exits.{reports}
use Rattle.steps.specs.Taken.{handed}
use Rattle.steps.specs.Watch.{watched}
use Rattle.steps.specs.Call.{watch_outcome, watch_output}
use Rattle.steps.specs.Ciphering.{Ciphering, accepted, call_tests, call_of, Callable, InBytes}
use Rattle.steps.proofs.Exec.{went_whole}
use Rattle.steps.proofs.Parts.{went_after}
use Rattle.steps.proofs.Ciphering.{tests_passed, in_bytes, call_ready, call_counts_lem, call_watched}
use Rattle.steps.proofs.calling.watch.Given.{Over}
use Rattle.steps.proofs.calling.watch.Goals.{In_ok-count}
use Rattle.steps.proofs.calling.watch.Goals as goal

-- the operation
abbrev operation : (g : Over) → In_ok-count g → Ciphering
operation g c = accepted g.row.WIDTH g.C.Ciphering.KEY g.C.Ciphering.BLOCK (g.C.Ciphering.cipher c.args.cipher.now) c.args.s

pub returns-in_err-count : goal.returns-in_err-count
unfolding call_of call_tests watch_outcome
returns-in_err-count g c = refuses (reports handed _ _ c.from_residual.ensures.1) (rw (← c.list_fits-fits.ensures, c.in_err-count.ensures))

-- past the tests
callable : (g : Over) (c : In_ok-count g)
    → Callable (operation g c) c.args.key.now c.args.block.now c.args.random.now
    × (length c.args.list.now ≡ length c.args.values.now) × (length c.args.list.now ≤ 64)
unfolding call_tests
callable g c =
    let p = tests_passed (operation g c) c.args.key.now c.args.block.now c.args.random.now _ (rw c.list_fits-fits.ensures at c.in_ok-count.ensures.1) in
    let fits = (and-eq-true_iff _ _).0 p.1 in
    (p.0, eqb-true _ _ fits.0, leb-true _ _ fits.1)

-- what is lent are bytes
lies : (g : Over) (c : In_ok-count g) → InBytes (operation g c) c.args.key.now c.args.block.now c.args.random.now
lies g c =
    in_bytes {c = operation g c} c.in_ok-count.ensures.2
    (λ j. omega (arith, c.type_inv.key j)) (λ j. omega (arith, c.type_inv.block j)) (λ j. omega (arith, c.type_inv.random j))

pub returns-in_err-refuse_past : goal.returns-in_err-refuse_past
unfolding call_of call_tests watch_outcome
returns-in_err-refuse_past g c =
    let past = rw (c.step_count.ensures, c.in_ok-count.ensures.0) at c.in_err-refuse_past.ensures in
    refuses (reports handed _ _ c.from_residual-in_err-refuse_past.ensures.1)
    (rw (← c.list_fits-fits.ensures, c.in_ok-count.ensures.1) (past _))

-- ---- without numbers

pub run-requires : goal.run-requires
run-requires g c =
    let at = (goal.at.run-requires g c).In_ok-count in
    let p = callable g at in
    let sizes = g.met.C.Ciphering.sizes in
    rw (c.in_ok-count.ensures.0, c.new-unwatched.ensures.random, c.new-unwatched.ensures.counts) (
      omega (arith, sizes.1, sizes.2),
      ((p.0.some, p.0.key_length, p.0.block_length), (call_ready {c = operation g at} at.in_ok-count.ensures.2 p.0 (lies g at) refl, (lies g at).random_small)),
    )

pub returns-then-is_empty : goal.returns-then-is_empty
unfolding call_of call_tests watch_outcome watch_output watched
returns-then-is_empty g c =
    let at = (goal.at.returns-then-is_empty g c).In_ok-count in
    let p = callable g at in
    let below = rw (c.step_count.ensures, c.in_ok-count.ensures.0) at c.in_ok-refuse_past.ensures in
    let none = eqb-true _ _ (sym c.is_empty.ensures ∙ c.if-is_empty.true) in
    let whole = went_whole (rw (c.in_ok-count.ensures.0, c.new-unwatched.ensures.random, c.new-unwatched.ensures.counts) at c.run.ensures.went.1) in
    succeeds
    (rw (← c.list_fits-fits.ensures, c.in_ok-count.ensures.1, le-leb _ _ below)
    (ap done (call_counts_lem (operation g at) _ _ _ whole ∙ sym c.taken.ensures)))
    (rw (nil_from_length c.args.list.now none, nil_from_length c.args.values.now (sym p.1 ∙ none)) refl)

-- ---- with numbers

pub run-requires-2 : goal.run-requires-2
run-requires-2 g c =
    let at = (goal.at.run-requires-2 g c).In_ok-count in
    let p = callable g at in
    let sizes = g.met.C.Ciphering.sizes in
    rw (c.in_ok-count.ensures.0, c.new-machine.ensures.random, c.new-machine.ensures.counts, c.new-machine.ensures.recorder, c.new.ensures.list) (
      omega (arith, sizes.1, sizes.2),
      (
        (p.0.some, p.0.key_length, p.0.block_length),
        (call_ready {c = operation g at} at.in_ok-count.ensures.2 p.0 (lies g at) (sym (c.new.ensures.places p.2)), (lies g at).random_small),
      ),
    )

pub copy_to-requires : goal.copy_to-requires
copy_to-requires g c =
    let at = (goal.at.copy_to-requires g c).In_ok-count in
    let p = callable g at in
    let went =
    rw (c.in_ok-count.ensures.0, c.new-machine.ensures.random, c.new-machine.ensures.counts, c.new-machine.ensures.recorder, c.new.ensures.list)
    at c.run-2.ensures.went.1 in
    let after = went_after (call_ready {c = operation g at} at.in_ok-count.ensures.2 p.0 (lies g at) (sym (c.new.ensures.places p.2))) went in
    rw after.same_watch (p.2, sym p.1)

pub returns : goal.returns
unfolding call_of call_tests watch_outcome
returns g c =
    let at = (goal.at.returns g c).In_ok-count in
    let p = callable g at in
    let below = rw (c.step_count.ensures, c.in_ok-count.ensures.0) at c.in_ok-refuse_past.ensures in
    let went =
    rw (c.in_ok-count.ensures.0, c.new-machine.ensures.random, c.new-machine.ensures.counts, c.new-machine.ensures.recorder, c.new.ensures.list)
    at c.run-2.ensures.went.1 in
    succeeds
    (rw (← c.list_fits-fits.ensures, c.in_ok-count.ensures.1, le-leb _ _ below)
    (ap done (call_counts_lem (operation g at) _ _ _ (went_whole went) ∙ sym c.taken-2.ensures)))
    (c.copy_to.ensures ∙ call_watched {c = operation g at} at.in_ok-count.ensures.2 p.0 (lies g at) (sym (c.new.ensures.places p.2)) below went)
