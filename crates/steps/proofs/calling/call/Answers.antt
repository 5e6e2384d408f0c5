-- `calling::call` meets its contract: a run that nobody watches, whose result is copied out.
use mathlib.Core.Path.{◌≡◌, refl, sym, ap, ◌∙◌}
use Prim.Native.Nat.{ℕ, ◌*◌, ◌≤◌}
use native.Mathlib.Nat.{mul-le-mul_left}
use native.Mathlib.Omega.{arith}
use borrow.Author.Tests.{eqb-true}
use borrow.Author.Rules.{rules}
use lib.ListN.{length, take}
use Rattle.refusal.specs.Outcome.{done}
use Rattle.refusal.proofs.Outcome.{refuses, succeeds}
use Rattle.refusal.proofs.Exits.{reports}
use Rattle.steps.specs.Taken.{handed}
use Rattle.steps.specs.Call.{call_outcome}
use Rattle.steps.specs.Ciphering.{Ciphering, accepted, call_tests, call_of, Callable, InBytes}
use Rattle.steps.proofs.Exec.{went_whole}
use Rattle.steps.proofs.Ciphering.{tests_passed, in_bytes, call_ready, call_counts_lem, call_output}
use Rattle.steps.proofs.calling.call.Given.{Over}
use Rattle.steps.proofs.calling.call.Goals.{In_ok-count}
use Rattle.steps.proofs.calling.call.Goals as goal

-- the operation
abbrev operation : (g : Over) → In_ok-count g → Ciphering
operation g c = accepted g.row.WIDTH g.C.Ciphering.KEY g.C.Ciphering.BLOCK (g.C.Ciphering.cipher c.args.cipher.now) c.args.s

pub returns-in_err-count : goal.returns-in_err-count
unfolding call_of call_tests call_outcome
returns-in_err-count g c = refuses (reports handed _ _ c.from_residual.ensures.1) (rw (rw c.block_bytes.ensures at c.in_err-count.ensures))

-- past the tests
callable : (g : Over) (c : In_ok-count g)
    → Callable (operation g c) c.args.key.now c.args.block.now c.args.random.now × (length c.args.out.now ≡ g.C.Ciphering.BLOCK * c.args.s)
unfolding call_tests
callable g c =
    let p = tests_passed (operation g c) c.args.key.now c.args.block.now c.args.random.now _ c.in_ok-count.ensures.1 in
    (p.0, eqb-true _ _ (rw c.block_bytes.ensures at p.1))

-- what is lent are bytes
lies : (g : Over) (c : In_ok-count g) → InBytes (operation g c) c.args.key.now c.args.block.now c.args.random.now
lies g c =
    in_bytes {c = operation g c} c.in_ok-count.ensures.2
    (λ j. omega (arith, c.type_inv.key j)) (λ j. omega (arith, c.type_inv.block j)) (λ j. omega (arith, c.type_inv.random j))

pub run-shares-requires : goal.run-shares-requires
run-shares-requires g c =
    let at = (goal.at.run-shares-requires g c).In_ok-count in
    let p = callable g at in
    let sizes = g.met.C.Ciphering.sizes in
    rw (c.in_ok-count.ensures.0, c.new-machine.ensures.random, c.new-machine.ensures.counts) (
      omega (arith, sizes.1, sizes.2),
      ((p.0.some, p.0.key_length, p.0.block_length), (call_ready {c = operation g at} at.in_ok-count.ensures.2 p.0 (lies g at) refl, (lies g at).random_small)),
    )

-- the bytes of nine shares
places : (g : Over) {s : ℕ} → s ≤ 9 → g.C.Ciphering.BLOCK * s ≤ g.row.PLACES
places g h = let sizes = g.met.C.Ciphering.sizes in omega (arith, sizes.2, mul-le-mul_left g.C.Ciphering.BLOCK h)

pub store-requires : goal.store-requires
store-requires g c =
    let p = callable g (goal.at.store-requires g c).In_ok-count in
    rw p.1 (search (rules, places g p.0.nine))

pub returns : goal.returns
unfolding call_of call_tests call_outcome
returns g c =
    let at = (goal.at.returns g c).In_ok-count in
    let p = callable g at in
    let o = operation g at in
    let went = c.run-shares.ensures.went in
    let whole = went_whole (rw (c.in_ok-count.ensures.0, c.new-machine.ensures.random, c.new-machine.ensures.counts) at went.1) in
    succeeds
    (rw (rw c.block_bytes.ensures at c.in_ok-count.ensures.1)
    (ap done (call_counts_lem o c.args.key.now c.args.block.now c.args.random.now whole ∙ sym c.taken.ensures)))
    (c.store.ensures.copied ∙ ap (λ (n : ℕ). take n c.run-shares.result) p.1
    ∙ rw c.in_ok-count.ensures.0 at (went.2 c.store.ensures.bytes (search (rules, places g c.in_ok-count.count.few))) ∙ call_output o c.args.key.now c.args.block.now c.args.random.now whole)
