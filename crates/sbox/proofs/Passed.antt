-- A call that passed the tests: its run is that of the call, it may run, and what a watch of it leaves.
use mathlib.Core.Path.{◌≡◌, refl, subst}
use mathlib.Core.List.{List, []}
use Prim.Native.Nat.{ℕ, ◌≤◌, ◌<◌}
use native.Mathlib.Omega.{arith}
use lib.ListN.{length}
use Rattle.refusal.specs.Outcome.{done}
use Rattle.refusal.specs.Large.{first_large}
use Rattle.steps.specs.Program.{Run, trace}
use Rattle.steps.specs.Tape.{elements}
use Rattle.steps.specs.Watch.{watched}
use Rattle.steps.specs.Machine.{State, start_of, Ready, Went}
use Rattle.steps.specs.Call.{Call, watch_output}
use Rattle.steps.proofs.Call as call
use Rattle.decomposition.specs.declared.layouts.Layout.{Layout}
use Rattle.decomposition.specs.Record.{layout_of, coefficients_of, width_of}
use Rattle.decomposition.proofs.Sizes.{each_pair}
use Rattle.sbox.specs.Figures.{sbox_steps}
use Rattle.sbox.specs.Operations.{Callable, layout_program, call_program}
use Rattle.sbox.specs.Passed.{Passed}
use Rattle.sbox.specs.Accepted.{IsCall, program_of, tape_of}
use Rattle.sbox.specs.declared.calling.AcceptedCall.{AcceptedCall}
use Rattle.sbox.proofs.Counts.{figures_4_4, figures_6_6, figures_6_4}
use Rattle.sbox.proofs.Calls.{call_takes, few_taken, of_pair, width_is, outputs_is}

-- what the tests leave of a call
pub passed_lem : (r : List ℕ) {L : Layout} → L ≡ layout_of r → {cs : List ℕ} → cs ≡ coefficients_of r → {s k : ℕ} → k ≡ s → {shares random : List ℕ}
    → Callable (width_of r) r s shares random → Passed L cs k shares random
unfolding call_program
passed_lem r l e f a = record {
  of_pair = of_pair r l a.accepted.pair;
  some = omega (arith, f, a.some);
  nine = omega (arith, a.shares_length, a.nine);
  takes = rw (width_is r l, outputs_is r l, e, f) (call_takes a);
  enough = rw (width_is r l, outputs_is r l, f) a.random_length;
}

-- ---- what holds of its random elements and its program holds of those of the call

module _ {r : List ℕ} {s : ℕ} {shares random : List ℕ} {c : AcceptedCall} (i : IsCall r s shares random c) where
  tape_is : tape_of c ≡ elements (width_of r) random
  tape_is = rw (width_is r i.layout, i.random_lent) refl

  program_is : program_of c ≡ call_program r s shares
  unfolding call_program
  program_is = rw (width_is r i.layout, outputs_is r i.layout, i.coefficients, i.count, i.shares_lent) refl

  pub at_call : (P : List ℕ → Run (List ℕ) → Type 0) → P (tape_of c) (program_of c) → P (elements (width_of r) random) (call_program r s shares)
  at_call P h =
      let same : P (tape_of c) (call_program r s shares) = subst (λ (m : Run (List ℕ)). P (tape_of c) m) program_is h in
      subst (λ (tape : List ℕ). P tape (call_program r s shares)) tape_is same

-- ---- its run

module _ {L : Layout} {cs : List ℕ} {s : ℕ} {shares random : List ℕ} (nine : s ≤ 9) (p : Passed L cs s shares random) where
  -- its run, as a call
  run_of : Call
  run_of = record { tests = λ fits. done []; program = layout_program L cs s shares; width = L.width; random = random; total = sbox_steps L.width L.outputs s }

  pub passed_ready : {watch vs : List ℕ} → length watch ≡ length vs → Ready (layout_program L cs s shares) (start_of (elements L.width random) watch vs)
  unfolding run_of
  passed_ready e =
      let few = few_taken L.width L.outputs s p.of_pair.pair nine in
      call.call_ready run_of p.takes (omega arith) (omega arith) (omega arith) p.enough e

  some_steps : 0 < sbox_steps L.width L.outputs s
  some_steps =
      each_pair (λ n m. 0 < sbox_steps n m s) (omega (arith, p.some, figures_4_4 s)) (omega (arith, p.some, figures_6_6 s))
      (omega (arith, p.some, figures_6_4 s)) L.width L.outputs p.of_pair.pair

  -- what a watch leaves, where each number of the list is that of a step
  pub passed_watched : {list vs x : List ℕ} {t : State} → length list ≡ length vs → length list ≤ first_large (sbox_steps L.width L.outputs s) list
      → Went (layout_program L cs s shares) (start_of (elements L.width random) list vs) x t
      → t.values ≡ watched list (trace (layout_program L cs s shares) (elements L.width random))
  unfolding run_of watch_output
  passed_watched = call.call_watched run_of p.takes some_steps
