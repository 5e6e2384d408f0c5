-- The laws of calls: the arguments that pass the tests, and what a run hands back and writes.
use mathlib.Core.Path.{◌≡◌, refl, sym, ap, ap₂, ◌∙◌}
use mathlib.Core.Bool.{Bool, true, cond, and-eq-true_iff}
use mathlib.Core.List.{List, [], ◌∷◌, ◌++◌}
use Prim.Native.Nat.{ℕ, ◌+◌, ◌-◌, ◌^◌, ◌≤◌, ◌<◌}
use native.Mathlib.Decide.{dec_lt}
use native.Mathlib.Omega.{arith}
use borrow.Author.Tests.{eqb-true, eq-eqb, leb-true}
use lib.Dec.{leb, eqb}
use lib.ListN.{length, length-drop, drop, take, replicate, get_or-append, get_or-eq_default}
use lib.Seq.{get_or-append-add, get_or-drop, get_or-take, length-take-le}
use Rattle.steps.proofs.Sharing.{share_zeros}
use lib.Pow.{pow_pos}
use Rattle.xor.specs.Sum.{join, Small}
use Rattle.refusal.specs.Outcome.{Outcome, done, and_then}
use Rattle.refusal.specs.Watch.{list_fits, test_steps}
use Rattle.refusal.specs.Range.{one_to}
use Rattle.refusal.specs.Large.{first_large}
use Rattle.refusal.proofs.Outcome.{passed, then_passed}
use Rattle.refusal.proofs.Range.{one_to_range}
use Rattle.refusal.proofs.Large.{all_small, both_small}
use Rattle.steps.specs.Sharing.{share, Sharing, Filled}
use Rattle.steps.specs.Fill.{tabulate}
use Rattle.steps.proofs.Fill.{tabulate_get_or, tabulate_same}
use Rattle.steps.specs.Tape.{elements, bytes_for}
use Rattle.steps.specs.declared.counts.Counts.{Counts}
use Rattle.steps.specs.Machine.{State, start_of, Ready, Went, Whole}
use Rattle.steps.specs.Taken.{handed_back}
use Rattle.steps.specs.Call.{call_counts, Takes}
use Rattle.steps.specs.Call as call_spec
use Rattle.steps.proofs.Call as call
use Rattle.steps.proofs.Tape.{elements_nibbles}
use Rattle.decomposition.specs.Layout.{head, layout, Known, Pair}
use Rattle.decomposition.specs.declared.layouts.Layout.{Layout}
use Rattle.decomposition.specs.Record.{coefficients_of, layout_of, version_of, width_of, outputs_of, read_outcome, Accepted}
use Rattle.decomposition.proofs.ReadOutcome.{read_values}
use Rattle.decomposition.proofs.Sizes.{each_pair, known_both, layout_outputs, layout_width}
use Rattle.sbox.specs.Form.{basis_in, solution_in}
use Rattle.sbox.specs.Figures.{sbox_products, sbox_draws, sbox_steps}
use Rattle.sbox.specs.Sbox.{sbox}
use Rattle.sbox.specs.Operations.{call_program, sbox_call, sbox_lengths, tested_random, argument_tests, call_tests, sbox_output, watch_output, SameShares, Callable, OfPair, watch_outcome}
use Rattle.sbox.proofs.Places.{sbox_same}
use Rattle.sbox.proofs.Record.{accepted_record}
use Rattle.sbox.proofs.Counts.{figures_4_4, figures_6_6, figures_6_4}
use Rattle.sbox.proofs.Runs.{takes}
use Rattle.product.proofs.Counts.{few_pairs}

-- ---- numbers stay small

pub few_taken : (n m s : ℕ) → Pair n m → s ≤ 9 → (sbox_products n m < 6) × (sbox_draws n m s < 200) × (sbox_steps n m s < 4000)
few_taken n m s w h =
    each_pair (λ n m. (sbox_products n m < 6) × (sbox_draws n m s < 200) × (sbox_steps n m s < 4000))
    (omega (arith, few_pairs h, figures_4_4 s)) (omega (arith, few_pairs h, figures_6_6 s)) (omega (arith, few_pairs h, figures_6_4 s)) n m w

-- ---- a record that Read accepts, by the layout and the coefficients that it hands on

module _ (r : List ℕ) {L : Layout} (l : L ≡ layout_of r) where
  pub width_is : L.width ≡ width_of r
  width_is = ap (λ (M : Layout). M.width) l ∙ layout_width (width_of r) (outputs_of r)

  pub outputs_is : L.outputs ≡ outputs_of r
  outputs_is = ap (λ (M : Layout). M.outputs) l ∙ layout_outputs (width_of r) (outputs_of r)

  pub of_pair : Pair (width_of r) (outputs_of r) → OfPair L
  of_pair pair = record { pair = rw (width_is, outputs_is) pair; layout_is = l ∙ sym (ap₂ layout width_is outputs_is) }

-- ---- a call that passes the tests

-- the record has as many coefficients as the code asks
pub record_room : {n : ℕ} {r : List ℕ} → Accepted n r → (layout n (outputs_of r)).coefficients ≤ length (coefficients_of r)
record_room {n} {r} a = omega (arith, length-drop (head (version_of r)) r, a.whole)

-- the lengths that a call takes, and that these are all
pub call_lengths_lem : (n m s shares random : ℕ) (fits : Bool) → sbox_lengths n m s shares random fits ≡ true
    → (shares ≡ s) × (random ≡ bytes_for n (sbox_draws n m s)) × (fits ≡ true)
unfolding sbox_lengths
call_lengths_lem n m s shares random fits e =
    let a = (and-eq-true_iff (eqb shares s) _).0 e in
    let b = (and-eq-true_iff (eqb random (bytes_for n (sbox_draws n m s))) fits).0 a.1 in
    (eqb-true _ _ a.0, eqb-true _ _ b.0, b.1)

pub call_lengths_right : (n m s shares random : ℕ) (fits : Bool) → shares ≡ s → random ≡ bytes_for n (sbox_draws n m s) → fits ≡ true
    → sbox_lengths n m s shares random fits ≡ true
unfolding sbox_lengths
call_lengths_right n m s shares random fits es er ef = rw (eq-eqb shares s es, eq-eqb random (bytes_for n (sbox_draws n m s)) er, ef) refl

-- the random elements are small where those that are tested are
tested_small : (n : ℕ) → Known n → (random : List ℕ) → Small 8 random → Small n (tested_random n random) → Small n (elements n random)
unfolding tested_random
tested_small n w random bytes =
    known_both (λ n. Small n (cond (eqb n 4) [] (elements n random)) → Small n (elements n random)) (λ h. elements_nibbles random bytes) (λ h. h) n w

-- where the tests are passed, so is each of them
pub passed_call : (r : List ℕ) (s : ℕ) (shares random : List ℕ) (fits : Bool) → Small 8 random
    → {v : List ℕ} → call_tests r s shares random fits ≡ done v
    → Callable (width_of r) r s shares random × (fits ≡ true) × (done (width_of r ∷ []) ≡ done v)
unfolding call_tests argument_tests
passed_call r s shares random fits bytes e =
    let n = width_of r in
    let m = outputs_of r in
    let a = then_passed (read_outcome r) _ e in
    let b = passed (one_to 9 s) 7 0 _ a.2 in
    let c = passed (sbox_lengths n m s (length shares) (length random) fits) 2 0 _ b.1 in
    let lengths = call_lengths_lem n m s (length shares) (length random) fits c.0 in
    let l = shares ++ tested_random n random in
    let g = passed (leb (length l) (first_large (2 ^ n) l)) 3 (0 + first_large (2 ^ n) l) _ c.1 in
    let small = both_small (2 ^ n) shares (tested_random n random) (leb-true (length l) (first_large (2 ^ n) l) g.0) in
    let range = one_to_range 9 s b.0 in
    let accepted = (read_values r a.1).0 in
    let callable : Callable n r s shares random = record {
      accepted = accepted;
      some = range.0;
      nine = range.1;
      shares_length = lengths.0;
      random_length = lengths.1;
      shares_small = all_small (2 ^ n) shares (pow_pos n) small.0;
      random_small = tested_small n accepted.pair.width random bytes (all_small (2 ^ n) (tested_random n random) (pow_pos n) small.1);
    } in
    (callable, lengths.2, g.1)

-- ---- its run

-- s small elements are a sharing of their sum
pub sharing_of : (n s : ℕ) (a : List ℕ) → length a ≡ s → Small n a → Sharing n s (join a) a
sharing_of n s a e h = record { small = h; past = λ i l. get_or-eq_default a 0 {n = i} (omega arith); joins = refl }

-- what a call takes
module _ {n s : ℕ} {r shares random : List ℕ} (a : Callable n r s shares random) where
  pub call_takes : Takes (call_program r s shares) (elements (width_of r) random) (sbox_products n (outputs_of r)) (sbox_draws n (outputs_of r) s) (sbox_steps n (outputs_of r) s)
  unfolding call_program
  call_takes =
      let accepted = accepted_record n r a.accepted in
      let sharing = sharing_of n s shares a.shares_length a.shares_small in
      rw a.accepted.named (takes accepted s (join shares) shares (elements n random) a.some a.nine sharing a.random_small)

  -- it may run
  pub call_ready : {watch vs : List ℕ} → length watch ≡ length vs → Ready (call_program r s shares) (start_of (elements n random) watch vs)
  unfolding sbox_call
  call_ready {watch} {vs} e =
      let few = few_taken n (outputs_of r) s a.accepted.pair a.nine in
      let bytes : length random ≡ bytes_for (width_of r) (sbox_draws n (outputs_of r) s) = rw a.accepted.named a.random_length in
      let ready : Ready (call_program r s shares) (start_of (elements (width_of r) random) watch vs) =
      call.call_ready (sbox_call r s shares random) call_takes (omega arith) (omega arith) (omega arith) bytes e in
      rw a.accepted.named at ready

-- x has the same shares as those lent
pub call_program_lem : {n s : ℕ} {r shares random : List ℕ} (x : List ℕ) → Callable n r s shares random → SameShares x shares
    → sbox n s (basis_in n (outputs_of r) (coefficients_of r)) (solution_in n (outputs_of r) (coefficients_of r)) x ≡ call_program r s shares
unfolding call_program
call_program_lem {n} {s} {r} {shares} x a same = rw a.accepted.named (sbox_same n s x shares (λ i h. same i) (basis_in n (outputs_of r) (coefficients_of r)) (solution_in n (outputs_of r) (coefficients_of r)))

-- what a call's run hands back and writes
module _ {n s : ℕ} {r shares random : List ℕ} (a : Callable n r s shares random) where
  pub call_counts_lem : {x : List ℕ} {c : Counts} → Whole (elements n random) (call_program r s shares) x c
      → call_counts (sbox_call r s shares random) ≡ handed_back n c
  unfolding sbox_call
  call_counts_lem {x} {c} w =
      let v : Whole (elements (width_of r) random) (call_program r s shares) x c = rw a.accepted.named w in
      call.call_counts_lem (sbox_call r s shares random) v ∙ ap (λ (k : ℕ). handed_back k c) a.accepted.named

  pub call_output : {x : List ℕ} {c : Counts} → Whole (elements n random) (call_program r s shares) x c
      → tabulate s (share x) ≡ sbox_output r s shares random
  unfolding sbox_output sbox_call
  call_output {x} {c} w =
      let v : Whole (elements (width_of r) random) (call_program r s shares) x c = rw a.accepted.named w in
      ap (λ (y : List ℕ). tabulate s (share y)) (call.call_result_lem (sbox_call r s shares random) v)

  -- what a watch leaves, where each number of the list is that of a step
  some_steps : 0 < sbox_steps n (outputs_of r) s
  some_steps =
      each_pair (λ n m. 0 < sbox_steps n m s) (omega (arith, a.some, figures_4_4 s)) (omega (arith, a.some, figures_6_6 s))
      (omega (arith, a.some, figures_6_4 s)) n (outputs_of r) a.accepted.pair

  pub call_watched : {list vs x : List ℕ} {t : State} → length list ≡ length vs → length list ≤ first_large (sbox_steps n (outputs_of r) s) list
      → Went (call_program r s shares) (start_of (elements n random) list vs) x t → t.values ≡ watch_output r s shares random list
  unfolding watch_output sbox_call
  call_watched {list} {vs} {x} {t} e below w =
      let v : Went (call_program r s shares) (start_of (elements (width_of r) random) list vs) x t = rw a.accepted.named w in
      call.call_watched (sbox_call r s shares random) (call_takes a) some_steps e below v

  -- what a watch answers, once the tests but the last are passed
  pub watch_tests : (list : List ℕ) (values : ℕ) {v : List ℕ} → call_tests r s shares random (list_fits (length list) values) ≡ done v
      → watch_outcome r s shares random list values ≡ test_steps (sbox_steps n (outputs_of r) s) list (done (call_counts (sbox_call r s shares random)))
  unfolding watch_outcome sbox_call call_spec.watch_outcome
  watch_tests list values e =
      ap (λ (o : Outcome). and_then o (test_steps (sbox_steps (width_of r) (outputs_of r) s) list (done (call_counts (sbox_call r s shares random))))) e
      ∙ ap (λ (k : ℕ). test_steps (sbox_steps k (outputs_of r) s) list (done (call_counts (sbox_call r s shares random)))) a.accepted.named

-- ---- shares that are copied

pub nine_same : (l c : List ℕ) (i : ℕ) → length l ≤ i → Filled (share l) i c → i ≤ length l → SameShares c l
nine_same l c i h f k j = elim (dec_lt j i) [
  | yes g ↦ f.filled j g
  | no g ↦ f.past j (omega arith) ∙ sym (get_or-eq_default l 0 (omega arith))
]

-- the first n shares of a sharing
pub first_shares : (n : ℕ) (a : List ℕ) → n ≤ length a → take n a ≡ tabulate n (share a)
first_shares n a h =
    sym (tabulate_get_or (take n a) 0)
    ∙ ap (λ (m : ℕ). tabulate m (share (take n a))) (length-take-le n a h)
    ∙ tabulate_same n (share (take n a)) (share a) (λ i l. get_or-take n a i 0 l)
