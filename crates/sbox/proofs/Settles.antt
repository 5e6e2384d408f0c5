-- A CHOICE SETTLES A CALL, AND A CALL A CHOICE. The call and the watch that a secret and a choice settle are accepted, with the paper's figures; and
-- every accepted call is settled by exactly one secret and choice. So to count choices is to count calls.
use mathlib.Core.Path.{◌≡◌, refl, sym, ◌∙◌}
use mathlib.Core.Bool.{Bool, true, false, cond}
use mathlib.Core.List.{List, [], ◌∷◌}
use Prim.Native.Nat.{ℕ, ◌-◌, ◌*◌, ◌/◌, ◌^◌, ◌≤◌, ◌<◌}
use native.Mathlib.Omega.{arith}
use lib.Dec.{eqb}
use lib.ListN.{length, get_or}
use lib.Pow.{pow_pos}
use borrow.Author.Tests.{eq-eqb}
use Rattle.xor.specs.Sum.{Small}
use Rattle.refusal.specs.Outcome.{done}
use Rattle.refusal.specs.Watch.{list_fits}
use Rattle.refusal.proofs.Large.{none_large, both_pass}
use Rattle.steps.specs.Tape.{elements}
use Rattle.steps.specs.Settled.{Settled}
use Rattle.steps.proofs.Tape.{small_elements, elements_nibbles}
use Rattle.steps.proofs.Settled.{lent_nil, lent_cons, lent_first, settled_lents, lent_settled}
use Rattle.steps.proofs.Call.{HandsBack}
use Rattle.steps.proofs.Call as call
use Rattle.steps.proofs.Operations.{in_range}
use Rattle.decomposition.specs.Record.{outputs_of, width_of, read_outcome}
use Rattle.decomposition.proofs.ReadOutcome.{read_accepted}
use Rattle.decomposition.proofs.Sizes.{known_both, outputs_4}
use Rattle.sbox.specs.Figures.{figures, sbox_steps}
use Rattle.sbox.specs.Experiment.{sbox_inputs}
use Rattle.sbox.specs.Operations.{sbox_call, tested_random, argument_tests, call_tests, sbox_outcome, watch_outcome}
use Rattle.sbox.proofs.Counts.{sbox_bytes_4}
use Rattle.sbox.proofs.Calls.{passed_call, call_lengths_right}
use Rattle.sbox.proofs.Answers.{counts_figures}

-- those of the random elements that are tested are small where all are
small_tested : (n : ℕ) (random : List ℕ) → Small n (elements n random) → Small n (tested_random n random)
unfolding tested_random
small_tested n random h = go (eqb n 4)
  where
    go : (b : Bool) → Small n (cond b [] (elements n random))
    go true i = pow_pos n
    go false i = h i

-- ---- from a choice to a call

module _ (r : List ℕ) (n s : ℕ) (read : read_outcome r ≡ done (n ∷ [])) (some : 0 < s) (nine : s ≤ 9)
    (shares random : List ℕ) (a : Settled (sbox_inputs n (outputs_of r) s) (shares ∷ []) random) where
  tests_pass : call_tests r s shares random true ≡ done (n ∷ [])
  unfolding call_tests argument_tests
  tests_pass =
      let lent = lent_first (settled_lents (sbox_inputs n (outputs_of r) s) some a) in
      rw (
        read,
        (read_accepted r n read).named,
        in_range 9 s some nine,
        call_lengths_right n (outputs_of r) s (length shares) (length random) true lent.0 a.choice.random_length refl,
      )
      (both_pass (2 ^ n) shares (tested_random n random) (done (n ∷ [])) (none_large (2 ^ n) shares lent.1)
      (none_large (2 ^ n) (tested_random n random) (small_tested n random a.choice.random_small)))

  -- the random elements lie in bytes
  pub random_bytes : Small 8 random
  random_bytes =
      small_elements n random (known_both (λ n. n ≤ 8) (omega arith) (omega arith) n (read_accepted r n read).pair.width) a.choice.random_small

  hands_back : HandsBack (sbox_call r s shares random) (figures n (outputs_of r) s)
  hands_back = rw (read_accepted r n read).named at (counts_figures r s shares random random_bytes)

  -- WHAT A SECRET AND A CHOICE SETTLE, S-box accepts, and hands back the figures;
  pub call_accepted : sbox_outcome r s shares random s ≡ done (figures n (outputs_of r) s)
  unfolding sbox_outcome sbox_call
  call_accepted = rw (eq-eqb s s refl) (call.call_accepted (sbox_call r s shares random) tests_pass hands_back)

  -- and so does Watch S-box, with any list of up to 64 step numbers.
  pub watch_accepted : (list : List ℕ) → length list ≤ 64 → ((k : ℕ) → get_or list k 0 < sbox_steps n (outputs_of r) s)
      → watch_outcome r s shares random list (length list) ≡ done (figures n (outputs_of r) s)
  unfolding watch_outcome sbox_call
  watch_accepted list few below =
      call.watch_accepted (sbox_call r s shares random) tests_pass hands_back list few (rw (read_accepted r n read).named below)

-- ---- at width 4

module _ (r : List ℕ) (s : ℕ) (read : read_outcome r ≡ done (4 ∷ [])) (some : 0 < s) (nine : s ≤ 9)
    (shares random : List ℕ) (shares_length : length shares ≡ s) (shares_small : Small 4 shares)
    (random_length : length random ≡ s * (s - 1) / 2) (bytes : Small 8 random) where
  four : outputs_of r ≡ 4
  four = outputs_4 4 (outputs_of r) (read_accepted r 4 read).pair refl

  whole : Settled (sbox_inputs 4 (outputs_of r) s) (shares ∷ []) random
  whole =
      rw four
      (lent_settled (sbox_inputs 4 4 s) (shares ∷ []) random some (lent_cons (shares_length, shares_small) lent_nil)
      (random_length ∙ sym (sbox_bytes_4 s)) (elements_nibbles random bytes))

  -- EVERY STRING OF BYTES, s (s - 1) / 2 of them, holds random elements that S-box accepts at width 4,
  pub bytes_accepted : sbox_outcome r s shares random s ≡ done (figures 4 4 s)
  bytes_accepted = rw four at (call_accepted r 4 s read some nine shares random whole)

  -- and Watch S-box.
  pub watch_bytes_accepted : (list : List ℕ) → length list ≤ 64 → ((k : ℕ) → get_or list k 0 < sbox_steps 4 4 s)
      → watch_outcome r s shares random list (length list) ≡ done (figures 4 4 s)
  watch_bytes_accepted = rw four at (watch_accepted r 4 s read some nine shares random whole)

-- ---- from a call to a choice

-- a call that passes the tests is settled by a secret and a choice
tests_settled : (r : List ℕ) (s : ℕ) (shares random : List ℕ) (fits : Bool) → Small 8 random → {v : List ℕ} → call_tests r s shares random fits ≡ done v
    → Settled (sbox_inputs (width_of r) (outputs_of r) s) (shares ∷ []) random
tests_settled r s shares random fits bytes e =
    let a = (passed_call r s shares random fits bytes e).0 in
    lent_settled (sbox_inputs (width_of r) (outputs_of r) s) (shares ∷ []) random a.some (lent_cons (a.shares_length, a.shares_small) lent_nil)
    a.random_length a.random_small

-- EVERY ACCEPTED CALL is settled by a secret and a choice: of S-box,
pub call_settled : (r : List ℕ) (s : ℕ) (shares random : List ℕ) (out : ℕ) → Small 8 random → {v : List ℕ} → sbox_outcome r s shares random out ≡ done v
    → Settled (sbox_inputs (width_of r) (outputs_of r) s) (shares ∷ []) random
unfolding sbox_outcome sbox_call
call_settled r s shares random out bytes e =
    tests_settled r s shares random (eqb out s) bytes (call.call_passed (sbox_call r s shares random) (eqb out s) e).1

-- and of Watch S-box; and by no other (`settled_once` of crates/steps/proofs/Settled.antt).
pub watch_settled : (r : List ℕ) (s : ℕ) (shares random list : List ℕ) (values : ℕ) → Small 8 random → {v : List ℕ}
    → watch_outcome r s shares random list values ≡ done v → Settled (sbox_inputs (width_of r) (outputs_of r) s) (shares ∷ []) random
unfolding watch_outcome sbox_call
watch_settled r s shares random list values bytes e =
    tests_settled r s shares random (list_fits (length list) values) bytes (call.watch_passed (sbox_call r s shares random) list values e).1
