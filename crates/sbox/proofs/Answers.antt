-- ANSWERS ALIKE. Two calls of S-box, or of Watch S-box, with the same record, share count, list and slice lengths, and with elements that are too large,
-- if any, at the same places, give the same answer, whatever the shares and the random elements; and what they hand back are the paper's figures.
-- What is too large goes by the width: it is asked only of a record that Read accepts, and of random elements at width 6. Calls with a record that it
-- refuses answer alike in any case.
use mathlib.Core.Path.{◌≡◌, refl, sym, ap, ap₂, ◌∙◌}
use mathlib.Core.Bool.{Bool, true, false, cond}
use mathlib.Core.List.{List, [], ◌∷◌, ◌++◌}
use Prim.Native.Nat.{ℕ, ◌+◌, ◌^◌}
use lib.Dec.{eqb}
use lib.ListN.{length, length-append}
use Rattle.xor.specs.Sum.{Small}
use Rattle.refusal.specs.Outcome.{Outcome, done, refused, and_then}
use Rattle.refusal.specs.Large.{first_large, LargeAlike}
use Rattle.refusal.proofs.Large.{large_same, alike_append}
use Rattle.steps.specs.Tape.{elements}
use Rattle.steps.specs.Call.{Call, figures_of}
use Rattle.steps.proofs.Tape.{elements_length}
use Rattle.steps.proofs.Call.{counts_taken, HandsBack, call_answers, call_figures}
use Rattle.steps.proofs.Call as call
use Rattle.decomposition.specs.Layout.{Known}
use Rattle.decomposition.specs.Record.{SameRecord, coefficients_of, outputs_of, width_of, read_outcome}
use Rattle.decomposition.proofs.ReadOutcome.{read_values, read_accepted}
use Rattle.decomposition.proofs.Sizes.{known_both}
use Rattle.decomposition.proofs.Theorems.{same_read}
use Rattle.sbox.specs.Sbox.{sbox}
use Rattle.sbox.specs.Form.{basis_in, solution_in}
use Rattle.sbox.specs.Figures.{figures, sbox_steps}
use Rattle.sbox.specs.Alike.{SamePlaces}
use Rattle.sbox.specs.Operations.{sbox_call, tested_random, argument_tests, call_program, call_tests, sbox_outcome, watch_outcome}
use Rattle.sbox.proofs.Calls.{passed_call, call_takes}

-- ---- the tests go by lengths and by the places of elements that are too large

tested_length : (n : ℕ) (random random' : List ℕ) → length random ≡ length random' → length (tested_random n random) ≡ length (tested_random n random')
unfolding tested_random
tested_length n random random' e = go (eqb n 4)
  where
    go : (b : Bool) → length (cond b [] (elements n random)) ≡ length (cond b [] (elements n random'))
    go true = refl
    go false = elements_length n random random' e

tested_alike : (n : ℕ) → Known n → (random random' : List ℕ) → (n ≡ 6 → LargeAlike 64 (elements 6 random) (elements 6 random'))
    → LargeAlike (2 ^ n) (tested_random n random) (tested_random n random')
unfolding tested_random
tested_alike n w random random' =
    known_both
    (λ n. (n ≡ 6 → LargeAlike 64 (elements 6 random) (elements 6 random'))
    → LargeAlike (2 ^ n) (cond (eqb n 4) [] (elements n random)) (cond (eqb n 4) [] (elements n random')))
    (λ h i. refl) (λ h. h refl) n w

arguments_alike : (n m s : ℕ) (shares shares' random random' : List ℕ) → length shares ≡ length shares' → length random ≡ length random'
    → LargeAlike (2 ^ n) shares shares' → LargeAlike (2 ^ n) (tested_random n random) (tested_random n random')
    → (fits : Bool) → argument_tests n m s shares random fits ≡ argument_tests n m s shares' random' fits
unfolding argument_tests
arguments_alike n m s shares shares' random random' same_shares same_random large_shares large_random fits =
    let t = tested_random n random in
    let t' = tested_random n random' in
    let l = shares ++ t in
    let l' = shares' ++ t' in
    let whole : length l ≡ length l' =
    length-append shares t ∙ ap₂ (λ (a b : ℕ). a + b) same_shares (tested_length n random random' same_random) ∙ sym (length-append shares' t') in
    let first : first_large (2 ^ n) l ≡ first_large (2 ^ n) l' =
    large_same (2 ^ n) l l' whole (alike_append (2 ^ n) shares shares' t t' same_shares large_shares large_random) in
    rw (same_shares, same_random, whole, first)

tests_alike : (r : List ℕ) (s : ℕ) {shares shares' random random' : List ℕ} → SamePlaces r shares shares' random random'
    → (fits : Bool) → call_tests r s shares random fits ≡ call_tests r s shares' random' fits
unfolding call_tests
tests_alike r s {shares} {shares'} {random} {random'} h fits = go (read_outcome r) refl
  where
    go : (o : Outcome) → read_outcome r ≡ o
        → and_then o (argument_tests (width_of r) (outputs_of r) s shares random fits) ≡ and_then o (argument_tests (width_of r) (outputs_of r) s shares' random' fits)
    go (refused number place) e = refl
    go (done v) e =
        let n = width_of r in
        let read : read_outcome r ≡ done (n ∷ []) = e ∙ ap done (sym (read_values r e).1) in
        let large = tested_alike n (read_accepted r n read).pair.width random random' (λ p. h.large_random (read ∙ ap (λ (k : ℕ). done (k ∷ [])) p)) in
        arguments_alike n (outputs_of r) s shares shares' random random' h.same_shares h.same_random (h.large_shares n read) large fits

-- ---- where the tests are passed the figures are the paper's

pub counts_figures : (r : List ℕ) (s : ℕ) (shares random : List ℕ) → Small 8 random → HandsBack (sbox_call r s shares random) (figures (width_of r) (outputs_of r) s)
unfolding figures sbox_call figures_of
counts_figures r s shares random bytes fits v e =
    counts_taken (sbox_call r s shares random) (call_takes (passed_call r s shares random fits bytes e).0)

-- a call that is done hands back the figures
pub sbox_figures : (r : List ℕ) (s : ℕ) (shares random : List ℕ) (out : ℕ) → Small 8 random → {v : List ℕ}
    → sbox_outcome r s shares random out ≡ done v → v ≡ figures (width_of r) (outputs_of r) s
unfolding sbox_outcome
sbox_figures r s shares random out bytes e = call_figures (sbox_call r s shares random) (counts_figures r s shares random bytes) (eqb out s) e

-- a watch that is done hands back the same
pub watch_figures : (r : List ℕ) (s : ℕ) (shares random list : List ℕ) (values : ℕ) → Small 8 random → {v : List ℕ}
    → watch_outcome r s shares random list values ≡ done v → v ≡ figures (width_of r) (outputs_of r) s
unfolding watch_outcome
watch_figures r s shares random list values bytes e =
    call.watch_figures (sbox_call r s shares random) (counts_figures r s shares random bytes) list values e

-- ---- the answers

module _ (r : List ℕ) (s : ℕ) {shares shares' random random' : List ℕ} (h : SamePlaces r shares shares' random random') where
  pub sbox_answers : (out : ℕ) → sbox_outcome r s shares random out ≡ sbox_outcome r s shares' random' out
  unfolding sbox_outcome sbox_call
  sbox_answers out =
      call_answers (sbox_call r s shares random) (sbox_call r s shares' random') (tests_alike r s h)
      (counts_figures r s shares random h.random_bytes) (counts_figures r s shares' random' h.random_bytes') (eqb out s)

  pub watch_answers : (list : List ℕ) (values : ℕ) → watch_outcome r s shares random list values ≡ watch_outcome r s shares' random' list values
  unfolding watch_outcome sbox_call
  watch_answers =
      call.watch_answers (sbox_call r s shares random) (sbox_call r s shares' random') (tests_alike r s h)
      (counts_figures r s shares random h.random_bytes) (counts_figures r s shares' random' h.random_bytes') refl

-- ---- versions

-- records with the same width, output bits and coefficients make the same calls: so S-box and its watch answer and write the same with both
pub same_call : (n : ℕ) (r r' : List ℕ) → SameRecord n r r' → (s : ℕ) (shares random : List ℕ) → sbox_call r s shares random ≡ sbox_call r' s shares random
unfolding sbox_call call_tests call_program
same_call n r r' e s shares random =
    ap₂ (λ (o : Outcome) (k : ℕ). by o k (outputs_of r) (coefficients_of r)) (same_read n r r' e) (e.accepted.named ∙ sym e.accepted'.named)
    ∙ ap₂ (by (read_outcome r') (width_of r')) e.outputs e.coefficients
  where
    -- the call by what Read answers, the width, the output bits and the coefficients
    by : Outcome → ℕ → ℕ → List ℕ → Call
    by o k m cs = record {
      tests = λ fits. and_then o (argument_tests k m s shares random fits);
      program = sbox k s (basis_in k m cs) (solution_in k m cs) shares;
      width = k;
      random = random;
      total = sbox_steps k m s;
    }
