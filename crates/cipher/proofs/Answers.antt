-- ANSWERS ALIKE. Two calls of an operation, or of its watch, with the same records, share count, list and slice lengths give the same answer, whatever the
-- shares and the random elements; and what they hand back are the paper's figures.
use mathlib.Core.Path.{◌≡◌, sym, ap, ap₂, ◌∙◌}
use mathlib.Core.List.{List, []}
use Prim.Native.Nat.{ℕ, ◌*◌, ◌%◌}
use lib.Dec.{leb, eqb}
use lib.ListN.{length}
use Rattle.xor.specs.Sum.{Small}
use Rattle.refusal.specs.Outcome.{Outcome, done, test, and_then}
use Rattle.steps.specs.Alike.{SameLengths}
use Rattle.steps.specs.Call.{Call}
use Rattle.steps.specs.Ciphering.{call_of, figures_for}
use Rattle.steps.proofs.Ciphering.{call_figures, calls_alike, watches_alike}
use Rattle.steps.proofs.Ciphering as ciphering
use Rattle.decomposition.specs.Layout.{layout}
use Rattle.decomposition.specs.Record.{SameRecord, coefficients_of, read_outcome, width_of}
use Rattle.decomposition.specs.Check.{first_difference, form_in}
use Rattle.decomposition.proofs.Theorems.{same_read}
use Rattle.present.specs.Present.{table}
use Rattle.present.specs.Decrypt.{inverse_table}
use Rattle.cipher.specs.Figures.{figures, open_figures}
use Rattle.cipher.specs.Ciphering.{operation, computes_table, record_tests}
use Rattle.cipher.specs.Operations as operations
use Rattle.cipher.specs.Operations.{sealed, sealing, block_call, block_outcome}
use Rattle.cipher.specs.OpenOperations.{both_tests, opened, opening, open_call, open_outcome, watch_open_outcome}
use Rattle.cipher.proofs.Theorems.{sealing_good}
use Rattle.cipher.proofs.OpenTheorems.{opening_good}

-- ---- of Block

-- a call that is done hands back the figures
pub block_figures : (r : List ℕ) (s : ℕ) (key block random : List ℕ) (out : ℕ) → Small 8 key → Small 8 block → Small 8 random
    → {v : List ℕ} → block_outcome r s key block random out ≡ done v → v ≡ figures s
unfolding block_outcome figures figures_for
block_figures r s key block random out hk hb hr = call_figures (sealing r s) (sealing_good r s) key block random hk hb hr (eqb out (8 * s))

-- a watch that is done hands back the same
pub watch_figures : (r : List ℕ) (s : ℕ) (key block random list : List ℕ) (values : ℕ) → Small 8 key → Small 8 block → Small 8 random
    → {v : List ℕ} → operations.watch_outcome r s key block random list values ≡ done v → v ≡ figures s
unfolding operations.watch_outcome figures figures_for
watch_figures r s key block random list values hk hb hr =
    ciphering.watch_figures (sealing r s) (sealing_good r s) key block random hk hb hr list values

module _ (r : List ℕ) (s : ℕ) {key key' block block' random random' : List ℕ} (h : SameLengths key key' block block' random random') where
  pub block_answers : (out : ℕ) → block_outcome r s key block random out ≡ block_outcome r s key' block' random' out
  unfolding block_outcome
  block_answers out = calls_alike (sealing r s) (sealing_good r s) h (eqb out (8 * s))

  pub watch_answers : (list : List ℕ) (values : ℕ)
      → operations.watch_outcome r s key block random list values ≡ operations.watch_outcome r s key' block' random' list values
  unfolding operations.watch_outcome
  watch_answers = watches_alike (sealing r s) (sealing_good r s) h

-- ---- of Open

-- a call that is done hands back the figures
pub open_figures_lem : (r q : List ℕ) (s : ℕ) (key block random : List ℕ) (out : ℕ) → Small 8 key → Small 8 block → Small 8 random
    → {v : List ℕ} → open_outcome r q s key block random out ≡ done v → v ≡ open_figures s
unfolding open_outcome open_figures figures_for
open_figures_lem r q s key block random out hk hb hr = call_figures (opening r q s) (opening_good r q s) key block random hk hb hr (eqb out (8 * s))

-- a watch that is done hands back the same
pub watch_open_figures : (r q : List ℕ) (s : ℕ) (key block random list : List ℕ) (values : ℕ) → Small 8 key → Small 8 block → Small 8 random
    → {v : List ℕ} → watch_open_outcome r q s key block random list values ≡ done v → v ≡ open_figures s
unfolding watch_open_outcome open_figures figures_for
watch_open_figures r q s key block random list values hk hb hr =
    ciphering.watch_figures (opening r q s) (opening_good r q s) key block random hk hb hr list values

module _ (r q : List ℕ) (s : ℕ) {key key' block block' random random' : List ℕ} (h : SameLengths key key' block block' random random') where
  pub open_answers : (out : ℕ) → open_outcome r q s key block random out ≡ open_outcome r q s key' block' random' out
  unfolding open_outcome
  open_answers out = calls_alike (opening r q s) (opening_good r q s) h (eqb out (8 * s))

  pub watch_open_answers : (list : List ℕ) (values : ℕ)
      → watch_open_outcome r q s key block random list values ≡ watch_open_outcome r q s key' block' random' list values
  unfolding watch_open_outcome
  watch_open_answers = watches_alike (opening r q s) (opening_good r q s) h

-- ---- versions

-- the tests of a table go by what Read answers, the width and the coefficients
pub same_tests : (t : List ℕ) (n : ℕ) (r r' : List ℕ) → SameRecord n r r' → record_tests t r ≡ record_tests t r'
unfolding record_tests computes_table
same_tests t n r r' e =
    ap₂ (λ (o : Outcome) (k : ℕ). by o k (coefficients_of r)) (same_read n r r' e) (e.accepted.named ∙ sym e.accepted'.named)
    ∙ ap (by (read_outcome r') (width_of r')) e.coefficients
  where
    by : Outcome → ℕ → List ℕ → Outcome
    by o k cs =
        let first = first_difference (λ x. form_in (layout 4 4) cs x % (layout 4 4).entries) t in
        and_then o (test (eqb k 4) 1 0 (test (leb (length t) first) 6 0 (done [])))

-- records with the same width, output bits and coefficients make the same calls: so Block and its watch answer and write the same with both
pub same_call : (n : ℕ) (r r' : List ℕ) → SameRecord n r r' → (s : ℕ) (key block random : List ℕ)
    → block_call r s key block random ≡ block_call r' s key block random
same_call n r r' e s key block random =
    ap₂ (λ (o : Outcome) (cs : List ℕ). call_of (operation o (sealed cs) s) key block random) (same_tests table n r r' e) e.coefficients

-- and so of both records of an opening
pub same_open_call : (n : ℕ) (r r' : List ℕ) → SameRecord n r r' → (m : ℕ) (q q' : List ℕ) → SameRecord m q q' → (s : ℕ) (key block random : List ℕ)
    → open_call r q s key block random ≡ open_call r' q' s key block random
unfolding both_tests
same_open_call n r r' e m q q' f s key block random =
    ap₂ (λ (o : Outcome) (cs : List ℕ). made o (record_tests inverse_table q) cs (coefficients_of q)) (same_tests table n r r' e) e.coefficients
    ∙ ap₂ (λ (o : Outcome) (cs : List ℕ). made (record_tests table r') o (coefficients_of r') cs) (same_tests inverse_table m q q' f) f.coefficients
  where
    -- the call by what the tests of either record come to and the coefficients of either
    made : Outcome → Outcome → List ℕ → List ℕ → Call
    made o p cs ds = call_of (operation (and_then o p) (opened cs ds) s) key block random
