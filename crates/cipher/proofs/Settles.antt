-- A CHOICE SETTLES A CALL, AND A CALL A CHOICE. The call and the watch that a secret and a choice settle are accepted, with the paper's figures; and
-- every accepted call is settled by exactly one secret and choice. So to count choices is to count calls.
use mathlib.Core.Path.{◌≡◌}
use mathlib.Core.List.{List, [], ◌∷◌}
use Prim.Native.Nat.{ℕ, ◌*◌, ◌≤◌, ◌<◌}
use lib.Dec.{eqb}
use lib.ListN.{length, get_or}
use Rattle.xor.specs.Sum.{Small}
use Rattle.refusal.specs.Outcome.{Outcome, done}
use Rattle.refusal.specs.Watch.{list_fits}
use Rattle.steps.specs.Tape.{bytes_for}
use Rattle.steps.specs.Settled.{Settled}
use Rattle.steps.specs.Ciphering.{call_of, figures_for, Callable}
use Rattle.steps.proofs.Call as call
use Rattle.steps.proofs.Ciphering.{lies}
use Rattle.steps.proofs.CipheringChoices.{accepts, settled_accepts, settled_watch_accepts, tests_settled}
use Rattle.steps.proofs.CipheringChoices as choices
use Rattle.decomposition.specs.Record.{coefficients_of}
use Rattle.present.specs.Present.{table}
use Rattle.cipher.specs.Figures.{figures, block_draws, block_steps, open_figures, open_draws, open_steps}
use Rattle.cipher.specs.Ciphering.{Cipher, record_tests, operation}
use Rattle.cipher.specs.Experiment.{block_inputs, open_inputs}
use Rattle.cipher.specs.Operations.{sealed, sealing, block_call, block_outcome, watch_outcome}
use Rattle.cipher.specs.OpenOperations.{both_tests, opened, opening, open_call, open_outcome, watch_open_outcome}
use Rattle.cipher.proofs.Theorems.{sealing_good}
use Rattle.cipher.proofs.OpenTheorems.{opening_good}

-- ---- calls of the right lengths

-- of an operation with keys of 10 bytes and blocks of 8
module _ (o : Outcome) (c : Cipher) (s : ℕ) (some : 0 < s) (nine : s ≤ 9) {key block random : List ℕ} (lk : length key ≡ 10 * s) (lb : length block ≡ 8 * s)
    (lr : length random ≡ bytes_for 4 (c.draws s)) where
  called : Callable (operation o c s) key block random
  called = record { some = some; nine = nine; key_length = lk; block_length = lb; random_length = lr }

-- ---- of Block

module _ (r : List ℕ) (s : ℕ) (record_tests_lem : record_tests table r ≡ done []) (some : 0 < s) (nine : s ≤ 9) where
  -- Block accepts every call of the right lengths, whatever the shares and the random bytes, and hands back the figures;
  pub block_accepts : (key block random : List ℕ) → Small 8 key → Small 8 block → Small 8 random
      → length key ≡ 10 * s → length block ≡ 8 * s → length random ≡ bytes_for 4 (block_draws s)
      → block_outcome r s key block random (8 * s) ≡ done (figures s)
  unfolding block_outcome figures figures_for
  block_accepts key block random hk hb hr lk lb lr =
      let good = sealing_good r s in
      accepts (sealing r s) good record_tests_lem (called (record_tests table r) (sealed (coefficients_of r)) s some nine lk lb lr)
      (lies (sealing r s) good key block random hk hb hr)

  -- and so does Watch block, with any list of up to 64 step numbers.
  pub watch_accepts : (key block random : List ℕ) → Small 8 key → Small 8 block → Small 8 random
      → length key ≡ 10 * s → length block ≡ 8 * s → length random ≡ bytes_for 4 (block_draws s)
      → (list : List ℕ) → length list ≤ 64 → ((k : ℕ) → get_or list k 0 < block_steps s)
      → watch_outcome r s key block random list (length list) ≡ done (figures s)
  unfolding watch_outcome figures figures_for
  watch_accepts key block random hk hb hr lk lb lr =
      let good = sealing_good r s in
      choices.watch_accepts (sealing r s) good record_tests_lem (called (record_tests table r) (sealed (coefficients_of r)) s some nine lk lb lr)
      (lies (sealing r s) good key block random hk hb hr)

  module _ (key block random : List ℕ) (a : Settled (block_inputs s) (key ∷ block ∷ []) random) where
    -- WHAT A SECRET AND A CHOICE SETTLE, Block accepts, and hands back the figures;
    pub call_accepted : block_outcome r s key block random (8 * s) ≡ done (figures s)
    unfolding block_outcome figures figures_for
    call_accepted = settled_accepts (sealing r s) (sealing_good r s) record_tests_lem some nine a

    -- and so does Watch block, with any list of up to 64 step numbers.
    pub watch_accepted : (list : List ℕ) → length list ≤ 64 → ((k : ℕ) → get_or list k 0 < block_steps s)
        → watch_outcome r s key block random list (length list) ≡ done (figures s)
    unfolding watch_outcome figures figures_for
    watch_accepted = settled_watch_accepts (sealing r s) (sealing_good r s) record_tests_lem some nine a

-- EVERY ACCEPTED CALL is settled by a secret and a choice: of Block,
pub call_settled : (r : List ℕ) (s : ℕ) (key block random : List ℕ) (out : ℕ) → Small 8 key → Small 8 block → Small 8 random
    → {v : List ℕ} → block_outcome r s key block random out ≡ done v → Settled (block_inputs s) (key ∷ block ∷ []) random
unfolding block_outcome call_of
call_settled r s key block random out hk hb hr e =
    let fits = eqb out (8 * s) in
    tests_settled (sealing r s) key block random fits (lies (sealing r s) (sealing_good r s) key block random hk hb hr) (call.call_passed (block_call r s key block random) fits e).1

-- and of Watch block; and by no other (`settled_once` of crates/steps/proofs/Settled.antt).
pub watch_settled : (r : List ℕ) (s : ℕ) (key block random list : List ℕ) (values : ℕ) → Small 8 key → Small 8 block → Small 8 random
    → {v : List ℕ} → watch_outcome r s key block random list values ≡ done v → Settled (block_inputs s) (key ∷ block ∷ []) random
unfolding watch_outcome call_of
watch_settled r s key block random list values hk hb hr e =
    tests_settled (sealing r s) key block random (list_fits (length list) values) (lies (sealing r s) (sealing_good r s) key block random hk hb hr)
    (call.watch_passed (block_call r s key block random) list values e).1

-- ---- of Open

module _ (r q : List ℕ) (s : ℕ) (record_tests_lem : both_tests r q ≡ done []) (some : 0 < s) (nine : s ≤ 9) where
  -- Open accepts every call of the right lengths, whatever the shares and the random bytes, and hands back the figures;
  pub open_accepts : (key block random : List ℕ) → Small 8 key → Small 8 block → Small 8 random
      → length key ≡ 10 * s → length block ≡ 8 * s → length random ≡ bytes_for 4 (open_draws s)
      → open_outcome r q s key block random (8 * s) ≡ done (open_figures s)
  unfolding open_outcome open_figures figures_for
  open_accepts key block random hk hb hr lk lb lr =
      let good = opening_good r q s in
      accepts (opening r q s) good record_tests_lem (called (both_tests r q) (opened (coefficients_of r) (coefficients_of q)) s some nine lk lb lr)
      (lies (opening r q s) good key block random hk hb hr)

  -- and so does Watch open, with any list of up to 64 step numbers.
  pub watch_open_accepts : (key block random : List ℕ) → Small 8 key → Small 8 block → Small 8 random
      → length key ≡ 10 * s → length block ≡ 8 * s → length random ≡ bytes_for 4 (open_draws s)
      → (list : List ℕ) → length list ≤ 64 → ((k : ℕ) → get_or list k 0 < open_steps s)
      → watch_open_outcome r q s key block random list (length list) ≡ done (open_figures s)
  unfolding watch_open_outcome open_figures figures_for
  watch_open_accepts key block random hk hb hr lk lb lr =
      let good = opening_good r q s in
      choices.watch_accepts (opening r q s) good record_tests_lem (called (both_tests r q) (opened (coefficients_of r) (coefficients_of q)) s some nine lk lb lr)
      (lies (opening r q s) good key block random hk hb hr)

  module _ (key block random : List ℕ) (a : Settled (open_inputs s) (key ∷ block ∷ []) random) where
    -- WHAT A SECRET AND A CHOICE SETTLE, Open accepts, and hands back the figures;
    pub open_accepted : open_outcome r q s key block random (8 * s) ≡ done (open_figures s)
    unfolding open_outcome open_figures figures_for
    open_accepted = settled_accepts (opening r q s) (opening_good r q s) record_tests_lem some nine a

    -- and so does Watch open, with any list of up to 64 step numbers.
    pub watch_open_accepted : (list : List ℕ) → length list ≤ 64 → ((k : ℕ) → get_or list k 0 < open_steps s)
        → watch_open_outcome r q s key block random list (length list) ≡ done (open_figures s)
    unfolding watch_open_outcome open_figures figures_for
    watch_open_accepted = settled_watch_accepts (opening r q s) (opening_good r q s) record_tests_lem some nine a

-- EVERY ACCEPTED CALL is settled by a secret and a choice: of Open,
pub open_settled : (r q : List ℕ) (s : ℕ) (key block random : List ℕ) (out : ℕ) → Small 8 key → Small 8 block → Small 8 random
    → {v : List ℕ} → open_outcome r q s key block random out ≡ done v → Settled (open_inputs s) (key ∷ block ∷ []) random
unfolding open_outcome call_of
open_settled r q s key block random out hk hb hr e =
    let fits = eqb out (8 * s) in
    tests_settled (opening r q s) key block random fits (lies (opening r q s) (opening_good r q s) key block random hk hb hr)
    (call.call_passed (open_call r q s key block random) fits e).1

-- and of Watch open; and by no other (`settled_once` of crates/steps/proofs/Settled.antt).
pub watch_open_settled : (r q : List ℕ) (s : ℕ) (key block random list : List ℕ) (values : ℕ) → Small 8 key → Small 8 block → Small 8 random
    → {v : List ℕ} → watch_open_outcome r q s key block random list values ≡ done v → Settled (open_inputs s) (key ∷ block ∷ []) random
unfolding watch_open_outcome call_of
watch_open_settled r q s key block random list values hk hb hr e =
    tests_settled (opening r q s) key block random (list_fits (length list) values) (lies (opening r q s) (opening_good r q s) key block random hk hb hr)
    (call.watch_passed (open_call r q s key block random) list values e).1
