-- A CHOICE SETTLES A CALL, AND A CALL A CHOICE. The call and the watch that a secret and a choice settle are accepted, with the paper's figures; and
-- every accepted call is settled by exactly one secret and choice. So to count choices is to count calls.
use mathlib.Core.Path.{◌≡◌, refl}
use mathlib.Core.List.{List, [], ◌∷◌}
use Prim.Native.Nat.{ℕ, ◌*◌, ◌≤◌, ◌<◌}
use lib.Dec.{eqb}
use lib.ListN.{length, get_or}
use Rattle.xor.specs.Sum.{Small}
use Rattle.refusal.specs.Outcome.{done}
use Rattle.refusal.specs.Watch.{list_fits}
use Rattle.steps.specs.Tape.{elements, bytes_for}
use Rattle.steps.specs.Settled.{Settled}
use Rattle.steps.specs.Ciphering.{call_of, figures_for, InBytes}
use Rattle.steps.proofs.Call as call
use Rattle.steps.proofs.Ciphering.{lies}
use Rattle.steps.proofs.CipheringChoices.{accepts, settled_accepts, settled_watch_accepts, tests_settled}
use Rattle.steps.proofs.CipheringChoices as choices
use Rattle.aes.specs.Figures.{figures, block_draws, block_steps}
use Rattle.aes.specs.Experiment.{block_inputs}
use Rattle.aes.specs.Operations.{enciphering, block_call, block_outcome, watch_outcome, Callable}
use Rattle.aes.proofs.Calls.{block_good}

-- ---- calls of the right lengths are accepted

module _ (s : ℕ) (some : 0 < s) (nine : s ≤ 9) (key block random : List ℕ) (key_bytes : Small 8 key) (block_bytes : Small 8 block)
    (key_length : length key ≡ 16 * s) (block_length : length block ≡ 16 * s)
    (random_length : length random ≡ bytes_for 8 (block_draws s)) (random_small : Small 8 (elements 8 random)) where
  callable : Callable s key block random
  callable = record { some = some; nine = nine; key_length = key_length; block_length = block_length; random_length = random_length }

  bytes : InBytes (enciphering s) key block random
  bytes = record { key_small = key_bytes; block_small = block_bytes; random_small = random_small }

  -- AES block accepts a call of the right lengths, and hands back the figures;
  pub block_accepts : block_outcome s key block random (16 * s) ≡ done (figures s)
  unfolding block_outcome figures figures_for
  block_accepts = accepts (enciphering s) (block_good s) refl callable bytes

  -- and so does its watch, with any list of up to 64 step numbers.
  pub watch_accepts : (list : List ℕ) → length list ≤ 64 → ((k : ℕ) → get_or list k 0 < block_steps s)
      → watch_outcome s key block random list (length list) ≡ done (figures s)
  unfolding watch_outcome figures figures_for
  watch_accepts = choices.watch_accepts (enciphering s) (block_good s) refl callable bytes

-- ---- from a choice to a call

module _ (s : ℕ) (some : 0 < s) (nine : s ≤ 9) (key block random : List ℕ) (a : Settled (block_inputs s) (key ∷ block ∷ []) random) where
  -- WHAT A SECRET AND A CHOICE SETTLE, AES block accepts, and hands back the figures;
  pub call_accepted : block_outcome s key block random (16 * s) ≡ done (figures s)
  unfolding block_outcome figures figures_for
  call_accepted = settled_accepts (enciphering s) (block_good s) refl some nine a

  -- and so does Watch AES block, with any list of up to 64 step numbers.
  pub watch_accepted : (list : List ℕ) → length list ≤ 64 → ((k : ℕ) → get_or list k 0 < block_steps s)
      → watch_outcome s key block random list (length list) ≡ done (figures s)
  unfolding watch_outcome figures figures_for
  watch_accepted = settled_watch_accepts (enciphering s) (block_good s) refl some nine a

-- ---- from a call to a choice

-- EVERY ACCEPTED CALL is settled by a secret and a choice: of AES block,
pub call_settled : (s : ℕ) (key block random : List ℕ) (out : ℕ) → Small 8 key → Small 8 block → Small 8 random
    → {v : List ℕ} → block_outcome s key block random out ≡ done v → Settled (block_inputs s) (key ∷ block ∷ []) random
unfolding block_outcome call_of
call_settled s key block random out hk hb hr e =
    let fits = eqb out (16 * s) in
    tests_settled (enciphering s) key block random fits (lies (enciphering s) (block_good s) key block random hk hb hr)
    (call.call_passed (block_call s key block random) fits e).1

-- and of Watch AES block; and by no other (`settled_once` of crates/steps/proofs/Settled.antt).
pub watch_settled : (s : ℕ) (key block random list : List ℕ) (values : ℕ) → Small 8 key → Small 8 block → Small 8 random
    → {v : List ℕ} → watch_outcome s key block random list values ≡ done v → Settled (block_inputs s) (key ∷ block ∷ []) random
unfolding watch_outcome call_of
watch_settled s key block random list values hk hb hr e =
    tests_settled (enciphering s) key block random (list_fits (length list) values) (lies (enciphering s) (block_good s) key block random hk hb hr)
    (call.watch_passed (block_call s key block random) list values e).1
