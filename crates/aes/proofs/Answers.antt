-- ANSWERS ALIKE. Two calls of AES block, or of Watch AES block, with the same share count, list and slice lengths give the same answer, whatever the
-- shares and the random bytes; and what they hand back are the paper's figures.
use mathlib.Core.Path.{◌≡◌}
use mathlib.Core.List.{List}
use Prim.Native.Nat.{ℕ, ◌*◌}
use lib.Dec.{eqb}
use Rattle.xor.specs.Sum.{Small}
use Rattle.refusal.specs.Outcome.{done}
use Rattle.steps.specs.Alike.{SameLengths}
use Rattle.steps.specs.Ciphering.{figures_for}
use Rattle.steps.proofs.Ciphering.{call_figures, calls_alike, watches_alike}
use Rattle.steps.proofs.Ciphering as ciphering
use Rattle.aes.specs.Figures.{figures}
use Rattle.aes.specs.Operations.{enciphering, block_outcome, watch_outcome}
use Rattle.aes.proofs.Calls.{block_good}

-- a call that is done hands back the figures
pub block_figures : (s : ℕ) (key block random : List ℕ) (out : ℕ) → Small 8 key → Small 8 block → Small 8 random
    → {v : List ℕ} → block_outcome s key block random out ≡ done v → v ≡ figures s
unfolding block_outcome figures figures_for
block_figures s key block random out hk hb hr = call_figures (enciphering s) (block_good s) key block random hk hb hr (eqb out (16 * s))

-- a watch that is done hands back the same
pub watch_figures : (s : ℕ) (key block random list : List ℕ) (values : ℕ) → Small 8 key → Small 8 block → Small 8 random
    → {v : List ℕ} → watch_outcome s key block random list values ≡ done v → v ≡ figures s
unfolding watch_outcome figures figures_for
watch_figures s key block random list values hk hb hr = ciphering.watch_figures (enciphering s) (block_good s) key block random hk hb hr list values

-- ---- the answers

module _ (s : ℕ) {key key' block block' random random' : List ℕ} (h : SameLengths key key' block block' random random') where
  pub block_answers : (out : ℕ) → block_outcome s key block random out ≡ block_outcome s key' block' random' out
  unfolding block_outcome
  block_answers out = calls_alike (enciphering s) (block_good s) h (eqb out (16 * s))

  pub watch_answers : (list : List ℕ) (values : ℕ) → watch_outcome s key block random list values ≡ watch_outcome s key' block' random' list values
  unfolding watch_outcome
  watch_answers = watches_alike (enciphering s) (block_good s) h
