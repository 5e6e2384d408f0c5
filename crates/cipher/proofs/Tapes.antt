-- TO COUNT TAPES IS TO COUNT CALLS. The tapes that `choices` counts are those of the choices, one to one, and each
-- with a key and a block settles one call (crates/steps/proofs/Settled.antt). The watch of an operation accepts it, with any list of up to 64 step
-- numbers, and writes the values that are counted: those of the experiment on this tape.
use mathlib.Core.Path.{◌≡◌}
use mathlib.Core.List.{List, [], ◌∷◌}
use Prim.Native.Nat.{ℕ, ◌≤◌, ◌<◌}
use lib.ListN.{length, get_or}
use Rattle.refusal.specs.Outcome.{done}
use Rattle.steps.specs.Program.{trace}
use Rattle.steps.specs.Watch.{watched}
use Rattle.steps.specs.Choices.{Fits}
use Rattle.steps.specs.Tape.{elements}
use Rattle.steps.specs.Settled.{Choice, choice_bits, masks_then, Chosen, Settles}
use Rattle.steps.specs.Ciphering.{figures_for}
use Rattle.steps.proofs.Chosen.{choice_tape, tape_choice}
use Rattle.steps.proofs.CipheringChoices as choices
use Rattle.decomposition.specs.Record.{coefficients_of}
use Rattle.present.specs.Present.{table, State}
use Rattle.cipher.specs.Box.{block_program, open_program}
use Rattle.cipher.specs.Figures.{figures, block_steps, open_figures, open_steps}
use Rattle.cipher.specs.Experiment.{experiment, block_inputs, open_experiment, open_inputs}
use Rattle.cipher.specs.Ciphering.{record_tests, experiment_of}
use Rattle.cipher.specs.Operations.{sealed, sealing, watch_outcome, watch_output}
use Rattle.cipher.specs.OpenOperations.{both_tests, opened, opening, watch_open_outcome, watch_open_output}
use Rattle.cipher.proofs.Theorems.{sealing_good, block_full}
use Rattle.cipher.proofs.OpenTheorems.{opening_good, open_full}
use Rattle.cipher.proofs.Watched.{same_steps}

-- ---- of Block

-- ONE TO ONE. The random elements fill their bytes, so a choice has an element for each draw and fits the draws,
pub choice_taped : (s : ℕ) (masks : List (List ℕ)) (random : List ℕ) → Choice (block_inputs s) masks random
    → let tape = masks_then masks (elements 4 random) in let bits = choice_bits (block_inputs s) in (length tape ≡ length bits) × Fits bits tape
choice_taped s = choice_tape (block_inputs s) (block_full s)

-- and each such tape is that of a choice; of no other (`chosen_once`).
pub tape_chosen : (s : ℕ) (tape : List ℕ) → let bits = choice_bits (block_inputs s) in length tape ≡ length bits → Fits bits tape → Chosen (block_inputs s) tape
tape_chosen s = tape_choice (block_inputs s) (block_full s)

pub tape_watched : (r : List ℕ) (s : ℕ) → record_tests table r ≡ done [] → 0 < s → s ≤ 9 → (x : State ℕ) {tape key block : List ℕ}
    → (c : Chosen (block_inputs s) tape) → Settles (block_inputs s).secrets (x.key ∷ x.block ∷ []) c.masks (key ∷ block ∷ [])
    → (list : List ℕ) → length list ≤ 64 → ((k : ℕ) → get_or list k 0 < block_steps s)
    → (watch_outcome r s key block c.random list (length list) ≡ done (figures s))
    × (watch_output r s key block c.random list ≡ watched list (trace (experiment r s x) tape))
unfolding watch_outcome watch_output figures figures_for experiment experiment_of
tape_watched r s tests some nine x =
    choices.tape_watched (sealing r s) (block_program r s) (same_steps (sealed (coefficients_of r)) s some) (sealing_good r s) tests some nine x.key x.block

-- ---- of Open

pub open_choice_taped : (s : ℕ) (masks : List (List ℕ)) (random : List ℕ) → Choice (open_inputs s) masks random
    → let tape = masks_then masks (elements 4 random) in let bits = choice_bits (open_inputs s) in (length tape ≡ length bits) × Fits bits tape
open_choice_taped s = choice_tape (open_inputs s) (open_full s)

pub open_tape_chosen : (s : ℕ) (tape : List ℕ) → let bits = choice_bits (open_inputs s) in length tape ≡ length bits → Fits bits tape → Chosen (open_inputs s) tape
open_tape_chosen s = tape_choice (open_inputs s) (open_full s)

pub open_tape_watched : (r q : List ℕ) (s : ℕ) → both_tests r q ≡ done [] → 0 < s → s ≤ 9 → (x : State ℕ) {tape key block : List ℕ}
    → (c : Chosen (open_inputs s) tape) → Settles (open_inputs s).secrets (x.key ∷ x.block ∷ []) c.masks (key ∷ block ∷ [])
    → (list : List ℕ) → length list ≤ 64 → ((k : ℕ) → get_or list k 0 < open_steps s)
    → (watch_open_outcome r q s key block c.random list (length list) ≡ done (open_figures s))
    × (watch_open_output r q s key block c.random list ≡ watched list (trace (open_experiment r q s x) tape))
unfolding watch_open_outcome watch_open_output open_figures figures_for open_experiment experiment_of
open_tape_watched r q s tests some nine x =
    choices.tape_watched (opening r q s) (open_program r q s) (same_steps (opened (coefficients_of r) (coefficients_of q)) s some) (opening_good r q s)
    tests some nine x.key x.block
