-- TO COUNT TAPES IS TO COUNT CALLS. The tapes that `choices` counts are those of the choices, one to one, and each
-- with a key and a block settles one call (crates/steps/proofs/Settled.antt). Watch AES block accepts it, with any list of up to 64 step numbers, and
-- writes the values that are counted: those of the experiment on this tape.
use mathlib.Core.Path.{◌≡◌, refl}
use mathlib.Core.List.{List, [], ◌∷◌}
use Prim.Native.Nat.{ℕ, ◌≤◌, ◌<◌}
use lib.ListN.{length, get_or}
use Rattle.refusal.specs.Outcome.{done}
use Rattle.steps.specs.Program.{trace}
use Rattle.steps.specs.Watch.{watched}
use Rattle.steps.specs.Choices.{Fits}
use Rattle.steps.specs.Tape.{elements}
use Rattle.steps.specs.Settled.{Choice, choice_bits, masks_then, Chosen, Settles}
use Rattle.steps.specs.Ciphering.{figures_for}
use Rattle.steps.proofs.Chosen.{choice_tape, tape_choice}
use Rattle.steps.proofs.CipheringChoices as choices
use Rattle.rijndael.specs.Experiment.{Plain, encrypt_shares}
use Rattle.rijndael.specs.Experiment as rijndael
use Rattle.aes.specs.Sbox.{sbox}
use Rattle.aes.specs.Figures.{figures, block_steps}
use Rattle.aes.specs.Experiment.{experiment, block_inputs}
use Rattle.aes.specs.Operations.{call_program, enciphering, watch_outcome, watch_output}
use Rattle.aes.proofs.Calls.{block_full, block_good}

-- ONE TO ONE. The random elements fill their bytes, so a choice has an element for each draw and fits the draws,
pub choice_taped : (s : ℕ) (masks : List (List ℕ)) (random : List ℕ) → Choice (block_inputs s) masks random
    → let tape = masks_then masks (elements 8 random) in let bits = choice_bits (block_inputs s) in (length tape ≡ length bits) × Fits bits tape
choice_taped s = choice_tape (block_inputs s) (block_full s)

-- and each such tape is that of a choice; of no other (`chosen_once`).
pub tape_chosen : (s : ℕ) (tape : List ℕ) → let bits = choice_bits (block_inputs s) in length tape ≡ length bits → Fits bits tape → Chosen (block_inputs s) tape
tape_chosen s = tape_choice (block_inputs s) (block_full s)

pub tape_watched : (s : ℕ) → 0 < s → s ≤ 9 → (x : Plain) {tape key block : List ℕ}
    → (c : Chosen (block_inputs s) tape) → Settles (block_inputs s).secrets (x.key ∷ x.block ∷ []) c.masks (key ∷ block ∷ [])
    → (list : List ℕ) → length list ≤ 64 → ((k : ℕ) → get_or list k 0 < block_steps s)
    → (watch_outcome s key block c.random list (length list) ≡ done (figures s))
    × (watch_output s key block c.random list ≡ watched list (trace (experiment s x) tape))
unfolding watch_outcome watch_output figures figures_for experiment rijndael.experiment call_program
tape_watched s some nine x =
    choices.tape_watched (enciphering s) (encrypt_shares (sbox s) s) (λ k x l m el hl hk em hm hx. refl) (block_good s) refl some nine x.key x.block
