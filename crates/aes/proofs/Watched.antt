-- A WATCH WRITES WHAT THE EXPERIMENT SHOWS. For the shares that a key and a block and masks settle, Watch AES block writes the watched values of the
-- experiment whose tape is the masks of the key, those of the block, and the random elements.
use mathlib.Core.Path.{◌≡◌, refl}
use mathlib.Core.List.{List, [], ◌∷◌}
use Prim.Native.Nat.{ℕ, ◌≤◌, ◌<◌}
use Rattle.steps.specs.Program.{trace}
use Rattle.steps.specs.Watch.{watched}
use Rattle.steps.specs.Tape.{elements}
use Rattle.steps.specs.Settled.{MasksFor, masks_then, Settles}
use Rattle.steps.proofs.CipheringChoices.{shows}
use Rattle.rijndael.specs.Experiment.{Plain, encrypt_shares}
use Rattle.rijndael.specs.Experiment as rijndael
use Rattle.aes.specs.Sbox.{sbox}
use Rattle.aes.specs.Experiment.{experiment, block_inputs}
use Rattle.aes.specs.Operations.{call_program, enciphering, watch_output}

pub watch_shows : (s : ℕ) → 0 < s → s ≤ 9 → (a : Plain) {masks : List (List ℕ)} {key block : List ℕ}
    (random list : List ℕ) → MasksFor s (block_inputs s).secrets masks
    → Settles (block_inputs s).secrets (a.key ∷ a.block ∷ []) masks (key ∷ block ∷ [])
    → watch_output s key block random list ≡ watched list (trace (experiment s a) (masks_then masks (elements 8 random)))
unfolding watch_output experiment rijndael.experiment call_program
watch_shows s some nine a =
    shows (enciphering s) (encrypt_shares (sbox s) s) (λ k x l m el hl hk em hm hx. refl) a.key a.block
