-- A WATCH WRITES WHAT THE EXPERIMENT SHOWS. For the shares that a key and a block and masks settle, the watch of an operation writes the watched values of the
-- experiment whose tape is the masks of the key, those of the block, and the random elements.
use mathlib.Core.Path.{◌≡◌, ap₂}
use mathlib.Core.List.{List, [], ◌∷◌}
use Prim.Native.Nat.{ℕ, ◌-◌, ◌^◌, ◌<◌}
use lib.ListN.{length}
use Rattle.xor.specs.Sum.{Small}
use Rattle.steps.specs.Program.{trace}
use Rattle.steps.specs.Watch.{watched}
use Rattle.steps.specs.Tape.{elements}
use Rattle.steps.specs.Split.{settled}
use Rattle.steps.specs.ShareBytes.{bytes_of}
use Rattle.steps.specs.Settled.{MasksFor, masks_then, Settles}
use Rattle.steps.proofs.Settled.{split_again}
use Rattle.steps.proofs.CipheringChoices.{shows}
use Rattle.decomposition.specs.Record.{coefficients_of}
use Rattle.present.specs.Present.{State}
use Rattle.cipher.specs.Box.{block_program, open_program}
use Rattle.cipher.specs.Ciphering.{Cipher, on_bytes, experiment_of}
use Rattle.cipher.specs.Experiment.{experiment, block_inputs, open_experiment, open_inputs}
use Rattle.cipher.specs.Operations.{sealed, sealing, watch_output}
use Rattle.cipher.specs.OpenOperations.{opened, opening, watch_open_output}

-- the steps on the bytes of the shares that masks settle are those on these shares
pub same_steps : (c : Cipher) (s : ℕ) → 0 < s → (k x : ℕ) (l m : List ℕ) → length l ≡ s - 1 → Small 80 l → k < 2 ^ 80 → length m ≡ s - 1 → Small 64 m → x < 2 ^ 64
    → (on_bytes c).program s (bytes_of 10 (settled k l)) (bytes_of 8 (settled x m)) ≡ c.program s (settled k l) (settled x m)
same_steps c s some k x l m el hl hk em hm hx = ap₂ (c.program s) (split_again 10 s k l some el hk hl) (split_again 8 s x m some em hx hm)

-- of Watch block
pub watch_shows : (r : List ℕ) (s : ℕ) → 0 < s → (a : State ℕ) {masks : List (List ℕ)} {key block : List ℕ}
    (random list : List ℕ) → MasksFor s (block_inputs s).secrets masks
    → Settles (block_inputs s).secrets (a.key ∷ a.block ∷ []) masks (key ∷ block ∷ [])
    → watch_output r s key block random list ≡ watched list (trace (experiment r s a) (masks_then masks (elements 4 random)))
unfolding watch_output experiment experiment_of
watch_shows r s some a =
    shows (sealing r s) (block_program r s) (same_steps (sealed (coefficients_of r)) s some) a.key a.block

-- of Watch open
pub watch_open_shows : (r q : List ℕ) (s : ℕ) → 0 < s → (a : State ℕ) {masks : List (List ℕ)} {key block : List ℕ}
    (random list : List ℕ) → MasksFor s (open_inputs s).secrets masks
    → Settles (open_inputs s).secrets (a.key ∷ a.block ∷ []) masks (key ∷ block ∷ [])
    → watch_open_output r q s key block random list ≡ watched list (trace (open_experiment r q s a) (masks_then masks (elements 4 random)))
unfolding watch_open_output open_experiment experiment_of
watch_open_shows r q s some a =
    shows (opening r q s) (open_program r q s) (same_steps (opened (coefficients_of r) (coefficients_of q)) s some) a.key a.block
