-- TO COUNT TAPES IS TO COUNT CALLS. The tapes that `choices` counts are those of the choices, one to one, and each
-- with a secret settles one call (crates/steps/proofs/Settled.antt). Watch S-box accepts it, with any list of up to 64 step numbers, and writes the
-- values that are counted: those of the experiment on this tape.
use mathlib.Core.Path.{◌≡◌, sym, ap, ◌∙◌}
use mathlib.Core.List.{List, [], ◌∷◌}
use Prim.Native.Nat.{ℕ, ◌≤◌, ◌<◌}
use lib.ListN.{length, get_or}
use Rattle.refusal.specs.Outcome.{done}
use Rattle.steps.specs.Program.{trace}
use Rattle.steps.specs.Watch.{watched}
use Rattle.steps.specs.Tape.{elements}
use Rattle.steps.specs.Choices.{Fits}
use Rattle.steps.specs.Settled.{Choice, choice_bits, MasksFor, masks_nil, masks_cons, masks_then, Chosen, Settles, settles_nil, settles_cons, Settled}
use Rattle.steps.proofs.Chosen.{choice_tape, tape_choice}
use Rattle.decomposition.specs.Layout.{Pair}
use Rattle.decomposition.specs.Record.{outputs_of, coefficients_of, width_of, read_outcome}
use Rattle.decomposition.proofs.ReadOutcome.{read_accepted}
use Rattle.sbox.specs.Figures.{figures, sbox_steps}
use Rattle.sbox.specs.Form.{basis_in, solution_in}
use Rattle.sbox.specs.Experiment.{experiment, sbox_inputs}
use Rattle.sbox.specs.Operations.{watch_outcome, watch_output}
use Rattle.sbox.proofs.Counts.{sbox_full}
use Rattle.sbox.proofs.Settles.{watch_accepted}
use Rattle.sbox.proofs.Watched.{watch_shows}

-- ONE TO ONE. The random elements fill their bytes, so a choice has an element for each draw and fits the draws,
pub choice_taped : (n m s : ℕ) → Pair n m → (masks : List (List ℕ)) (random : List ℕ) → Choice (sbox_inputs n m s) masks random
    → let tape = masks_then masks (elements n random) in let bits = choice_bits (sbox_inputs n m s) in (length tape ≡ length bits) × Fits bits tape
choice_taped n m s w = choice_tape (sbox_inputs n m s) (sbox_full n m s w)

-- and each such tape is that of a choice; of no other (`chosen_once`).
pub tape_chosen : (n m s : ℕ) → Pair n m → (tape : List ℕ) → let bits = choice_bits (sbox_inputs n m s) in length tape ≡ length bits → Fits bits tape
    → Chosen (sbox_inputs n m s) tape
tape_chosen n m s w = tape_choice (sbox_inputs n m s) (sbox_full n m s w)

-- a watch writes what the experiment shows, of the masks of a choice
shown : (r : List ℕ) (n s : ℕ) → width_of r ≡ n → (x : ℕ) {masks : List (List ℕ)} {shares : List ℕ} (random list : List ℕ)
    → MasksFor s (sbox_inputs n (outputs_of r) s).secrets masks → Settles (sbox_inputs n (outputs_of r) s).secrets (x ∷ []) masks (shares ∷ [])
    → watch_output r s shares random list
    ≡ watched list (trace (experiment n s (basis_in n (outputs_of r) (coefficients_of r)) (solution_in n (outputs_of r) (coefficients_of r)) x) (masks_then masks (elements n random)))
unfolding masks_then
shown r n s named x random list (masks_cons {l = l} e small masks_nil) (settles_cons h is settles_nil) =
    rw is (rw named at (watch_shows r s x l random list e))

pub tape_watched : (r : List ℕ) (n s : ℕ) → read_outcome r ≡ done (n ∷ []) → 0 < s → s ≤ 9 → (x : ℕ) {tape shares : List ℕ}
    → (c : Chosen (sbox_inputs n (outputs_of r) s) tape) → Settles (sbox_inputs n (outputs_of r) s).secrets (x ∷ []) c.masks (shares ∷ [])
    → (list : List ℕ) → length list ≤ 64 → ((k : ℕ) → get_or list k 0 < sbox_steps n (outputs_of r) s)
    → (watch_outcome r s shares c.random list (length list) ≡ done (figures n (outputs_of r) s))
    × (watch_output r s shares c.random list ≡ watched list (trace (experiment n s (basis_in n (outputs_of r) (coefficients_of r)) (solution_in n (outputs_of r) (coefficients_of r)) x) tape))
tape_watched r n s read some nine x {tape} {shares} c h list few below =
    let settled : Settled (sbox_inputs n (outputs_of r) s) (shares ∷ []) c.random = record { values = x ∷ []; masks = c.masks; choice = c.choice; settles = h } in
    let shows = shown r n s (read_accepted r n read).named x c.random list c.choice.masks_are h in (
      watch_accepted r n s read some nine shares c.random settled list few below,
      shows ∙ ap (λ (t : List ℕ). watched list (trace (experiment n s (basis_in n (outputs_of r) (coefficients_of r)) (solution_in n (outputs_of r) (coefficients_of r)) x) t)) (sym c.tape_is),
    )
