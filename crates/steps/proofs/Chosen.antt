-- A CHOICE IS A TAPE, of every masked operation whose random elements fill their bytes. The tapes that `choices` counts, an element for each draw of
-- `choice_bits`, are the masks of a choice followed by its random elements, each tape that of exactly one choice.
use mathlib.Core.Path.{◌≡◌, refl, sym, ap, ap₂, ◌∙◌}
use mathlib.Core.List.{List, [], ◌∷◌, ◌++◌}
use Prim.Native.Nat.{ℕ, ◌-◌}
use native.Mathlib.Omega.{arith}
use lib.ListN.{length, replicate, length-replicate}
use Rattle.steps.specs.Choices.{Fits}
use Rattle.steps.specs.Tape.{elements, Full}
use Rattle.steps.specs.Settled.{Secret, secret_bits, Inputs, MasksFor, masks_nil, masks_cons, Choice, mask_bits, choice_bits, masks_then, Chosen}
use Rattle.steps.proofs.Choices.{fits_small, small_fits, tape_joined, tape_parted, parts_once}
use Rattle.steps.proofs.Tape.{elements_count, elements_held, elements_once}

-- there are as many masks of a secret as shares after the first
pub masks_length : {s : ℕ} {x : Secret} {xs : List Secret} {l : List ℕ} {ls : List (List ℕ)} → MasksFor s (x ∷ xs) (l ∷ ls) → length l ≡ s - 1
masks_length (masks_cons e small rest) = e

-- ---- a choice and its tape

-- an element for each draw: of the masks, and of what comes after them
masks_tape : (s : ℕ) {xs : List Secret} {ls : List (List ℕ)} (more t : List ℕ) → MasksFor s xs ls → (length t ≡ length more) × Fits more t
    → (length (masks_then ls t) ≡ length (mask_bits s xs more)) × Fits (mask_bits s xs more) (masks_then ls t)
unfolding mask_bits masks_then
masks_tape s more t masks_nil h = h
masks_tape s more t (masks_cons {x} {xs} {l} {ls} e small rest) h =
    tape_joined (secret_bits x) (s - 1) (mask_bits s xs more) l (masks_then ls t) e small (masks_tape s more t rest h)

-- A CHOICE IS A TAPE: it has an element for each draw, and fits the draws.
pub choice_tape : (c : Inputs) → Full c.width c.draws → (masks : List (List ℕ)) (random : List ℕ) → Choice c masks random
    → let tape = masks_then masks (elements c.width random) in (length tape ≡ length (choice_bits c)) × Fits (choice_bits c) tape
unfolding choice_bits
choice_tape c full masks random a =
    let n = c.width in
    let d = c.draws in
    masks_tape c.shares (replicate d n) (elements n random) a.masks_are
    (elements_count n random d full a.random_length ∙ sym (length-replicate d n), fits_small n d (elements n random) a.random_small)

-- the masks at the beginning of a tape, and what comes after them
record Begun (s : ℕ) (xs : List Secret) (more tape : List ℕ) : Type 0 where
  masks : List (List ℕ)
  rest : List ℕ
  masks_are : MasksFor s xs masks
  whole : tape ≡ masks_then masks rest
  rest_length : length rest ≡ length more
  rest_fits : Fits more rest

tape_masks : (s : ℕ) (xs : List Secret) (more tape : List ℕ) → length tape ≡ length (mask_bits s xs more) → Fits (mask_bits s xs more) tape
    → Begun s xs more tape
unfolding mask_bits masks_then
tape_masks s [] more tape e h =
    record { masks = []; rest = tape; masks_are = masks_nil; whole = refl; rest_length = e; rest_fits = h }
tape_masks s (x ∷ xs) more tape e h =
    let a = tape_parted (secret_bits x) (s - 1) (mask_bits s xs more) tape e h in
    let b = tape_masks s xs more a.rest a.rest_length a.rest_fits in
    record {
      masks = a.front ∷ b.masks;
      rest = b.rest;
      masks_are = masks_cons a.front_length a.front_small b.masks_are;
      whole = a.whole ∙ ap (λ (t : List ℕ). a.front ++ t) b.whole;
      rest_length = b.rest_length;
      rest_fits = b.rest_fits;
    }

-- EACH SUCH TAPE is that of a choice;
pub tape_choice : (c : Inputs) → Full c.width c.draws → (tape : List ℕ) → length tape ≡ length (choice_bits c) → Fits (choice_bits c) tape → Chosen c tape
unfolding choice_bits
tape_choice c full tape e h =
    let n = c.width in
    let d = c.draws in
    let parts = tape_masks c.shares c.secrets (replicate d n) tape e h in
    let count : length parts.rest ≡ d = parts.rest_length ∙ length-replicate d n in
    let small = small_fits n d parts.rest (omega arith) parts.rest_fits in
    let held = elements_held n d parts.rest full small count in
    record {
      masks = parts.masks;
      random = held.0;
      choice = record {
        masks_are = parts.masks_are;
        random_length = held.1;
        random_small = rw held.2 small;
      };
      tape_is = parts.whole ∙ ap (masks_then parts.masks) (sym held.2);
    }

masks_once : {s : ℕ} {xs : List Secret} {ls ms : List (List ℕ)} {t u : List ℕ} → MasksFor s xs ls → MasksFor s xs ms
    → masks_then ls t ≡ masks_then ms u → (ls ≡ ms) × (t ≡ u)
unfolding masks_then
masks_once masks_nil masks_nil e = (refl, e)
masks_once {s} (masks_cons {l = l} {ls = ls} e small rest) (masks_cons {l = m} {ls = ms} e' small' rest') same =
    let parts = parts_once (s - 1) l m _ _ e e' same in
    let more = masks_once rest rest' parts.1 in
    (ap₂ (λ (a : List ℕ) (b : List (List ℕ)). a ∷ b) parts.0 more.0, more.1)

-- and of NO OTHER: two choices with one tape are the same.
pub chosen_once : (c : Inputs) {tape : List ℕ} (a b : Chosen c tape) → (a.masks ≡ b.masks) × (a.random ≡ b.random)
chosen_once c a b =
    let parts = masks_once a.choice.masks_are b.choice.masks_are (sym a.tape_is ∙ b.tape_is) in
    (parts.0, elements_once c.width a.random b.random parts.1)
