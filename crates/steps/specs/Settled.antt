-- Choices of masked calls: what a call takes that is secret or drawn, the choices that there are, and the call that secrets and a choice settle.
use Rattle.std.specs.Prelude.{◌≡◌, List, [], ◌∷◌, ◌++◌, ℕ, ◌-◌, ◌*◌, ◌^◌, ◌<◌, length, replicate}
use Rattle.xor.specs.Sum.{Small}
use Rattle.steps.specs.Split.{settled}
use Rattle.steps.specs.ShareBytes.{bytes_of}
use Rattle.steps.specs.Tape.{elements, bytes_for}

-- ---- what a call takes

-- a secret: an element of n bits, whose shares lie one in each byte, or a string of w bytes, whose shares lie one after the other
pub data Secret : Type 0 where
  element : ℕ → Secret
  string : ℕ → Secret

-- its bits
abbrev pub secret_bits : Secret → ℕ
secret_bits (element n) = n
secret_bits (string w) = 8 * w

-- how shares of it lie in the bytes that are lent
abbrev pub lie : Secret → List ℕ → List ℕ
lie (element n) a = a
lie (string w) a = bytes_of w a

-- the inputs of a masked call: its secrets, each in so many shares, and so many random elements of so many bits
pub record Inputs : Type 0 where
  pub secrets : List Secret
  pub shares : ℕ
  pub width : ℕ
  pub draws : ℕ

-- ---- choices

-- a list of masks for each secret: s - 1 of its bits
pub data MasksFor (s : ℕ) : List Secret → List (List ℕ) → Type 0 where
  masks_nil : MasksFor s [] []
  masks_cons : {x : Secret} {xs : List Secret} {l : List ℕ} {ls : List (List ℕ)}
      → length l ≡ s - 1 → Small (secret_bits x) l → MasksFor s xs ls → MasksFor s (x ∷ xs) (l ∷ ls)

-- a choice: the masks of each secret, which are its shares 1 to s - 1, and the bytes of the random elements
pub record Choice (c : Inputs) (masks : List (List ℕ)) (random : List ℕ) : Type 0 where
  pub masks_are : MasksFor c.shares c.secrets masks
  pub random_length : length random ≡ bytes_for c.width c.draws
  pub random_small : Small c.width (elements c.width random)

-- the bits of the masks in their order, and then more
unfoldable pub mask_bits : ℕ → List Secret → List ℕ → List ℕ
mask_bits s [] more = more
mask_bits s (x ∷ xs) more = replicate (s - 1) (secret_bits x) ++ mask_bits s xs more

-- a choice as the bits of each of its elements: those of the masks, secret by secret, and then those of the random elements
unfoldable pub choice_bits : Inputs → List ℕ
choice_bits c = mask_bits c.shares c.secrets (replicate c.draws c.width)

-- the masks in their order, and then more
unfoldable pub masks_then : List (List ℕ) → List ℕ → List ℕ
masks_then [] more = more
masks_then (l ∷ ls) more = l ++ masks_then ls more

-- a choice whose tape this is: the masks, and then the random elements
pub record Chosen (c : Inputs) (tape : List ℕ) : Type 0 where
  pub masks : List (List ℕ)
  pub random : List ℕ
  pub choice : Choice c masks random
  pub tape_is : tape ≡ masks_then masks (elements c.width random)

-- ---- the call that they settle

-- values for the secrets, each below 2 to the power of its bits
pub data ValuesFor : List Secret → List ℕ → Type 0 where
  values_nil : ValuesFor [] []
  values_cons : {x : Secret} {xs : List Secret} {v : ℕ} {vs : List ℕ} → v < 2 ^ secret_bits x → ValuesFor xs vs → ValuesFor (x ∷ xs) (v ∷ vs)

-- the secrets have these values, below 2 to the power of their bits, and with these masks they settle what is lent
pub data Settles : List Secret → List ℕ → List (List ℕ) → List (List ℕ) → Type 0 where
  settles_nil : Settles [] [] [] []
  settles_cons : {x : Secret} {xs : List Secret} {v : ℕ} {vs l t : List ℕ} {ls ts : List (List ℕ)}
      → v < 2 ^ secret_bits x → t ≡ lie x (settled v l) → Settles xs vs ls ts → Settles (x ∷ xs) (v ∷ vs) (l ∷ ls) (t ∷ ts)

-- values of the secrets and a choice that settle the call with this lent for the shares of each, and these random bytes
pub record Settled (c : Inputs) (lent : List (List ℕ)) (random : List ℕ) : Type 0 where
  pub values : List ℕ
  pub masks : List (List ℕ)
  pub choice : Choice c masks random
  pub settles : Settles c.secrets values masks lent
