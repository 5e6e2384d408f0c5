-- The experiment of demand 3 for the masked S-box: the masks are drawn, and then the steps are taken.
use Rattle.std.specs.Prelude.{List, [], ◌∷◌, ◌++◌, ℕ, ◌-◌, replicate}
use Rattle.steps.specs.Program.{Run, ◌>>=◌}
use Rattle.steps.specs.Shape.{Shape, draw_of}
use Rattle.steps.specs.Split.{split}
use Rattle.steps.specs.Settled.{element, Inputs}
use Rattle.sbox.specs.Sbox.{sbox}
use Rattle.sbox.specs.Form.{basis_size}
use Rattle.sbox.specs.Shape.{sbox_shape}
use Rattle.sbox.specs.Figures.{sbox_draws}

-- shares 1 to s - 1 of the secret x are drawn, share 0 is x plus these, and the S-box is run on the shares
unfoldable pub experiment : ℕ → ℕ → List (List ℕ) → List (List ℕ) → ℕ → Run (List ℕ)
experiment n s qs ps x = split n s x >>= sbox n s qs ps

-- its shape with a record of m output bits: a draw for each mask, and then the S-box
unfoldable pub experiment_shape : ℕ → ℕ → ℕ → Shape
experiment_shape n m s = replicate (s - 1) (draw_of n) ++ sbox_shape n s (basis_size n m)

-- the inputs of a call with such a record: a secret of n bits in s shares, and the random elements that the steps draw
abbrev pub sbox_inputs : ℕ → ℕ → ℕ → Inputs
sbox_inputs n m s = record { secrets = element n ∷ []; shares = s; width = n; draws = sbox_draws n m s }
