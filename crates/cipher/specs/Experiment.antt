-- What is claimed of a masked block and of a masked opening: the records that they take, the experiment of a watch, and what is chosen.
use Rattle.std.specs.Prelude.{List, [], ◌∷◌, ℕ}
use Rattle.steps.specs.Program.{Run}
use Rattle.steps.specs.Shape.{Shape}
use Rattle.steps.specs.Settled.{string, Inputs}
use Rattle.sbox.specs.Shape.{sbox_shape}
use Rattle.sbox.specs.Form.{basis_size}
use Rattle.decomposition.specs.Record.{coefficients_of}
use Rattle.present.specs.Present.{table, State}
use Rattle.present.specs.Decrypt.{inverse_table}
use Rattle.cipher.specs.Figures.{block_draws, open_draws}
use Rattle.cipher.specs.Ciphering.{RecordOf, experiment_of}
use Rattle.cipher.specs.Operations.{sealed}
use Rattle.cipher.specs.OpenOperations.{opened}

-- a record of PRESENT's table
abbrev pub PresentRecord : List ℕ → Type 0
PresentRecord = RecordOf table

-- the shape of its S-box
unfoldable pub box_shape : ℕ → Shape
box_shape s = sbox_shape 4 s (basis_size 4 4)

-- the experiment: shares 1 to s - 1 of the key and of the block are drawn, share 0 of each is the secret plus these, and the block is run
unfoldable pub experiment : List ℕ → ℕ → State ℕ → Run (List ℕ)
experiment r = experiment_of (sealed (coefficients_of r))

-- the inputs of a call: a key of 10 bytes and a block of 8 in s shares each, and random elements of 4 bits
abbrev pub block_inputs : ℕ → Inputs
block_inputs s = record { secrets = string 10 ∷ string 8 ∷ []; shares = s; width = 4; draws = block_draws s }

-- ---- of an opening

-- a record of the inverse table
abbrev pub InverseRecord : List ℕ → Type 0
InverseRecord = RecordOf inverse_table

-- the experiment: the same of an opening
unfoldable pub open_experiment : List ℕ → List ℕ → ℕ → State ℕ → Run (List ℕ)
open_experiment r q = experiment_of (opened (coefficients_of r) (coefficients_of q))

-- the inputs of a call: a key of 10 bytes and a block of 8 in s shares each, and random elements of 4 bits
abbrev pub open_inputs : ℕ → Inputs
open_inputs s = record { secrets = string 10 ∷ string 8 ∷ []; shares = s; width = 4; draws = open_draws s }

-- ---- a record that is taken

-- the coefficients of PRESENT's table over the house basis: q1; p1; p2
unfoldable pub house_coefficients : List ℕ
house_coefficients =
    0 ∷ 1 ∷ 1 ∷ 0 ∷ 0 ∷ 0 ∷ 0 ∷ 1 ∷ 0
    ∷ 12 ∷ 3 ∷ 3 ∷ 13 ∷ 7 ∷ 0 ∷ 4 ∷ 14 ∷ 14
    ∷ 12 ∷ 1 ∷ 8 ∷ 13 ∷ 3 ∷ 3 ∷ 15 ∷ 0 ∷ 0 ∷ []

-- the record with them: mark, version 2, width and output bits
unfoldable pub house_record : List ℕ
house_record = 68 ∷ 67 ∷ 80 ∷ 0 ∷ 2 ∷ 4 ∷ 4 ∷ house_coefficients

-- and the one of version 1
unfoldable pub old_house_record : List ℕ
old_house_record = 68 ∷ 67 ∷ 80 ∷ 0 ∷ 1 ∷ 4 ∷ house_coefficients

-- a record of the inverse table over the house basis
unfoldable pub inverse_house_record : List ℕ
inverse_house_record =
    68 ∷ 67 ∷ 80 ∷ 0 ∷ 2 ∷ 4 ∷ 4
    ∷ 0 ∷ 1 ∷ 1 ∷ 0 ∷ 0 ∷ 0 ∷ 0 ∷ 1 ∷ 0
    ∷ 10 ∷ 12 ∷ 2 ∷ 5 ∷ 12 ∷ 0 ∷ 9 ∷ 15 ∷ 9
    ∷ 5 ∷ 10 ∷ 12 ∷ 0 ∷ 9 ∷ 10 ∷ 12 ∷ 0 ∷ 0 ∷ []
