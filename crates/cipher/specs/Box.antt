-- The masked block and the masked opening with the S-boxes of records of width 4.
use Rattle.std.specs.Prelude.{List, ℕ}
use Rattle.steps.specs.Program.{Run}
use Rattle.decomposition.specs.Record.{coefficients_of}
use Rattle.sbox.specs.Sbox.{sbox}
use Rattle.sbox.specs.Form.{basis_in, solution_in}
use Rattle.present.specs.Present.{size80}
use Rattle.present.specs.Masked.{masked_encrypt}
use Rattle.present.specs.Opening.{masked_decrypt}

-- the program of the S-box by a record's coefficients, for s shares
abbrev pub record_sbox : ℕ → List ℕ → List ℕ → Run (List ℕ)
record_sbox s coefficients = sbox 4 s (basis_in 4 4 coefficients) (solution_in 4 4 coefficients)

-- the masked block: the steps of a call with the key shares ks and the block shares xs
abbrev pub block_program : List ℕ → ℕ → List ℕ → List ℕ → Run (List ℕ)
block_program r s ks xs = masked_encrypt (record_sbox s (coefficients_of r)) size80 s ks xs

-- the masked opening, by a record r of the table and one q of the inverse table
abbrev pub open_program : List ℕ → List ℕ → ℕ → List ℕ → List ℕ → Run (List ℕ)
open_program r q s ks ys = masked_decrypt (record_sbox s (coefficients_of q)) (record_sbox s (coefficients_of r)) size80 s ks ys
