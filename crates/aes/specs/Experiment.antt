-- What is claimed of a masked block: the experiment of a watch, and what is chosen.
use Rattle.std.specs.Prelude.{List, [], ◌∷◌, ℕ}
use Rattle.steps.specs.Program.{Run}
use Rattle.steps.specs.Settled.{string, Inputs}
use Rattle.rijndael.specs.Masked.{masked_encrypt}
use Rattle.rijndael.specs.Experiment.{Plain}
use Rattle.rijndael.specs.Experiment as rijndael
use Rattle.aes.specs.Sbox.{sbox}
use Rattle.aes.specs.Figures.{block_draws}

-- the masked block: the steps of a call with these strings of 16 bytes in shares
abbrev pub block_program : ℕ → List ℕ → List ℕ → Run (List ℕ)
block_program s key block = masked_encrypt (sbox s) s key block

-- the experiment: shares 1 to s - 1 of the key and of the block are drawn, share 0 of each is the secret plus these, and the block is run
unfoldable pub experiment : ℕ → Plain → Run (List ℕ)
experiment s a = rijndael.experiment (sbox s) s a

-- the inputs of a call: a key and a block of 16 bytes in s shares each, and random elements of 8 bits
abbrev pub block_inputs : ℕ → Inputs
block_inputs s = record { secrets = string 16 ∷ string 16 ∷ []; shares = s; width = 8; draws = block_draws s }
