-- The operations Block and Watch block. Shares lie one after the other, share 0 first: 10 bytes each of a key, 8 each of a block.
use Rattle.std.specs.Prelude.{List, ℕ, ◌*◌, eqb}
use Rattle.refusal.specs.Outcome.{Outcome}
use Rattle.steps.specs.Call.{Call, call_outcome}
use Rattle.steps.specs.Call as call
use Rattle.decomposition.specs.Record.{coefficients_of}
use Rattle.present.specs.Present.{table, size80, encrypt}
use Rattle.present.specs.Masked.{masked_encrypt}
use Rattle.cipher.specs.Box.{record_sbox}
use Rattle.cipher.specs.Figures.{block_products, block_draws, block_steps}
use Rattle.steps.specs.Ciphering.{Ciphering, call_of, output_of}
use Rattle.cipher.specs.Ciphering.{record_tests, Cipher, operation}

-- ---- sealing

-- masked encryption by the coefficients of a record
abbrev pub sealed : List ℕ → Cipher
sealed coefficients = record {
  computes = encrypt size80;
  program = λ s. masked_encrypt (record_sbox s coefficients) size80 s;
  products = block_products;
  draws = block_draws;
  steps = block_steps;
}

-- masked encryption of s shares by a record of PRESENT's S-box
abbrev pub sealing : List ℕ → ℕ → Ciphering
sealing r s = operation (record_tests table r) (sealed (coefficients_of r)) s

-- the call
abbrev pub block_call : List ℕ → ℕ → List ℕ → List ℕ → List ℕ → Call
block_call r s = call_of (sealing r s)

-- ---- Block (record, s, key shares, block shares, random, out)

-- the outcome, by the length of out
unfoldable pub block_outcome : List ℕ → ℕ → List ℕ → List ℕ → List ℕ → ℕ → Outcome
block_outcome r s key block random out = call_outcome (block_call r s key block random) (eqb out (8 * s))

-- what it writes: the bytes of shares 0 to s - 1 of the result
unfoldable pub block_output : List ℕ → ℕ → List ℕ → List ℕ → List ℕ → List ℕ
block_output r s = output_of (sealing r s)

-- ---- Watch block (record, s, key shares, block shares, random, list, values)

-- the outcome, by the length of values
unfoldable pub watch_outcome : List ℕ → ℕ → List ℕ → List ℕ → List ℕ → List ℕ → ℕ → Outcome
watch_outcome r s key block random list values = call.watch_outcome (block_call r s key block random) list values

-- what it writes
unfoldable pub watch_output : List ℕ → ℕ → List ℕ → List ℕ → List ℕ → List ℕ → List ℕ
watch_output r s key block random list = call.watch_output (block_call r s key block random) list
