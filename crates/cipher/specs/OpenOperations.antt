-- The operations Open and Watch open: masked decryption of PRESENT-80. Shares lie one after the other, share 0 first: 10 bytes each of a key, 8 each of a
-- block.
use Rattle.std.specs.Prelude.{List, ℕ, ◌*◌, eqb}
use Rattle.refusal.specs.Outcome.{Outcome, and_then}
use Rattle.steps.specs.Call.{Call, call_outcome, watch_outcome, watch_output}
use Rattle.decomposition.specs.Record.{coefficients_of}
use Rattle.present.specs.Present.{table, size80}
use Rattle.present.specs.Decrypt.{inverse_table, decrypt}
use Rattle.present.specs.Opening.{masked_decrypt}
use Rattle.cipher.specs.Box.{record_sbox}
use Rattle.cipher.specs.Figures.{open_products, open_draws, open_steps}
use Rattle.steps.specs.Ciphering.{Ciphering, call_of, output_of}
use Rattle.cipher.specs.Ciphering.{record_tests, Cipher, operation}

-- ---- opening

-- the tests of the two records: those of the first as in Block, and then those of the second by the same rules against the inverse table
unfoldable pub both_tests : List ℕ → List ℕ → Outcome
both_tests r q = and_then (record_tests table r) (record_tests inverse_table q)

-- masked decryption by the coefficients cs of a record and ds of one of the inverse table
abbrev pub opened : List ℕ → List ℕ → Cipher
opened cs ds = record {
  computes = decrypt size80;
  program = λ s. masked_decrypt (record_sbox s ds) (record_sbox s cs) size80 s;
  products = open_products;
  draws = open_draws;
  steps = open_steps;
}

-- masked decryption of s shares by a record of PRESENT's S-box and one of its inverse
abbrev pub opening : List ℕ → List ℕ → ℕ → Ciphering
opening r q s = operation (both_tests r q) (opened (coefficients_of r) (coefficients_of q)) s

-- the call
abbrev pub open_call : List ℕ → List ℕ → ℕ → List ℕ → List ℕ → List ℕ → Call
open_call r q s = call_of (opening r q s)

-- ---- Open (record, inverse record, s, key shares, block shares, random, out)

-- the outcome, by the length of out
unfoldable pub open_outcome : List ℕ → List ℕ → ℕ → List ℕ → List ℕ → List ℕ → ℕ → Outcome
open_outcome r q s key block random out = call_outcome (open_call r q s key block random) (eqb out (8 * s))

-- what it writes: the bytes of shares 0 to s - 1 of the result
unfoldable pub open_output : List ℕ → List ℕ → ℕ → List ℕ → List ℕ → List ℕ → List ℕ
open_output r q s = output_of (opening r q s)

-- ---- Watch open (record, inverse record, s, key shares, block shares, random, list, values)

-- the outcome, by the length of values
unfoldable pub watch_open_outcome : List ℕ → List ℕ → ℕ → List ℕ → List ℕ → List ℕ → List ℕ → ℕ → Outcome
watch_open_outcome r q s key block random list values = watch_outcome (open_call r q s key block random) list values

-- what it writes
unfoldable pub watch_open_output : List ℕ → List ℕ → ℕ → List ℕ → List ℕ → List ℕ → List ℕ → List ℕ
watch_open_output r q s key block random list = watch_output (open_call r q s key block random) list
