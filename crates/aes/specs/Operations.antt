-- The operations AES block and Watch AES block. Shares lie one after the other, share 0 first, 16 bytes each of a key and of a block.
use Rattle.std.specs.Prelude.{List, ℕ, ◌*◌, eqb}
use Rattle.refusal.specs.Outcome.{Outcome}
use Rattle.steps.specs.Program.{Run}
use Rattle.steps.specs.Call.{Call, call_outcome}
use Rattle.steps.specs.Call as call
use Rattle.steps.specs.Ciphering as ciphering
use Rattle.steps.specs.Ciphering.{Cipher, Ciphering, accepted, call_of, output_of}
use Rattle.steps.specs.Fill.{tabulate}
use Rattle.rijndael.specs.Strings.{byte_at, loaded}
use Rattle.rijndael.specs.Rijndael.{substitute, encrypt}
use Rattle.aes.specs.Figures.{block_products, block_draws, block_steps}
use Rattle.aes.specs.Experiment.{block_program}

-- ---- the call

-- its steps: the masked block of the shares
unfoldable pub call_program : ℕ → List ℕ → List ℕ → Run (List ℕ)
call_program s key block = block_program s (loaded 16 key) (loaded 16 block)

-- AES-128, masked, without records
abbrev pub aes_128 : Cipher
aes_128 = record {
  computes = encrypt substitute;
  program = call_program;
  written = λ s a. tabulate (16 * s) (byte_at a);
  products = block_products;
  draws = block_draws;
  steps = block_steps;
}

-- on s shares, with keys and blocks of 16 bytes, and random elements of 8 bits. Its tests: 7 a share count not 1 to 9; 2 a length
abbrev pub enciphering : ℕ → Ciphering
enciphering = accepted 8 16 16 aes_128

-- the call
abbrev pub block_call : ℕ → List ℕ → List ℕ → List ℕ → Call
block_call s = call_of (enciphering s)

-- ---- AES block (s, key shares, block shares, random, out)

-- the outcome, by the length of out
unfoldable pub block_outcome : ℕ → List ℕ → List ℕ → List ℕ → ℕ → Outcome
block_outcome s key block random out = call_outcome (block_call s key block random) (eqb out (16 * s))

-- what it writes: shares 0 to s - 1 of the result
unfoldable pub block_output : ℕ → List ℕ → List ℕ → List ℕ → List ℕ
block_output s = output_of (enciphering s)

-- ---- Watch AES block (s, key shares, block shares, random, list, values)

-- the outcome, by the length of values
unfoldable pub watch_outcome : ℕ → List ℕ → List ℕ → List ℕ → List ℕ → ℕ → Outcome
watch_outcome s key block random list values = call.watch_outcome (block_call s key block random) list values

-- what it writes
unfoldable pub watch_output : ℕ → List ℕ → List ℕ → List ℕ → List ℕ → List ℕ
watch_output s key block random list = call.watch_output (block_call s key block random) list

-- ---- where the tests are passed

-- a call whose arguments pass the tests
abbrev pub Callable : ℕ → List ℕ → List ℕ → List ℕ → Type 0
Callable s = ciphering.Callable (enciphering s)
