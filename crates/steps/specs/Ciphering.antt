-- Masked operations of a key and a block: the tests of their arguments, the call, and what is written. Shares lie one after the other, share 0 first.
use Rattle.std.specs.Prelude.{◌≡◌, Bool, ◌&&◌, List, [], ◌∷◌, ℕ, ◌*◌, ◌≤◌, ◌<◌, eqb, length, ◌^◌}
use Rattle.xor.specs.Sum.{Small}
use Rattle.refusal.specs.Outcome.{Outcome, done, test, and_then}
use Rattle.refusal.specs.Range.{one_to}
use Rattle.steps.specs.Program.{Run, result}
use Rattle.steps.specs.Call.{Call, call_result, Takes}
use Rattle.steps.specs.Operations.{join_shares}
use Rattle.steps.specs.Settled.{string, Inputs}
use Rattle.steps.specs.Tape.{elements, bytes_for}

-- a masked cipher, by the number of shares
pub record Cipher : Type 0 where
  -- what it computes of the bytes of a key and of a block
  pub computes : List ℕ → List ℕ → List ℕ
  -- its steps, on the bytes of the shares of a key and of a block
  pub program : ℕ → List ℕ → List ℕ → Run (List ℕ)
  -- the bytes of the shares of its result
  pub written : ℕ → List ℕ → List ℕ
  -- how many masked products, random elements and steps it has
  pub products : ℕ
  pub draws : ℕ → ℕ
  pub steps : ℕ → ℕ

-- an operation of a masked cipher on so many shares
pub record Ciphering : Type 0 where
  -- what the tests of its records come to
  pub records : Outcome
  -- the bits of a random element, and the bytes of a key and of a block
  pub width : ℕ
  pub key_bytes : ℕ
  pub block_bytes : ℕ
  pub cipher : Cipher
  pub shares : ℕ

-- that of a cipher without records, or of records that have passed their tests
abbrev pub accepted : ℕ → ℕ → ℕ → Cipher → ℕ → Ciphering
accepted width key block c s = record { records = done []; width = width; key_bytes = key; block_bytes = block; cipher = c; shares = s }

-- ---- a call

-- the lengths: of the shares of the key, of those of the block, of the random bytes, and, as `fits` says, of what is lent for output
unfoldable pub call_lengths : Ciphering → ℕ → ℕ → ℕ → Bool → Bool
call_lengths c key block random fits =
    eqb key (c.key_bytes * c.shares)
    && (eqb block (c.block_bytes * c.shares) && (eqb random (bytes_for c.width (c.cipher.draws c.shares)) && fits))

-- the tests of the arguments, `fits` saying whether what is lent for output has its length: 7 a share count not 1 to 9; 2 a length
unfoldable pub argument_tests : Ciphering → List ℕ → List ℕ → List ℕ → Bool → Outcome
argument_tests c key block random fits =
    test (one_to 9 c.shares) 7 0
    (test (call_lengths c (length key) (length block) (length random) fits) 2 0
    (done []))

-- those of the records come first
unfoldable pub call_tests : Ciphering → List ℕ → List ℕ → List ℕ → Bool → Outcome
call_tests c key block random fits = and_then c.records (argument_tests c key block random fits)

-- its steps
abbrev pub call_program : Ciphering → List ℕ → List ℕ → Run (List ℕ)
call_program c = c.cipher.program c.shares

-- the call: its tests, its steps, its random elements, and how many steps there are
unfoldable pub call_of : Ciphering → List ℕ → List ℕ → List ℕ → Call
call_of c key block random = record {
  tests = call_tests c key block random;
  program = call_program c key block;
  width = c.width;
  random = random;
  total = c.cipher.steps c.shares;
}

-- what is written: the bytes of the shares of the result
unfoldable pub output_of : Ciphering → List ℕ → List ℕ → List ℕ → List ℕ
output_of c key block random = c.cipher.written c.shares (call_result (call_of c key block random))

-- what a call or a watch hands back: masked products, random bytes, steps
unfoldable pub figures_for : Ciphering → List ℕ
figures_for c = c.cipher.products ∷ bytes_for c.width (c.cipher.draws c.shares) ∷ c.cipher.steps c.shares ∷ []

-- ---- where the tests are passed

-- arguments that pass them
pub record Callable (c : Ciphering) (key block random : List ℕ) : Type 0 where
  pub some : 0 < c.shares
  pub nine : c.shares ≤ 9
  pub key_length : length key ≡ c.key_bytes * c.shares
  pub block_length : length block ≡ c.block_bytes * c.shares
  pub random_length : length random ≡ bytes_for c.width (c.cipher.draws c.shares)

-- what lies there: shares are bytes, and random elements have their bits
pub record InBytes (c : Ciphering) (key block random : List ℕ) : Type 0 where
  pub key_small : Small 8 key
  pub block_small : Small 8 block
  pub random_small : Small c.width (elements c.width random)

-- ---- what is asked of an operation

-- With 1 to 9 shares, where the tests of its records are passed:
pub record Right (c : Ciphering) : Type 0 where
  -- bytes hold elements of so many bits;
  pub elements_small : (random : List ℕ) → Small 8 random → Small c.width (elements c.width random)
  -- what Join writes of the shares of its result is what it computes of what Join writes of those of the key and of the block;
  pub joins : {key block random : List ℕ} → Callable c key block random → InBytes c key block random
      → join_shares c.block_bytes c.shares (c.cipher.written c.shares (result (call_program c key block) (elements c.width random)))
      ≡ c.cipher.computes (join_shares c.key_bytes c.shares key) (join_shares c.block_bytes c.shares block)
  -- it takes what its figures say;
  pub takes : {key block random : List ℕ} → Callable c key block random → InBytes c key block random
      → Takes (call_program c key block) (elements c.width random) c.cipher.products (c.cipher.draws c.shares) (c.cipher.steps c.shares)
  -- these are few, and there is a step
  pub few : (c.cipher.products < 2 ^ 64) × (c.cipher.draws c.shares < 2 ^ 64) × (c.cipher.steps c.shares < 2 ^ 32)
  pub some_steps : 0 < c.cipher.steps c.shares

-- ---- its secrets and choices

-- its inputs: a key and a block in so many shares each, and random elements
abbrev pub inputs_of : Ciphering → Inputs
inputs_of c = record {
  secrets = string c.key_bytes ∷ string c.block_bytes ∷ [];
  shares = c.shares;
  width = c.width;
  draws = c.cipher.draws c.shares;
}
