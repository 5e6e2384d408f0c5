-- What the masked operations of PRESENT-80 have in common: the tests of a record, and their steps, on numbers and on bytes.
use Rattle.std.specs.Prelude.{◌≡◌, Bool, List, [], ◌∷◌, ℕ, ◌<◌, leb, eqb, length, get_or, ◌^◌}
use Rattle.refusal.specs.Outcome.{Outcome, done, test, and_then}
use Rattle.refusal.specs.Large.{first_large}
use Rattle.xor.specs.Sum.{Small}
use Rattle.steps.specs.Program.{Run, result}
use Rattle.steps.specs.Call.{Takes}
use Rattle.steps.specs.Sharing.{share, Sharing}
use Rattle.steps.specs.Fill.{tabulate}
use Rattle.steps.specs.Bytes.{from_bytes, to_bytes}
use Rattle.steps.specs.ShareBytes.{shares_of, bytes_of}
use Rattle.steps.specs.TwoSecrets.{split_two}
use Rattle.steps.specs.Ciphering as ciphering
use Rattle.steps.specs.Ciphering.{Ciphering}
use Rattle.decomposition.specs.Layout.{layout}
use Rattle.decomposition.specs.Record.{width_of, read_outcome}
use Rattle.decomposition.specs.Check.{form_in, record_output, first_difference, check_outcome}
use Rattle.present.specs.Present.{State}

-- ---- a record of a table

-- a record of width 4 that computes the table t: Read and Check say so
pub record RecordOf (t r : List ℕ) : Type 0 where
  pub read : read_outcome r ≡ done (4 ∷ [])
  pub checked : check_outcome r t ≡ done []

-- sixteen nibbles
abbrev pub Nibbles : List ℕ → Type 0
Nibbles t = (length t ≡ 16) × (first_large 16 t ≡ 16)

-- the form with these coefficients, of four bits in and four out, is the table t
abbrev pub Realizes : List ℕ → List ℕ → Type 0
Realizes t coefficients = (x : ℕ) → x < 16 → form_in (layout 4 4) coefficients x ≡ get_or t x 0

-- does the output of a record of width 4 compute the table t?
unfoldable pub computes_table : List ℕ → List ℕ → Bool
computes_table t r = leb (length t) (first_difference (record_output (layout 4 4) r) t)

-- its tests: Read's; 1 a width other than 4; 6 another table
unfoldable pub record_tests : List ℕ → List ℕ → Outcome
record_tests t r =
    and_then (read_outcome r)
    (test (eqb (width_of r) 4) 1 0
    (test (computes_table t r) 6 0
    (done [])))

-- ---- a masked cipher of PRESENT-80

-- whose steps are on the shares of a key of 10 bytes and of a block of 8 as numbers
pub record Cipher : Type 0 where
  -- what it computes of a key and a block
  pub computes : ℕ → ℕ → ℕ
  -- its steps, by the number of shares
  pub program : ℕ → List ℕ → List ℕ → Run (List ℕ)
  -- how many masked products, random elements, of 4 bits, and steps it has
  pub products : ℕ
  pub draws : ℕ → ℕ
  pub steps : ℕ → ℕ

-- the same on bytes
abbrev pub on_bytes : Cipher → ciphering.Cipher
on_bytes c = record {
  computes = λ k x. to_bytes 8 (c.computes (from_bytes k) (from_bytes x));
  program = λ s key block. c.program s (shares_of 10 s key) (shares_of 8 s block);
  written = λ s a. bytes_of 8 (tabulate s (share a));
  products = c.products;
  draws = c.draws;
  steps = c.steps;
}

-- its operation on s shares, by what the tests of its records come to
abbrev pub operation : Outcome → Cipher → ℕ → Ciphering
operation records c s = record { records = records; width = 4; key_bytes = 10; block_bytes = 8; cipher = on_bytes c; shares = s }

-- What is asked of it on s shares, for sharings of any key and block, and random elements.
pub record Right (c : Cipher) (s : ℕ) : Type 0 where
  -- it ends in a sharing of what it computes,
  pub ends : (k x : ℕ) (ks xs tape : List ℕ) → Sharing 80 s k ks → Sharing 64 s x xs → Small 4 tape
      → Sharing 64 s (c.computes k x) (result (c.program s ks xs) tape)
  -- and takes what its figures say;
  pub takes : (k x : ℕ) (ks xs tape : List ℕ) → Sharing 80 s k ks → Sharing 64 s x xs → Small 4 tape
      → Takes (c.program s ks xs) tape c.products (c.draws s) (c.steps s)
  -- these are few, and there is a step
  pub few : (c.products < 2 ^ 64) × (c.draws s < 2 ^ 64) × (c.steps s < 2 ^ 32)
  pub some_steps : 0 < c.steps s

-- the experiment: shares 1 to s - 1 of the key and of the block are drawn, share 0 of each is the secret plus these, and the steps are run
unfoldable pub experiment_of : Cipher → ℕ → State ℕ → Run (List ℕ)
experiment_of c s a = split_two 80 64 s (c.program s) (a.key, a.block)
