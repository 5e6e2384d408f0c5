-- THE BYTES. If an operation answers done, the shares that it writes join to what it computes of what the shares of the key and of the block join to: of
-- Block the PRESENT-80 ciphertext, of Open the decrypted block, as numbers, and in the bytes that Join writes.
use mathlib.Core.Path.{◌≡◌, ap, ◌∙◌}
use mathlib.Core.Bool.{Bool}
use mathlib.Core.List.{List}
use Prim.Native.Nat.{ℕ, ◌*◌}
use lib.Dec.{eqb}
use lib.ListN.{length}
use Rattle.xor.specs.Sum.{join, Small}
use Rattle.refusal.specs.Outcome.{Outcome, done}
use Rattle.steps.specs.Sharing.{share}
use Rattle.steps.specs.Fill.{tabulate}
use Rattle.steps.specs.Operations.{join_shares}
use Rattle.steps.specs.Bytes.{from_bytes, to_bytes}
use Rattle.steps.specs.ShareBytes.{shares_of}
use Rattle.steps.specs.Call.{call_outcome, call_result}
use Rattle.steps.specs.Ciphering.{call_of, output_of}
use Rattle.steps.proofs.Tape.{elements_nibbles}
use Rattle.steps.proofs.Fill.{length_tabulate}
use Rattle.steps.proofs.ShareBytes.{bytes_of_small, bytes_of_length}
use Rattle.steps.proofs.Call.{call_passed}
use Rattle.steps.proofs.Ciphering.{records_passed, tests_passed, lies, join_written}
use Rattle.decomposition.specs.Record.{coefficients_of}
use Rattle.present.specs.Present.{table, size80, encrypt}
use Rattle.present.specs.Decrypt.{decrypt}
use Rattle.cipher.specs.Ciphering.{record_tests, Cipher, operation}
use Rattle.cipher.specs.Operations.{sealed, sealing, block_outcome, block_output}
use Rattle.cipher.specs.OpenOperations.{both_tests, opened, opening, open_outcome, open_output}
use Rattle.cipher.proofs.Calls.{bytes_join, Good}
use Rattle.cipher.proofs.Theorems.{sealing_right, sealing_good}
use Rattle.cipher.proofs.OpenTheorems.{opening_right, opening_good}

-- ---- what every operation writes, by the tests of its records

module _ (o : Outcome) (c : Cipher) (s : ℕ) (key block random : List ℕ) where
  -- the bytes of s shares
  pub written_bytes : Small 8 (output_of (operation o c s) key block random)
  unfolding output_of
  written_bytes = bytes_of_small 8 _

  pub written_length : length (output_of (operation o c s) key block random) ≡ 8 * s
  unfolding output_of
  written_length =
      let shares = share (call_result (call_of (operation o c s) key block random)) in
      bytes_of_length 8 (tabulate s shares) ∙ ap (λ (k : ℕ). 8 * k) (length_tabulate s shares)

  -- FROM THE ANSWER. If it answers done, what it writes joins to what it computes.
  pub written_joins : Good o c s → (fits : Bool) → Small 8 key → Small 8 block → Small 8 random
      → {v : List ℕ} → call_outcome (call_of (operation o c s) key block random) fits ≡ done v
      → join (shares_of 8 s (output_of (operation o c s) key block random)) ≡ c.computes (join (shares_of 10 s key)) (join (shares_of 8 s block))
  unfolding output_of call_of call_result
  written_joins good fits hk hb hr e =
      let t = (call_passed (call_of (operation o c s) key block random) fits e).1 in
      let a = (tests_passed (operation o c s) key block random fits t).0 in
      let right = good _ (records_passed (operation o c s) key block random fits t).1 a.some a.nine in
      bytes_join right key block random hk hb (elements_nibbles random hr)

-- ---- what Block writes

-- the bytes of s shares
pub output_bytes : (r : List ℕ) (s : ℕ) (key block random : List ℕ) → Small 8 (block_output r s key block random)
unfolding block_output
output_bytes r s = written_bytes (record_tests table r) (sealed (coefficients_of r)) s

pub output_length : (r : List ℕ) (s : ℕ) (key block random : List ℕ) → length (block_output r s key block random) ≡ 8 * s
unfolding block_output
output_length r s = written_length (record_tests table r) (sealed (coefficients_of r)) s

-- If Block answers done, what it writes joins to the ciphertext.
pub done_joins : (r : List ℕ) (s : ℕ) (key block random : List ℕ) (out : ℕ) → Small 8 key → Small 8 block → Small 8 random
    → {v : List ℕ} → block_outcome r s key block random out ≡ done v
    → join (shares_of 8 s (block_output r s key block random)) ≡ encrypt size80 (join (shares_of 10 s key)) (join (shares_of 8 s block))
unfolding block_outcome block_output
done_joins r s key block random out =
    written_joins (record_tests table r) (sealed (coefficients_of r)) s key block random (sealing_right r s) (eqb out (8 * s))

-- If Block answers done, what Join writes from what it writes are the eight bytes of the ciphertext of what Join writes from the shares of the key and of
-- the block.
pub join_ciphertext : (r : List ℕ) (s : ℕ) (key block random : List ℕ) (out : ℕ) → Small 8 key → Small 8 block → Small 8 random
    → {v : List ℕ} → block_outcome r s key block random out ≡ done v
    → join_shares 8 s (block_output r s key block random)
    ≡ to_bytes 8 (encrypt size80 (from_bytes (join_shares 10 s key)) (from_bytes (join_shares 8 s block)))
unfolding block_outcome block_output
join_ciphertext r s key block random out hk hb hr =
    let good = sealing_good r s in
    join_written (sealing r s) good key block random (eqb out (8 * s)) (lies (sealing r s) good key block random hk hb hr)

-- ---- what Open writes

-- the bytes of s shares
pub open_output_bytes : (r q : List ℕ) (s : ℕ) (key block random : List ℕ) → Small 8 (open_output r q s key block random)
unfolding open_output
open_output_bytes r q s = written_bytes (both_tests r q) (opened (coefficients_of r) (coefficients_of q)) s

pub open_output_length : (r q : List ℕ) (s : ℕ) (key block random : List ℕ) → length (open_output r q s key block random) ≡ 8 * s
unfolding open_output
open_output_length r q s = written_length (both_tests r q) (opened (coefficients_of r) (coefficients_of q)) s

-- If Open answers done, what it writes joins to the decrypted block.
pub open_joins : (r q : List ℕ) (s : ℕ) (key block random : List ℕ) (out : ℕ) → Small 8 key → Small 8 block → Small 8 random
    → {v : List ℕ} → open_outcome r q s key block random out ≡ done v
    → join (shares_of 8 s (open_output r q s key block random)) ≡ decrypt size80 (join (shares_of 10 s key)) (join (shares_of 8 s block))
unfolding open_outcome open_output
open_joins r q s key block random out =
    written_joins (both_tests r q) (opened (coefficients_of r) (coefficients_of q)) s key block random (opening_right r q s) (eqb out (8 * s))

-- If Open answers done, what Join writes from what it writes are the eight bytes of the decrypted block of what Join writes from the shares of the key and
-- of the block.
pub join_opened : (r q : List ℕ) (s : ℕ) (key block random : List ℕ) (out : ℕ) → Small 8 key → Small 8 block → Small 8 random
    → {v : List ℕ} → open_outcome r q s key block random out ≡ done v
    → join_shares 8 s (open_output r q s key block random)
    ≡ to_bytes 8 (decrypt size80 (from_bytes (join_shares 10 s key)) (from_bytes (join_shares 8 s block)))
unfolding open_outcome open_output
join_opened r q s key block random out hk hb hr =
    let good = opening_good r q s in
    join_written (opening r q s) good key block random (eqb out (8 * s)) (lies (opening r q s) good key block random hk hb hr)
