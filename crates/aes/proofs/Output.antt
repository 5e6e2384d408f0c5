-- THE BYTES. If AES block answers done, what Join writes from the shares that it writes is the ciphertext of FIPS 197 of what Join writes from the
-- shares of the key and of the block.
use mathlib.Core.Path.{◌≡◌}
use mathlib.Core.List.{List}
use Prim.Native.Nat.{ℕ, ◌*◌}
use lib.Dec.{eqb}
use lib.ListN.{length}
use Rattle.xor.specs.Sum.{Small}
use Rattle.refusal.specs.Outcome.{done}
use Rattle.steps.specs.Tape.{elements}
use Rattle.steps.specs.Operations.{join_shares}
use Rattle.steps.specs.Call.{call_result}
use Rattle.steps.specs.Ciphering.{call_of, output_of}
use Rattle.steps.proofs.Fill.{length_tabulate}
use Rattle.steps.proofs.Ciphering.{join_written}
use Rattle.rijndael.specs.Rijndael.{substitute, encrypt}
use Rattle.aes.specs.Operations.{enciphering, block_outcome, block_output, Callable}
use Rattle.aes.proofs.Calls.{block_right, block_good}

-- how many bytes it writes
pub output_length : (s : ℕ) (key block random : List ℕ) → length (block_output s key block random) ≡ 16 * s
unfolding block_output output_of
output_length s key block random = length_tabulate (16 * s) _

-- where a call may run, what it writes joins to the ciphertext
pub output_joins : (s : ℕ) (key block random : List ℕ) → Small 8 key → Small 8 block → Small 8 (elements 8 random)
    → Callable s key block random
    → join_shares 16 s (block_output s key block random) ≡ encrypt substitute (join_shares 16 s key) (join_shares 16 s block)
unfolding block_output output_of call_of call_result
output_joins s key block random hk hb hr a =
    (block_right s a.some a.nine).joins a (record { key_small = hk; block_small = hb; random_small = hr })

-- FROM THE ANSWER.
pub join_ciphertext : (s : ℕ) (key block random : List ℕ) (out : ℕ) → Small 8 key → Small 8 block → Small 8 (elements 8 random)
    → {v : List ℕ} → block_outcome s key block random out ≡ done v
    → join_shares 16 s (block_output s key block random) ≡ encrypt substitute (join_shares 16 s key) (join_shares 16 s block)
unfolding block_outcome block_output
join_ciphertext s key block random out hk hb hr =
    join_written (enciphering s) (block_good s) key block random (eqb out (16 * s)) (record { key_small = hk; block_small = hb; random_small = hr })
