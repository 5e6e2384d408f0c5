-- The masked block is right, as every masked operation of a key and a block is asked to be (crates/steps/proofs/Ciphering.antt).
use mathlib.Core.Path.{◌≡◌, refl, sym, ap, ◌∙◌}
use mathlib.Core.List.{List}
use Prim.Native.Nat.{ℕ, ◌+◌, ◌*◌, ◌/◌, ◌%◌, ◌^◌, ◌≤◌, ◌<◌}
use native.Mathlib.Omega.{arith}
use lib.ListN.{length, get_or, drop}
use Rattle.xor.specs.Sum.{Small}
use Rattle.xor.proofs.Sum.{small_drop}
use Rattle.steps.specs.Program.{result}
use Rattle.steps.specs.Machine.{State, Went}
use Rattle.steps.specs.ShareBytes.{ZeroPast}
use Rattle.steps.specs.Fill.{tabulate}
use Rattle.steps.specs.Tape.{elements, bytes_for, Full}
use Rattle.steps.specs.Operations.{join_shares}
use Rattle.steps.specs.Ciphering.{InBytes, Right}
use Rattle.steps.proofs.Fill.{length_tabulate, tabulate_get_or}
use Rattle.steps.proofs.Tape.{elements_bytes}
use Rattle.steps.proofs.Exec.{went_result}
use Rattle.steps.proofs.Ciphering.{Good}
use Rattle.product.proofs.Counts.{few_pairs}
use Rattle.rijndael.specs.Strings.{byte_at, make, loaded}
use Rattle.rijndael.specs.Rijndael.{substitute, add_round_key, last_round, cipher, encrypt}
use Rattle.rijndael.proofs.Loaded.{shared_loaded, join_stored}
use Rattle.aes.specs.Figures.{block_products, block_draws, block_steps}
use Rattle.aes.specs.Operations.{call_program, enciphering, Callable}
use Rattle.aes.proofs.Theorems.{result_shared, takes}

few_taken : (s : ℕ) → s ≤ 9 → (block_products < 2 ^ 64) × (block_draws s < 2 ^ 64) × (block_steps s < 2 ^ 32)
unfolding block_products block_draws block_steps
few_taken s h = (omega arith, omega (arith, few_pairs h), omega (arith, few_pairs h))

some_steps : (s : ℕ) → 0 < s → 0 < block_steps s
unfolding block_steps
some_steps s h = omega arith

-- no random byte has room for more elements
pub block_full : (s : ℕ) → Full 8 (block_draws s)
unfolding bytes_for
block_full s = refl

-- a ciphertext has 16 bytes
ciphertext_bytes : (k x : List ℕ) → tabulate 16 (byte_at (encrypt substitute k x)) ≡ encrypt substitute k x
unfolding encrypt cipher last_round add_round_key make
ciphertext_bytes k x =
    let c = encrypt substitute k x in
    ap (λ (n : ℕ). tabulate n (λ i. get_or c i 0)) (sym (length_tabulate 16 _)) ∙ tabulate_get_or c 0

-- what is written joins to the ciphertext
written_joins : (s : ℕ) {key block random : List ℕ} → Callable s key block random → InBytes (enciphering s) key block random
    → join_shares 16 s (tabulate (16 * s) (byte_at (result (call_program s key block) (elements 8 random))))
    ≡ encrypt substitute (join_shares 16 s key) (join_shares 16 s block)
unfolding call_program
written_joins s {key} {block} {random} a h =
    let k = join_shares 16 s key in
    let x = join_shares 16 s block in
    let shared = result_shared s a.some a.nine k x (loaded 16 key) (loaded 16 block) (elements 8 random)
    (shared_loaded 16 s key a.nine a.key_length h.key_small) (shared_loaded 16 s block a.nine a.block_length h.block_small) h.random_small in
    join_stored 16 s (encrypt substitute k x) (result (call_program s key block) (elements 8 random)) a.nine shared ∙ ciphertext_bytes k x

-- the bytes of a result past the shares in use
pub zero_past : (s : ℕ) → 0 < s → s ≤ 9 → (key block : List ℕ) {x : List ℕ} {m m' : State} → length key ≡ 16 * s → length block ≡ 16 * s → Small 8 key → Small 8 block
    → Small 8 m.tape → Went (call_program s key block) m x m' → ZeroPast 16 s x
unfolding call_program
zero_past s some nine key block {x} {m} lk lb hk hb ht w =
    let random = drop m.counts.random m.tape in
    let shared = result_shared s some nine (join_shares 16 s key) (join_shares 16 s block) (loaded 16 key) (loaded 16 block) random
    (shared_loaded 16 s key nine lk hk) (shared_loaded 16 s block nine lb hb) (small_drop 8 m.counts.random m.tape ht) in
    record {
      zeros = λ j h. let place : j / 16 * 16 + j % 16 ≡ j = omega arith in
          ap (λ (l : List ℕ). get_or l j 0) (went_result (call_program s key block) w)
          ∙ rw place at (shared.past (j / 16) (j % 16) (omega arith) (omega arith));
    }

pub block_right : (s : ℕ) → 0 < s → s ≤ 9 → Right (enciphering s)
unfolding call_program
block_right s some nine = record {
  elements_small = elements_bytes;
  joins = λ {key} {block} {random} a h. written_joins s a h;
  takes = λ {key} {block} {random} a h.
      takes s some nine (join_shares 16 s key) (join_shares 16 s block) (loaded 16 key) (loaded 16 block) (elements 8 random)
      (shared_loaded 16 s key nine a.key_length h.key_small) (shared_loaded 16 s block nine a.block_length h.block_small) h.random_small;
  few = few_taken s nine;
  some_steps = some_steps s some;
}

pub block_good : (s : ℕ) → Good (enciphering s)
block_good s = record { elements_small = elements_bytes; right = λ {v} e some nine. block_right s some nine }
