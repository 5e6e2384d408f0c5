-- THE CHAIN. Split, Block and Join, one after the other: for every key and block, all masks and all random elements each of them accepts its call,
-- and Join writes the eight bytes of the ciphertext.
use mathlib.Core.Path.{◌≡◌, ap, ap₂, ◌∙◌}
use mathlib.Core.List.{List, []}
use Prim.Native.Nat.{ℕ, ◌-◌, ◌*◌, ◌≤◌, ◌<◌}
use native.Mathlib.Nat.{mul_comm}
use native.Mathlib.Omega.{arith}
use lib.ListN.{length}
use Rattle.xor.specs.Sum.{Small}
use Rattle.refusal.specs.Outcome.{done}
use Rattle.steps.specs.Tape.{bytes_for}
use Rattle.steps.specs.Operations.{split_shares}
use Rattle.steps.proofs.Operations.{join_accepts, split_length, split_accepted, split_joined}
use Rattle.present.specs.Present.{table, size80, encrypt}
use Rattle.steps.specs.Bytes.{from_bytes, to_bytes}
use Rattle.cipher.specs.Figures.{figures, block_draws}
use Rattle.cipher.specs.Ciphering.{record_tests}
use Rattle.cipher.specs.Operations.{block_outcome}
use Rattle.cipher.specs.Chain.{enciphered, Chained}
use Rattle.steps.proofs.ShareBytes.{small_split}
use Rattle.cipher.proofs.Output.{output_length, join_ciphertext}
use Rattle.cipher.proofs.Settles.{block_accepts}

-- For every record that passes the tests of Block, 1 to 9 shares, every key of 10 bytes and block of 8, all masks and all random elements.
pub chained : (r : List ℕ) (s : ℕ) → record_tests table r ≡ done [] → 0 < s → s ≤ 9
    → (key block key_masks block_masks random : List ℕ) → length key ≡ 10 → length block ≡ 8
    → length key_masks ≡ (s - 1) * 10 → length block_masks ≡ (s - 1) * 8
    → Small 8 key → Small 8 block → Small 8 key_masks → Small 8 block_masks
    → length random ≡ bytes_for 4 (block_draws s) → Small 8 random
    → Chained r s key block key_masks block_masks random
chained r s tests some nine key block km bm random lk lb lkm lbm hk hb hkm hbm lr hr =
    let ks = split_shares s key km in
    let xs = split_shares s block bm in
    let sk = small_split s key km hk hkm in
    let sx = small_split s block bm hb hbm in
    let written = enciphered r s key block km bm random in
    let size : length written ≡ 8 * s = output_length r s ks xs random in
    let answer : block_outcome r s ks xs random (8 * s) ≡ done (figures s) =
    block_accepts r s tests some nine ks xs random sk sx hr
    (split_length 10 s some key km lk lkm ∙ mul_comm s 10)
    (split_length 8 s some block bm lb lbm ∙ mul_comm s 8) lr in
    record {
      split_key_done = split_accepted 10 s some key km lk lkm nine (omega arith) (omega arith);
      split_block_done = split_accepted 8 s some block bm lb lbm nine (omega arith) (omega arith);
      block_done = ap (block_outcome r s ks xs random) size ∙ answer;
      join_done = join_accepts (length written) s 8 some nine (omega arith) (omega arith) (size ∙ mul_comm 8 s);
      join_writes = join_ciphertext r s ks xs random (8 * s) sk sx hr answer
          ∙ ap₂ (λ (k x : List ℕ). to_bytes 8 (encrypt size80 (from_bytes k) (from_bytes x)))
          (split_joined 10 s some key km lk lkm) (split_joined 8 s some block bm lb lbm);
    }
