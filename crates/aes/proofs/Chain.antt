-- THE CHAIN. Split, AES block and Join, one after the other: for every key and block, all masks and all random bytes each of them accepts its call,
-- and Join writes the sixteen bytes of the ciphertext of FIPS 197.
use mathlib.Core.Path.{◌≡◌, ap, ap₂, ◌∙◌}
use mathlib.Core.List.{List}
use Prim.Native.Nat.{ℕ, ◌-◌, ◌*◌, ◌≤◌, ◌<◌}
use native.Mathlib.Nat.{mul_comm}
use native.Mathlib.Omega.{arith}
use lib.ListN.{length}
use Rattle.xor.specs.Sum.{Small}
use Rattle.refusal.specs.Outcome.{done}
use Rattle.steps.specs.Tape.{elements, bytes_for}
use Rattle.steps.specs.Operations.{split_shares}
use Rattle.steps.proofs.Tape.{elements_bytes}
use Rattle.steps.proofs.ShareBytes.{small_split}
use Rattle.steps.proofs.Operations.{join_accepts, split_length, split_accepted, split_joined}
use Rattle.rijndael.specs.Rijndael.{substitute, encrypt}
use Rattle.aes.specs.Figures.{figures, block_draws}
use Rattle.aes.specs.Operations.{block_outcome}
use Rattle.aes.specs.Chain.{enciphered, Chained}
use Rattle.aes.proofs.Output.{output_length, join_ciphertext}
use Rattle.aes.proofs.Settles.{block_accepts}

-- For 1 to 9 shares, every key and block of 16 bytes, all masks and all random bytes.
pub chained : (s : ℕ) → 0 < s → s ≤ 9
    → (key block key_masks block_masks random : List ℕ) → length key ≡ 16 → length block ≡ 16
    → length key_masks ≡ (s - 1) * 16 → length block_masks ≡ (s - 1) * 16
    → Small 8 key → Small 8 block → Small 8 key_masks → Small 8 block_masks
    → length random ≡ bytes_for 8 (block_draws s) → Small 8 random
    → Chained s key block key_masks block_masks random
chained s some nine key block km bm random lk lb lkm lbm hk hb hkm hbm lr hr =
    let ks = split_shares s key km in
    let xs = split_shares s block bm in
    let sk = small_split s key km hk hkm in
    let sx = small_split s block bm hb hbm in
    let small : Small 8 (elements 8 random) = elements_bytes random hr in
    let written = enciphered s key block km bm random in
    let size : length written ≡ 16 * s = output_length s ks xs random in
    let answer : block_outcome s ks xs random (16 * s) ≡ done (figures s) =
    block_accepts s some nine ks xs random sk sx
    (split_length 16 s some key km lk lkm ∙ mul_comm s 16)
    (split_length 16 s some block bm lb lbm ∙ mul_comm s 16) lr small in
    record {
      split_key_done = split_accepted 16 s some key km lk lkm nine (omega arith) (omega arith);
      split_block_done = split_accepted 16 s some block bm lb lbm nine (omega arith) (omega arith);
      block_done = ap (block_outcome s ks xs random) size ∙ answer;
      join_done = join_accepts (length written) s 16 some nine (omega arith) (omega arith) (size ∙ mul_comm 16 s);
      join_writes = join_ciphertext s ks xs random (16 * s) sk sx small answer
          ∙ ap₂ (encrypt substitute) (split_joined 16 s some key km lk lkm) (split_joined 16 s some block bm lb lbm);
    }
