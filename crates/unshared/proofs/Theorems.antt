-- THE UNSHARED OPERATIONS. For every key of ten bytes and block of eight, Decrypt undoes Encrypt, and Encrypt Decrypt; and what Join writes from what
-- Block writes is what Encrypt writes.
use mathlib.Core.Path.{◌≡◌, ap, ◌∙◌}
use mathlib.Core.List.{List, []}
use Prim.Native.Nat.{ℕ, ◌-◌, ◌*◌, ◌^◌, ◌≤◌, ◌<◌}
use lib.ListN.{length}
use Rattle.xor.specs.Sum.{Small}
use Rattle.refusal.specs.Outcome.{done}
use Rattle.steps.specs.Bytes.{from_bytes, to_bytes}
use Rattle.steps.specs.Tape.{bytes_for}
use Rattle.steps.specs.Operations.{join_shares}
use Rattle.steps.proofs.Bytes.{length_to_bytes, from_bytes_lt, from_to_bytes, to_from_bytes}
use Rattle.present.specs.Present.{table, size80, encrypt}
use Rattle.present.specs.Decrypt.{decrypt}
use Rattle.present.proofs.Numbers.{sound80}
use Rattle.present.proofs.Inverse.{encrypt_lt, decrypt_lt, decrypt_encrypt, encrypt_decrypt}
use Rattle.cipher.specs.Ciphering.{record_tests}
use Rattle.cipher.specs.Operations.{block_outcome, block_output}
use Rattle.cipher.specs.Figures.{block_draws}
use Rattle.cipher.specs.Chain.{enciphered}
use Rattle.cipher.proofs.Output.{join_ciphertext}
use Rattle.cipher.proofs.Chain.{chained}
use Rattle.unshared.specs.Operations.{encrypt_output, decrypt_output}

-- what each writes has the length of a block
pub encrypt_length : (key block : List ℕ) → length (encrypt_output size80 key block) ≡ 8
unfolding encrypt_output
encrypt_length key block = length_to_bytes 8 _

pub decrypt_length : (key block : List ℕ) → length (decrypt_output size80 key block) ≡ 8
unfolding decrypt_output
decrypt_length key block = length_to_bytes 8 _

module _ (key block : List ℕ) (ek : length key ≡ 10) (eb : length block ≡ 8) (hk : Small 8 key) (hb : Small 8 block) where
  key_lt : from_bytes key < 2 ^ 80
  key_lt = rw ek at (from_bytes_lt key hk)

  block_lt : from_bytes block < 2 ^ 64
  block_lt = rw eb at (from_bytes_lt block hb)

  -- Decrypt brings back the block that Encrypt took,
  pub decrypt_undoes : decrypt_output size80 key (encrypt_output size80 key block) ≡ block
  unfolding decrypt_output encrypt_output
  decrypt_undoes =
      let k = from_bytes key in
      let x = from_bytes block in
      ap (λ (y : ℕ). to_bytes 8 (decrypt size80 k y)) (from_to_bytes 8 (encrypt size80 k x) (encrypt_lt size80 sound80 k key_lt x block_lt))
      ∙ ap (to_bytes 8) (decrypt_encrypt size80 sound80 k key_lt x block_lt)
      ∙ rw eb at (to_from_bytes block hb)

  -- and Encrypt the ciphertext that Decrypt took
  pub encrypt_undoes : encrypt_output size80 key (decrypt_output size80 key block) ≡ block
  unfolding decrypt_output encrypt_output
  encrypt_undoes =
      let k = from_bytes key in
      let y = from_bytes block in
      ap (λ (x : ℕ). to_bytes 8 (encrypt size80 k x)) (from_to_bytes 8 (decrypt size80 k y) (decrypt_lt size80 sound80 k key_lt y block_lt))
      ∙ ap (to_bytes 8) (encrypt_decrypt size80 sound80 k key_lt y block_lt)
      ∙ rw eb at (to_from_bytes block hb)

-- THE MASKED BLOCK. If Block answers done, for any shares and random bytes, then Join writes from its output what Encrypt writes from what Join
-- writes from the shares of the key and of the block.
pub encrypt_agrees : (r : List ℕ) (s : ℕ) (key block random : List ℕ) (out : ℕ) → Small 8 key → Small 8 block → Small 8 random
    → {v : List ℕ} → block_outcome r s key block random out ≡ done v
    → join_shares 8 s (block_output r s key block random) ≡ encrypt_output size80 (join_shares 10 s key) (join_shares 8 s block)
unfolding encrypt_output
encrypt_agrees = join_ciphertext

-- So for every key and block, split by any masks, and every string of random bytes: the two split, enciphered in shares and joined are what Encrypt
-- writes.
pub split_agrees : (r : List ℕ) (s : ℕ) → record_tests table r ≡ done [] → 0 < s → s ≤ 9
    → (key block key_masks block_masks random : List ℕ) → length key ≡ 10 → length block ≡ 8
    → length key_masks ≡ (s - 1) * 10 → length block_masks ≡ (s - 1) * 8
    → Small 8 key → Small 8 block → Small 8 key_masks → Small 8 block_masks
    → length random ≡ bytes_for 4 (block_draws s) → Small 8 random
    → join_shares 8 s (enciphered r s key block key_masks block_masks random) ≡ encrypt_output size80 key block
unfolding encrypt_output
split_agrees r s tests some nine key block km bm random lk lb lkm lbm hk hb hkm hbm lr hr =
    (chained r s tests some nine key block km bm random lk lb lkm lbm hk hb hkm hbm lr hr).join_writes
