-- Split, Block and Join, one after the other, each on what the one before wrote.
use Rattle.std.specs.Prelude.{◌≡◌, List, [], ℕ, length}
use Rattle.refusal.specs.Outcome.{done}
use Rattle.steps.specs.Operations.{split_shares, split_outcome, join_shares, join_outcome}
use Rattle.present.specs.Present.{size80, encrypt}
use Rattle.steps.specs.Bytes.{from_bytes, to_bytes}
use Rattle.cipher.specs.Figures.{figures}
use Rattle.cipher.specs.Operations.{block_outcome, block_output}

-- what Block writes from the shares that Split writes of the key and of the block
abbrev pub enciphered : List ℕ → ℕ → List ℕ → List ℕ → List ℕ → List ℕ → List ℕ → List ℕ
enciphered r s key block key_masks block_masks random = block_output r s (split_shares s key key_masks) (split_shares s block block_masks) random

-- The key and the block are split, enciphered with the record r and joined, each slice for output being as long as what is written there. Every call
-- is done, Block hands back the figures, and Join writes the eight bytes of the ciphertext.
pub record Chained (r : List ℕ) (s : ℕ) (key block key_masks block_masks random : List ℕ) : Type 0 where
  pub split_key_done : split_outcome (length key) s (length key_masks) (length (split_shares s key key_masks)) ≡ done []
  pub split_block_done : split_outcome (length block) s (length block_masks) (length (split_shares s block block_masks)) ≡ done []
  pub block_done : block_outcome r s (split_shares s key key_masks) (split_shares s block block_masks) random
      (length (enciphered r s key block key_masks block_masks random))
      ≡ done (figures s)
  pub join_done : join_outcome (length (enciphered r s key block key_masks block_masks random)) s 8 ≡ done []
  pub join_writes : join_shares 8 s (enciphered r s key block key_masks block_masks random)
      ≡ to_bytes 8 (encrypt size80 (from_bytes key) (from_bytes block))
