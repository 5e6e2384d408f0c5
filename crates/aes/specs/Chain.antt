-- Split, AES block and Join, one after the other, each on what the one before wrote.
use Rattle.std.specs.Prelude.{◌≡◌, List, [], ℕ, length}
use Rattle.refusal.specs.Outcome.{done}
use Rattle.steps.specs.Operations.{split_shares, split_outcome, join_shares, join_outcome}
use Rattle.rijndael.specs.Rijndael.{substitute, encrypt}
use Rattle.aes.specs.Figures.{figures}
use Rattle.aes.specs.Operations.{block_outcome, block_output}

-- what AES block writes from the shares that Split writes of the key and of the block
abbrev pub enciphered : ℕ → List ℕ → List ℕ → List ℕ → List ℕ → List ℕ → List ℕ
enciphered s key block key_masks block_masks random = block_output s (split_shares s key key_masks) (split_shares s block block_masks) random

-- The key and the block are split, enciphered and joined, each slice for output being as long as what is written there. Every call is done, AES block
-- hands back the figures, and Join writes the sixteen bytes of the ciphertext.
pub record Chained (s : ℕ) (key block key_masks block_masks random : List ℕ) : Type 0 where
  pub split_key_done : split_outcome (length key) s (length key_masks) (length (split_shares s key key_masks)) ≡ done []
  pub split_block_done : split_outcome (length block) s (length block_masks) (length (split_shares s block block_masks)) ≡ done []
  pub block_done : block_outcome s (split_shares s key key_masks) (split_shares s block block_masks) random
      (length (enciphered s key block key_masks block_masks random))
      ≡ done (figures s)
  pub join_done : join_outcome (length (enciphered s key block key_masks block_masks random)) s 16 ≡ done []
  pub join_writes : join_shares 16 s (enciphered s key block key_masks block_masks random) ≡ encrypt substitute key block
