-- OPENING WHAT WAS SEALED, AND SEALING WHAT WAS OPENED. Of the very bytes that Block and Open write: whatever the records, the share counts, the splits of
-- key and block in either call and the random bytes of either.
use mathlib.Core.Path.{◌≡◌, sym, ap, ap₂, ◌∙◌}
use mathlib.Core.List.{List}
use Prim.Native.Nat.{ℕ, ◌^◌, ◌<◌}
use Rattle.xor.specs.Sum.{join, Small}
use Rattle.xor.proofs.Sum.{join_small}
use Rattle.refusal.specs.Outcome.{done}
use Rattle.steps.specs.Bytes.{to_bytes}
use Rattle.steps.specs.Operations.{join_shares}
use Rattle.steps.specs.ShareBytes.{shares_of}
use Rattle.steps.proofs.ShareBytes.{shares_sharing, join_writes}
use Rattle.present.specs.Present.{size80, encrypt}
use Rattle.present.specs.Decrypt.{decrypt}
use Rattle.present.proofs.Numbers.{sound80}
use Rattle.present.proofs.Inverse.{decrypt_encrypt, encrypt_decrypt}
use Rattle.cipher.specs.Operations.{block_outcome, block_output}
use Rattle.cipher.specs.OpenOperations.{open_outcome, open_output}
use Rattle.cipher.proofs.Output.{output_bytes, done_joins, open_output_bytes, open_joins}

key_lt : (s : ℕ) (key : List ℕ) → Small 8 key → join (shares_of 10 s key) < 2 ^ 80
key_lt s key h = join_small 80 (shares_of 10 s key) (shares_sharing 10 s key h).small

block_lt : (s : ℕ) (block : List ℕ) → Small 8 block → join (shares_of 8 s block) < 2 ^ 64
block_lt s block h = join_small 64 (shares_of 8 s block) (shares_sharing 8 s block h).small

-- blocks in shares that join to one number: Join writes the same from both
joined_alike : (s s' : ℕ) (l l' : List ℕ) → Small 8 l → Small 8 l' → join (shares_of 8 s l) ≡ join (shares_of 8 s' l') → join_shares 8 s l ≡ join_shares 8 s' l'
joined_alike s s' l l' h h' e = join_writes 8 s l h ∙ ap (to_bytes 8) e ∙ sym (join_writes 8 s' l' h')

-- a call of Block and one of Open, both done, whose shares of the key join to one key
module _ (r : List ℕ) (s : ℕ) (key block random : List ℕ) (out : ℕ) (hk : Small 8 key) (hb : Small 8 block) (hr : Small 8 random) {v : List ℕ}
    (block_done : block_outcome r s key block random out ≡ done v)
    (r' q : List ℕ) (s' : ℕ) (key' block' random' : List ℕ) (out' : ℕ) (hk' : Small 8 key') (hb' : Small 8 block') (hr' : Small 8 random') {v' : List ℕ}
    (open_done : open_outcome r' q s' key' block' random' out' ≡ done v')
    (same_key : join (shares_of 10 s' key') ≡ join (shares_of 10 s key)) where
  -- If Open is lent shares that join to what Block wrote, it writes shares of the block.
  pub open_sealed : join (shares_of 8 s' block') ≡ join (shares_of 8 s (block_output r s key block random))
      → join (shares_of 8 s' (open_output r' q s' key' block' random')) ≡ join (shares_of 8 s block)
  open_sealed same =
      open_joins r' q s' key' block' random' out' hk' hb' hr' open_done
      ∙ ap₂ (decrypt size80) same_key (same ∙ done_joins r s key block random out hk hb hr block_done)
      ∙ decrypt_encrypt size80 sound80 (join (shares_of 10 s key)) (key_lt s key hk) (join (shares_of 8 s block)) (block_lt s block hb)

  -- If Block is lent shares that join to what Open wrote, it writes shares of the ciphertext.
  pub seal_opened : join (shares_of 8 s block) ≡ join (shares_of 8 s' (open_output r' q s' key' block' random'))
      → join (shares_of 8 s (block_output r s key block random)) ≡ join (shares_of 8 s' block')
  seal_opened same =
      done_joins r s key block random out hk hb hr block_done
      ∙ ap₂ (encrypt size80) (sym same_key) (same ∙ open_joins r' q s' key' block' random' out' hk' hb' hr' open_done)
      ∙ encrypt_decrypt size80 sound80 (join (shares_of 10 s' key')) (key_lt s' key' hk') (join (shares_of 8 s' block')) (block_lt s' block' hb')

  -- The same in the bytes that Join writes.
  pub join_open_sealed : join (shares_of 8 s' block') ≡ join (shares_of 8 s (block_output r s key block random))
      → join_shares 8 s' (open_output r' q s' key' block' random') ≡ join_shares 8 s block
  join_open_sealed same = joined_alike s' s _ block (open_output_bytes r' q s' key' block' random') hb (open_sealed same)

  pub join_seal_opened : join (shares_of 8 s block) ≡ join (shares_of 8 s' (open_output r' q s' key' block' random'))
      → join_shares 8 s (block_output r s key block random) ≡ join_shares 8 s' block'
  join_seal_opened same = joined_alike s s' _ block' (output_bytes r s key block random) hb' (seal_opened same)
