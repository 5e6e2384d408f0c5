-- The experiment that demand 3 of the paper counts, for a block of AES-128: key and block are split by masks that are drawn, and the masked program
-- runs on the bytes of their shares.
use Rattle.std.specs.Prelude.{List, ℕ, ◌^◌, ◌<◌}
use Rattle.steps.specs.Program.{Run}
use Rattle.steps.specs.Shape.{Shape}
use Rattle.steps.specs.ShareBytes.{bytes_of}
use Rattle.steps.specs.TwoSecrets.{split_two, split_two_bits}
use Rattle.rijndael.specs.Strings.{loaded}
use Rattle.rijndael.specs.Masked.{masked_encrypt, block_shape}

-- a key and a block, each as the number that its 16 bytes stand for, byte 0 the highest
pub record Plain : Type 0 where
  pub key : ℕ
  pub block : ℕ

-- what is secret
pub record Secret (a : Plain) : Type 0 where
  pub key_small : a.key < 2 ^ 128
  pub block_small : a.block < 2 ^ 128

-- the masked block of a key and a block whose shares are numbers: it runs on the 16 bytes of each share
abbrev pub encrypt_shares : (List ℕ → Run (List ℕ)) → ℕ → List ℕ → List ℕ → Run (List ℕ)
encrypt_shares sbox s k x = masked_encrypt sbox s (loaded 16 (bytes_of 16 k)) (loaded 16 (bytes_of 16 x))

-- shares 1 to s - 1 of the key are drawn, then those of the block; share 0 of each is the secret plus these
unfoldable pub experiment : (List ℕ → Run (List ℕ)) → ℕ → Plain → Run (List ℕ)
experiment sbox s a = split_two 128 128 s (encrypt_shares sbox s) (a.key, a.block)

-- a choice, as the bits of each of its elements: shares 1 to s - 1 of the key, those of the block, and each random element that the steps draw
unfoldable pub choice_bits : ℕ → Shape → List ℕ
choice_bits s σ = split_two_bits 128 128 s (block_shape s σ)
