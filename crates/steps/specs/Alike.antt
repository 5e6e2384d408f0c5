-- Two masked calls of a block cipher, or two of its watch, that the paper asks to answer alike, whatever the secrets and the choices.
use Rattle.std.specs.Prelude.{◌≡◌, List, ℕ, length}
use Rattle.xor.specs.Sum.{Small}

-- two calls whose slices have the same lengths; shares of key and block lie in bytes, and so do random elements
pub record SameLengths (key key' block block' random random' : List ℕ) : Type 0 where
  pub same_key : length key ≡ length key'
  pub same_block : length block ≡ length block'
  pub same_random : length random ≡ length random'
  pub key_bytes : Small 8 key
  pub key_bytes' : Small 8 key'
  pub block_bytes : Small 8 block
  pub block_bytes' : Small 8 block'
  pub random_bytes : Small 8 random
  pub random_bytes' : Small 8 random'
