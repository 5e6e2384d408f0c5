-- Masked AES-128, step by step, over an open program of the S-box. Strings are in shares (Strings.antt). The linear transformations are done share by
-- share, and each byte of their results is recorded.
use Rattle.std.specs.Prelude.{◌≡◌, List, [], ◌∷◌, ◌++◌, ℕ, ◌+◌, ◌*◌, length, set, replicate}
use Rattle.xor.specs.Xor.{◌⊕◌}
use Rattle.steps.specs.Program.{Run, return, one, ◌>>=◌, note, for}
use Rattle.steps.specs.Shape.{Shape, step_of, Shaped, for_shape}
use Rattle.steps.specs.Coupling.{Coupled}
use Rattle.steps.specs.Sharing.{Sharing, Close}
use Rattle.rijndael.specs.Strings.{byte_at, make_shares, take_at, put_shares, record_string, bytes_shape}
use Rattle.rijndael.specs.Rijndael.{shift_byte, mix_byte, key_byte, rot_byte, rcon, word_byte, Expanding}

-- ---- what is asked of the S-box's program, on sharings of a byte

-- Given a sharing of a byte x it ends in a sharing of f x, in nine places, and it has the shape σ.
abbrev pub Substitutes : (ℕ → ℕ) → ℕ → Shape → (List ℕ → Run (List ℕ)) → Type 0
Substitutes f s σ sbox = (x : ℕ) (a : List ℕ) → Sharing 8 s x a → Shaped (λ c. (length c ≡ 9) × Sharing 8 s (f x) c) σ (sbox a)

-- Given sharings of bytes that agree but for share u, its two runs are coupled but for share u, and end in such sharings.
abbrev pub Hides : ℕ → (List ℕ → Run (List ℕ)) → Type 0
Hides u sbox = (a b : List ℕ) → Close 8 u a b → Coupled u (Close 8 u) (sbox a) (sbox b)

-- ---- the transformations of the state, in s shares

-- ShiftRows
unfoldable pub masked_shift_rows : ℕ → List ℕ → Run (List ℕ)
masked_shift_rows s a = record_string 16 s (make_shares s 16 0 16 shift_byte a [])

-- MixColumns
unfoldable pub masked_mix_columns : ℕ → List ℕ → Run (List ℕ)
masked_mix_columns s a = record_string 16 s (make_shares s 16 0 16 mix_byte a [])

-- AddRoundKey, with round key r of the key schedule w
unfoldable pub masked_add_round_key : ℕ → ℕ → List ℕ → List ℕ → Run (List ℕ)
masked_add_round_key s r w a = record_string 16 s (make_shares s 16 176 16 (key_byte r) a w)

-- ---- the parts of the key expansion

-- RotWord of the last word before round key r
unfoldable pub masked_rot_word : ℕ → ℕ → List ℕ → Run (List ℕ)
masked_rot_word s r w = record_string 4 s (make_shares s 176 0 4 (rot_byte r) w [])

-- Rcon is added to share 0 alone; its first byte is the only one that changes, and is recorded
unfoldable pub masked_rcon : ℕ → List ℕ → Run (List ℕ)
masked_rcon r t = do
  v ← note (one 0) (byte_at t 0 ⊕ byte_at (rcon r) 0)
  return (set t 0 v)

-- word i is made, and is the next temp
unfoldable pub masked_new_word : ℕ → ℕ → Expanding → Run Expanding
masked_new_word s i a = do
  w ← record_string 4 s (make_shares s 176 4 4 (word_byte i) a.words a.temp)
  return (record { words = put_shares s 176 (4 * i) 4 a.words w; temp = w })

module _ (sbox : List ℕ → Run (List ℕ)) where
  -- the S-box on byte j of a string of m bytes
  unfoldable pub masked_sub_byte : ℕ → ℕ → ℕ → List ℕ → Run (List ℕ)
  masked_sub_byte m s j a = do
    v ← sbox (make_shares s m 0 1 (take_at j) a [])
    return (put_shares s m j 1 a v)

  -- SubBytes and SubWord: the S-box on each byte, byte 0 first
  unfoldable pub masked_sub_bytes : ℕ → ℕ → List ℕ → Run (List ℕ)
  masked_sub_bytes m s = for 0 m (masked_sub_byte m s)

  -- ---- the key expansion

  -- the four words of round key r
  unfoldable pub masked_next_key : ℕ → ℕ → List ℕ → Run (List ℕ)
  masked_next_key s r w = do
    u ← masked_rot_word s r w
    v ← masked_sub_bytes 4 s u
    t ← masked_rcon r v
    b ← for 0 4 (λ t. masked_new_word s (4 * r + t)) (record { words = w; temp = t })
    return b.words

  -- KeyExpansion: the key schedule of the key k, which is round key 0
  unfoldable pub masked_key_expansion : ℕ → List ℕ → Run (List ℕ)
  masked_key_expansion s k = for 1 11 (masked_next_key s) (put_shares s 176 0 16 (replicate 1584 0) k)

  -- ---- the rounds

  -- round r, 1 to 9, under the key schedule w
  unfoldable pub masked_round : ℕ → List ℕ → ℕ → List ℕ → Run (List ℕ)
  masked_round s w r a = do
    x ← masked_sub_bytes 16 s a
    y ← masked_shift_rows s x
    z ← masked_mix_columns s y
    masked_add_round_key s r w z

  -- round 10 has no MixColumns
  unfoldable pub masked_last_round : ℕ → List ℕ → List ℕ → Run (List ℕ)
  masked_last_round s w a = do
    x ← masked_sub_bytes 16 s a
    y ← masked_shift_rows s x
    masked_add_round_key s 10 w y

  -- Cipher, under the key schedule w
  unfoldable pub masked_cipher : ℕ → List ℕ → List ℕ → Run (List ℕ)
  masked_cipher s w x = do
    a ← masked_add_round_key s 0 w x
    b ← for 1 10 (masked_round s w) a
    masked_last_round s w b

  -- the masked block of a key and a block, in s shares
  unfoldable pub masked_encrypt : ℕ → List ℕ → List ℕ → Run (List ℕ)
  masked_encrypt s k x = do
    w ← masked_key_expansion s k
    masked_cipher s w x

-- ---- its shape, for s shares and an S-box of the shape σ

-- a round key: RotWord, four S-boxes, the byte of Rcon, four words
unfoldable pub next_key_shape : ℕ → Shape → Shape
next_key_shape s σ = bytes_shape 4 s ++ (for_shape 0 4 (λ j. σ) ++ (step_of (one 0) ∷ for_shape 0 4 (λ t. bytes_shape 4 s)))

-- a round: 16 S-boxes, ShiftRows, MixColumns, AddRoundKey
unfoldable pub round_shape : ℕ → Shape → Shape
round_shape s σ = for_shape 0 16 (λ j. σ) ++ (bytes_shape 16 s ++ (bytes_shape 16 s ++ bytes_shape 16 s))

-- the last round: without MixColumns
unfoldable pub last_round_shape : ℕ → Shape → Shape
last_round_shape s σ = for_shape 0 16 (λ j. σ) ++ (bytes_shape 16 s ++ bytes_shape 16 s)

-- Cipher: AddRoundKey, rounds 1 to 9, round 10
unfoldable pub cipher_shape : ℕ → Shape → Shape
cipher_shape s σ = bytes_shape 16 s ++ (for_shape 1 10 (λ r. round_shape s σ) ++ last_round_shape s σ)

-- the block: ten round keys, and Cipher
unfoldable pub block_shape : ℕ → Shape → Shape
block_shape s σ = for_shape 1 11 (λ r. next_key_shape s σ) ++ cipher_shape s σ
