-- AES-128 (FIPS 197), unmasked. A block and a key are strings of 16 bytes in the order of the standard's input bytes: byte r + 4 c is in row r and
-- column c of the state. The key schedule is a string of 176 bytes: word i is its bytes 4 i to 4 i + 3, and round key r its bytes from 16 r on.
use Rattle.std.specs.Prelude.{List, [], ◌∷◌, ℕ, zero, suc, ◌+◌, ◌-◌, ◌*◌, ◌/◌, ◌%◌, ◌^◌}
use Rattle.xor.specs.Xor.{◌⊕◌}
use Rattle.field.specs.Mul.{mul}
use Rattle.field.specs.Power.{pow, inverse}
use Rattle.steps.specs.Iterate.{iterate}
use Rattle.steps.specs.Fill.{tabulate}
use Rattle.rijndael.specs.Strings.{byte_at, Layer, add_byte, make, put_at}

-- ---- the S-box

-- bit i of a byte, i counted round
unfoldable pub bit_of : ℕ → ℕ → ℕ
bit_of v i = v / 2 ^ (i % 8) % 2

-- bit i of the linear part of the affine map: bits i, i + 4, i + 5, i + 6 and i + 7 of v, counted round
unfoldable pub linear_bit : ℕ → ℕ → ℕ
linear_bit v i = bit_of v i ⊕ bit_of v (i + 4) ⊕ bit_of v (i + 5) ⊕ bit_of v (i + 6) ⊕ bit_of v (i + 7)

-- the sum of bits 0 to k - 1 at their places
unfoldable pub sum_bits : (ℕ → ℕ) → ℕ → ℕ
sum_bits b zero = 0
sum_bits b (suc k) = b k * 2 ^ k ⊕ sum_bits b k

-- the linear part of the affine map
unfoldable pub linear_part : ℕ → ℕ
linear_part v = sum_bits (linear_bit v) 8

-- the constant of the affine map
abbrev pub affine_constant : ℕ
affine_constant = 0x63

-- SBOX: the inverse, 0 for 0, and then the affine map
unfoldable pub substitute : ℕ → ℕ
substitute v = linear_part (inverse 8 v) ⊕ affine_constant

-- ---- the transformations of the state

-- SubBytes, of n bytes: the S-box f on each. SubWord is the same on the four bytes of a word.
unfoldable pub sub_bytes : (ℕ → ℕ) → ℕ → List ℕ → List ℕ
sub_bytes f n x = tabulate n (λ j. f (byte_at x j))

-- byte j of ShiftRows: row r is shifted left by r
unfoldable pub shift_byte : Layer
shift_byte x y j = x (j % 4 + 4 * ((j / 4 + j % 4) % 4))

-- ShiftRows of the state x
unfoldable pub shift_rows : List ℕ → List ℕ
shift_rows x = make 16 shift_byte x []

-- byte j of MixColumns: byte r of a column is 2 times byte r, 3 times byte r + 1, byte r + 2 and byte r + 3 of it, added; r is counted round
unfoldable pub mix_byte : Layer
mix_byte x y j =
    mul 8 2 (x (j / 4 * 4 + j % 4)) ⊕ mul 8 3 (x (j / 4 * 4 + (j + 1) % 4)) ⊕ x (j / 4 * 4 + (j + 2) % 4) ⊕ x (j / 4 * 4 + (j + 3) % 4)

-- MixColumns of the state x
unfoldable pub mix_columns : List ℕ → List ℕ
mix_columns x = make 16 mix_byte x []

-- byte j of AddRoundKey: round key r of the key schedule y is added to x
unfoldable pub key_byte : ℕ → Layer
key_byte r x y j = x j ⊕ y (16 * r + j)

-- AddRoundKey of the state x, with round key r of the key schedule w
unfoldable pub add_round_key : ℕ → List ℕ → List ℕ → List ℕ
add_round_key r w x = make 16 (key_byte r) x w

-- ---- Cipher, over an S-box f; that of the standard is `substitute`

module _ (f : ℕ → ℕ) where
  -- round r, 1 to 9, under the key schedule w
  unfoldable pub round : List ℕ → ℕ → List ℕ → List ℕ
  round w r x = add_round_key r w (mix_columns (shift_rows (sub_bytes f 16 x)))

  -- round 10 has no MixColumns
  unfoldable pub last_round : List ℕ → List ℕ → List ℕ
  last_round w x = add_round_key 10 w (shift_rows (sub_bytes f 16 x))

  -- Cipher: the ciphertext of a block under the key schedule w
  unfoldable pub cipher : List ℕ → List ℕ → List ℕ
  cipher w x = last_round w (iterate 1 10 (round w) (add_round_key 0 w x))

-- ---- KeyExpansion, over the same

-- byte j of RotWord of the last word before round key r, in the key schedule x
unfoldable pub rot_byte : ℕ → Layer
rot_byte r x y j = x (16 * r - 4 + (j + 1) % 4)

-- Rcon of round key r, as a word
unfoldable pub rcon : ℕ → List ℕ
rcon r = pow 8 2 (r - 1) ∷ 0 ∷ 0 ∷ 0 ∷ []

-- byte j of word i of the key schedule x: word i - 4 plus the word y
unfoldable pub word_byte : ℕ → Layer
word_byte i x y j = x (4 * i - 16 + j) ⊕ y j

-- the words so far, and temp, the word that the next one is made with
pub record Expanding : Type 0 where
  pub words : List ℕ
  pub temp : List ℕ

-- word i is made, and is the next temp
unfoldable pub new_word : ℕ → Expanding → Expanding
new_word i a =
    let w = make 4 (word_byte i) a.words a.temp in
    record { words = make 176 (put_at (4 * i) 4) a.words w; temp = w }

module _ (f : ℕ → ℕ) where
  -- the four words of round key r: the first is made with SubWord of RotWord of the word before it, plus Rcon
  unfoldable pub next_key : ℕ → List ℕ → List ℕ
  next_key r w =
      (iterate 0 4 (λ t. new_word (4 * r + t))
      (record { words = w; temp = make 4 add_byte (sub_bytes f 4 (make 4 (rot_byte r) w [])) (rcon r) })).words

  -- KeyExpansion: the key schedule of the key k, which is round key 0
  unfoldable pub key_expansion : List ℕ → List ℕ
  key_expansion k = iterate 1 11 next_key (make 176 (put_at 0 16) [] k)

  -- the ciphertext of a block under a key
  unfoldable pub encrypt : List ℕ → List ℕ → List ℕ
  encrypt k x = cipher f (key_expansion k) x
