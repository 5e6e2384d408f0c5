-- PRESENT (CHES 2007, ISO/IEC 29192-2), unmasked. A block is a number below 2 ^ 64, a key of 80 bits one below 2 ^ 80; bit 0 and nibble 0 are the
-- lowest.
use Rattle.std.specs.Prelude.{cond, List, [], ◌∷◌, ℕ, ◌+◌, ◌-◌, ◌*◌, ◌/◌, ◌%◌, ◌^◌, ◌≤◌, eqb, get_or}
use Rattle.xor.specs.Xor.{◌⊕◌}
use Rattle.steps.specs.Iterate.{iterate}

-- ---- bits and nibbles

-- bit i of x
unfoldable pub bit : ℕ → ℕ → ℕ
bit i x = x / 2 ^ i % 2

-- nibble k of x: its bits 4 k to 4 k + 3
unfoldable pub nibble : ℕ → ℕ → ℕ
nibble k x = x / 2 ^ (4 * k) % 16

-- x with its nibble k replaced by v
unfoldable pub replace : ℕ → ℕ → ℕ → ℕ
replace k x v = x / 2 ^ (4 * k + 4) * 2 ^ (4 * k + 4) + v * 2 ^ (4 * k) + x % 2 ^ (4 * k)

-- x with f of its nibble k in place of that nibble
unfoldable pub on_nibble : (ℕ → ℕ) → ℕ → ℕ → ℕ
on_nibble f k x = replace k x (f (nibble k x))

-- ---- the S-box and its layer

-- the table of the S-box, inputs 0 to 15
unfoldable pub table : List ℕ
table = 12 ∷ 5 ∷ 6 ∷ 11 ∷ 9 ∷ 0 ∷ 10 ∷ 13 ∷ 3 ∷ 14 ∷ 15 ∷ 8 ∷ 4 ∷ 7 ∷ 1 ∷ 2 ∷ []

-- the S-box
unfoldable pub substitute : ℕ → ℕ
substitute v = get_or table v 0

-- f on nibbles 0 to 15 of a block; the layer of the cipher is that of `substitute`
unfoldable pub sbox_layer : (ℕ → ℕ) → ℕ → ℕ
sbox_layer f = iterate 0 16 (on_nibble f)

-- ---- the permutation

-- bit i goes to 16 i mod 63; bit 63 stays
unfoldable pub place : ℕ → ℕ
place i = cond (eqb i 63) 63 (16 * i % 63)

-- bit i of x at its new place, beside the bits that are there
unfoldable pub send : ℕ → ℕ → ℕ → ℕ
send x i y = y ⊕ bit i x * 2 ^ place i

-- all 64 bits at their new places
unfoldable pub permute : ℕ → ℕ
permute x = iterate 0 64 (send x) 0

-- ---- the key schedule

-- what differs between the key lengths
pub record Size : Type 0 where
  -- the nibbles of a key
  pub nibbles : ℕ
  -- how many of the top nibbles an update puts through the S-box
  pub boxes : ℕ
  -- the lowest of the five bits to which an update adds the round number
  pub number_at : ℕ

-- the bits of a key
abbrev pub key_bits : Size → ℕ
key_bits z = 4 * z.nibbles

-- a key has the 64 bits of a round key, the nibbles that an update puts through the S-box and the bits to which it adds the round number
pub record Sound (z : Size) : Type 0 where
  pub long : 16 ≤ z.nibbles
  pub boxed : z.boxes ≤ z.nibbles
  pub numbered : z.number_at + 5 ≤ key_bits z

-- PRESENT-80: nibble 19 goes through the S-box, the round number is added to bits 19 to 15
abbrev pub size80 : Size
size80 = record { nibbles = 20; boxes = 1; number_at = 15 }

-- the round key: the top 64 bits
unfoldable pub round_key : Size → ℕ → ℕ
round_key z k = k / 2 ^ (key_bits z - 64)

-- the key rotated left by 61
unfoldable pub rotate : Size → ℕ → ℕ
rotate z k = k % 2 ^ (key_bits z - 61) * 2 ^ 61 + k / 2 ^ (key_bits z - 61)

-- the number of the j-th nibble from the top
abbrev pub top_nibble : Size → ℕ → ℕ
top_nibble z j = z.nibbles - 1 - j

-- f on the top nibbles, the highest first
unfoldable pub on_top_nibbles : (ℕ → ℕ) → Size → ℕ → ℕ
on_top_nibbles f z = iterate 0 z.boxes (λ j. on_nibble f (top_nibble z j))

-- the number of the lower of the two nibbles to which an update adds the round number
abbrev pub number_nibble : Size → ℕ
number_nibble z = z.number_at / 4

-- the round number, at its place in a key
unfoldable pub round_number : Size → ℕ → ℕ
round_number z r = r * 2 ^ z.number_at

-- the key after round r
unfoldable pub update_key : Size → ℕ → ℕ → ℕ
update_key z r k = on_top_nibbles substitute z (rotate z k) ⊕ round_number z r

-- ---- the rounds

-- a key and a block, as numbers or as sharings
pub record State (A : Type 0) : Type 0 where
  pub key : A
  pub block : A

-- the block x with the round key of k added
unfoldable pub add_round_key : Size → ℕ → ℕ → ℕ
add_round_key z k x = round_key z k ⊕ x

-- round r: the key is added, the block substituted and permuted, the key updated
unfoldable pub round : Size → ℕ → State ℕ → State ℕ
round z r a = record { key = update_key z r a.key; block = permute (sbox_layer substitute (add_round_key z a.key a.block)) }

-- rounds 1 to 31 and a last key addition
unfoldable pub encrypt : Size → ℕ → ℕ → ℕ
encrypt z k x =
    let a = iterate 1 32 (round z) (record { key = k; block = x }) in
    add_round_key z a.key a.block
