-- Decryption of PRESENT: all round keys, the last first, and each part of a round undone, from the last to the first.
use Rattle.std.specs.Prelude.{List, [], ◌∷◌, ℕ, ◌+◌, ◌-◌, ◌*◌, ◌/◌, ◌%◌, ◌^◌, get_or}
use Rattle.xor.specs.Xor.{◌⊕◌}
use Rattle.steps.specs.Iterate.{iterate, iterate_back}
use Rattle.present.specs.Present.{bit, sbox_layer, place, Size, key_bits, round_key, update_key}

-- the table of the inverse S-box, inputs 0 to 15
unfoldable pub inverse_table : List ℕ
inverse_table = 5 ∷ 14 ∷ 15 ∷ 8 ∷ 12 ∷ 1 ∷ 2 ∷ 13 ∷ 11 ∷ 4 ∷ 6 ∷ 3 ∷ 0 ∷ 7 ∷ 9 ∷ 10 ∷ []

-- the inverse S-box
unfoldable pub unsubstitute : ℕ → ℕ
unsubstitute v = get_or inverse_table v 0

-- the bit of x that bit i went to, back at i, beside the bits that are there
unfoldable pub fetch : ℕ → ℕ → ℕ → ℕ
fetch x i y = y ⊕ bit (place i) x * 2 ^ i

-- the inverse permutation: all 64 bits back at their old places
unfoldable pub unpermute : ℕ → ℕ
unpermute x = iterate 0 64 (fetch x) 0

-- the key rotated right by 61
unfoldable pub unrotate : Size → ℕ → ℕ
unrotate z k = k % 2 ^ 61 * 2 ^ (key_bits z - 61) + k / 2 ^ 61

-- the round key of round r, that of the last key addition being the 32nd
unfoldable pub round_key_of : Size → ℕ → ℕ → ℕ
round_key_of z k r = round_key z (iterate 1 r (update_key z) k)

-- round r undone: the inverse permutation, the inverse S-box layer, the key addition
unfoldable pub undo_round : Size → ℕ → ℕ → ℕ → ℕ
undo_round z k r y = round_key_of z k r ⊕ sbox_layer unsubstitute (unpermute y)

-- the last round key is added, then rounds 31 to 1 are undone
unfoldable pub decrypt : Size → ℕ → ℕ → ℕ
decrypt z k y = iterate_back 1 32 (undo_round z k) (round_key_of z k 32 ⊕ y)
