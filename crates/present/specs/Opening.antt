-- Masked PRESENT backwards, step by step, over open programs of the S-box and of its inverse. The key runs forward to the last round key, and then back
-- beside the block.
use Rattle.std.specs.Prelude.{List, ◌++◌, map, ℕ, ◌+◌, ◌-◌}
use Rattle.steps.specs.Program.{Run, return, ◌>>=◌, for}
use Rattle.steps.specs.Shape.{Shape, for_shape}
use Rattle.steps.specs.Sharing.{held}
use Rattle.present.specs.Present.{Size, top_nibble, number_nibble, State}
use Rattle.present.specs.Decrypt.{unpermute, unrotate}
use Rattle.present.specs.Masked.{recorded, masked_add_round_key, add_round_number, masked_nibble, masked_sbox_layer, masked_update}
use Rattle.present.specs.Masked.{nibbles_shape, shares_shape, update_shape}

-- f at each number from s - 1 down to i
abbrev pub for_back : {A : Type 0} → ℕ → ℕ → (ℕ → A → Run A) → A → Run A
for_back i s f = for i s (λ j. f (i + s - 1 - j))

-- ---- the parts of a round undone

-- the inverse permutation
unfoldable pub masked_unpermute : ℕ → List ℕ → Run (List ℕ)
masked_unpermute s a = recorded 16 s (map unpermute a)

-- the rotation of the key back
unfoldable pub masked_unrotate : Size → ℕ → List ℕ → Run (List ℕ)
masked_unrotate z s k = recorded z.nibbles s (map (unrotate z) k)

module _ (inverse : List ℕ → Run (List ℕ)) where
  -- the inverse S-box on the top nibbles of the key, the lowest of them first
  unfoldable pub masked_back_top_nibbles : Size → List ℕ → Run (List ℕ)
  masked_back_top_nibbles z = for_back 0 z.boxes (λ j. masked_nibble inverse (top_nibble z j))

  -- the key update of round r undone, from its last part to its first: adding the round number again takes it away
  unfoldable pub masked_undo_update : Size → ℕ → ℕ → List ℕ → Run (List ℕ)
  masked_undo_update z s r k = do
    a ← add_round_number z r k
    b ← masked_back_top_nibbles z a
    masked_unrotate z s b

  -- round r undone
  unfoldable pub masked_undo_round : Size → ℕ → ℕ → State (List ℕ) → Run (State (List ℕ))
  masked_undo_round z s r a = do
    x ← masked_unpermute s a.block
    y ← masked_sbox_layer inverse x
    k ← masked_undo_update z s r a.key
    b ← masked_add_round_key z s k y
    return (record { key = k; block = b })

  -- the masked opening of a key and a block, of s shares: they are held in nine places; 31 key updates, the last key's addition, and rounds 31 to 1
  -- undone
  unfoldable pub masked_decrypt : (List ℕ → Run (List ℕ)) → Size → ℕ → List ℕ → List ℕ → Run (List ℕ)
  masked_decrypt sbox z s k y = do
    l ← for 1 32 (masked_update sbox z s) (held k)
    x ← masked_add_round_key z s l (held y)
    a ← for_back 1 32 (masked_undo_round z s) (record { key = l; block = x })
    return a.block

-- ---- its shape, for s shares and S-boxes of the shape σ

-- the key update undone: the two nibbles of the round number, the S-boxes, the rotation
unfoldable pub undo_update_shape : Size → ℕ → Shape → Shape
undo_update_shape z s σ =
    nibbles_shape 0 (number_nibble z) (number_nibble z + 2) ++ (for_shape 0 z.boxes (λ j. σ) ++ shares_shape z.nibbles s)

-- a round undone: the permutation, 16 S-boxes, the key update undone, the key addition
unfoldable pub undo_round_shape : Size → ℕ → Shape → Shape
undo_round_shape z s σ = shares_shape 16 s ++ (for_shape 0 16 (λ k. σ) ++ (undo_update_shape z s σ ++ shares_shape 16 s))

-- 31 key updates, a key addition, and 31 rounds undone
unfoldable pub opening_shape : Size → ℕ → Shape → Shape
opening_shape z s σ = for_shape 1 32 (λ r. update_shape z s σ) ++ (shares_shape 16 s ++ for_shape 1 32 (λ r. undo_round_shape z s σ))
