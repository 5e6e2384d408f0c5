-- Masked PRESENT, step by step, over an open program of the S-box. A share of a block or a key is one number; a sharing is a list of such numbers,
-- share 0 first, that may have places past the s shares, with 0 in them.
use Rattle.std.specs.Prelude.{List, [], ◌∷◌, ◌++◌, map, ℕ, ◌+◌}
use Rattle.xor.specs.Xor.{◌⊕◌}
use Rattle.steps.specs.Program.{one, Run, return, ◌>>=◌, ◌>>◌, note, for}
use Rattle.steps.specs.Shape.{step_of, Shape, Shaped, for_shape}
use Rattle.steps.specs.Coupling.{Coupled}
use Rattle.steps.specs.Sharing.{share, Sharing, Close, share_wise, alone, held}
use Rattle.present.specs.Present.{nibble, replace, permute, Size, round_key, rotate, top_nibble, number_nibble, round_number, State}

-- ---- what is asked of the S-box's program

-- Given a sharing of a nibble x it ends in a sharing of f x, and it has the shape σ.
abbrev pub Substitutes : (ℕ → ℕ) → ℕ → Shape → (List ℕ → Run (List ℕ)) → Type 0
Substitutes f s σ sbox = (x : ℕ) (a : List ℕ) → Sharing 4 s x a → Shaped (Sharing 4 s (f x)) σ (sbox a)

-- Given sharings of nibbles that agree but for share u, its two runs are coupled but for share u, and end in such sharings.
abbrev pub Hides : ℕ → (List ℕ → Run (List ℕ)) → Type 0
Hides u sbox = (a b : List ℕ) → Close 4 u a b → Coupled u (Close 4 u) (sbox a) (sbox b)

-- ---- recording

-- the nibbles of x from number k up to n, n not included, for share i
unfoldable pub note_nibbles : ℕ → ℕ → ℕ → ℕ → Run Unit
note_nibbles i k n x = for k n (λ j u. note (one i) (nibble j x) >> return u) tt

-- nibbles 0 to n - 1 of each of s shares, share by share
unfoldable pub note_shares : ℕ → ℕ → List ℕ → Run Unit
note_shares n s a = for 0 s (λ i u. note_nibbles i 0 n (share a i)) tt

-- a sharing, recorded
unfoldable pub recorded : ℕ → ℕ → List ℕ → Run (List ℕ)
recorded n s a = note_shares n s a >> return a

-- ---- the parts of a round

-- the key addition
unfoldable pub masked_add_round_key : Size → ℕ → List ℕ → List ℕ → Run (List ℕ)
masked_add_round_key z s k a = recorded 16 s (share_wise ◌⊕◌ (map (round_key z) k) a)

-- the permutation
unfoldable pub masked_permute : ℕ → List ℕ → Run (List ℕ)
masked_permute s a = recorded 16 s (map permute a)

-- the rotation of the key
unfoldable pub masked_rotate : Size → ℕ → List ℕ → Run (List ℕ)
masked_rotate z s k = recorded z.nibbles s (map (rotate z) k)

-- the round number is added to share 0 alone; the two nibbles that it meets are recorded
unfoldable pub add_round_number : Size → ℕ → List ℕ → Run (List ℕ)
add_round_number z r k = do
  let b = share_wise ◌⊕◌ k (alone (round_number z r))
  note_nibbles 0 (number_nibble z) (number_nibble z + 2) (share b 0)
  return b

module _ (sbox : List ℕ → Run (List ℕ)) where
  -- the S-box on nibble k
  unfoldable pub masked_nibble : ℕ → List ℕ → Run (List ℕ)
  masked_nibble k a = do
    v ← sbox (map (nibble k) a)
    return (share_wise (replace k) a v)

  -- the S-box on nibbles 0 to 15
  unfoldable pub masked_sbox_layer : List ℕ → Run (List ℕ)
  masked_sbox_layer = for 0 16 masked_nibble

  -- the S-box on the top nibbles of the key
  unfoldable pub masked_top_nibbles : Size → List ℕ → Run (List ℕ)
  masked_top_nibbles z = for 0 z.boxes (λ j. masked_nibble (top_nibble z j))

  -- the key update of round r
  unfoldable pub masked_update : Size → ℕ → ℕ → List ℕ → Run (List ℕ)
  masked_update z s r k = do
    a ← masked_rotate z s k
    b ← masked_top_nibbles z a
    add_round_number z r b

  -- ---- the rounds

  -- round r
  unfoldable pub masked_round : Size → ℕ → ℕ → State (List ℕ) → Run (State (List ℕ))
  masked_round z s r a = do
    x ← masked_add_round_key z s a.key a.block
    y ← masked_sbox_layer x
    b ← masked_permute s y
    k ← masked_update z s r a.key
    return (record { key = k; block = b })

  -- the masked block of a key and a block, of s shares: they are held in nine places; rounds 1 to 31 and a last key addition
  unfoldable pub masked_encrypt : Size → ℕ → List ℕ → List ℕ → Run (List ℕ)
  masked_encrypt z s k x = do
    a ← for 1 32 (masked_round z s) (record { key = held k; block = held x })
    masked_add_round_key z s a.key a.block

-- ---- its shape, for s shares and an S-box of the shape σ

-- the nibbles from number k up to n, for share i
unfoldable pub nibbles_shape : ℕ → ℕ → ℕ → Shape
nibbles_shape i k n = for_shape k n (λ j. step_of (one i) ∷ [])

-- n nibbles of each share
unfoldable pub shares_shape : ℕ → ℕ → Shape
shares_shape n s = for_shape 0 s (λ i. nibbles_shape i 0 n)

-- the key update: the rotation, the S-boxes, the two nibbles of the round number
unfoldable pub update_shape : Size → ℕ → Shape → Shape
update_shape z s σ =
    shares_shape z.nibbles s ++ (for_shape 0 z.boxes (λ j. σ) ++ nibbles_shape 0 (number_nibble z) (number_nibble z + 2))

-- a round: the key addition, 16 S-boxes, the permutation, the key update
unfoldable pub round_shape : Size → ℕ → Shape → Shape
round_shape z s σ = shares_shape 16 s ++ (for_shape 0 16 (λ k. σ) ++ (shares_shape 16 s ++ update_shape z s σ))

-- rounds 1 to 31, and a last key addition
unfoldable pub block_shape : Size → ℕ → Shape → Shape
block_shape z s σ = for_shape 1 32 (λ r. round_shape z s σ) ++ shares_shape 16 s
