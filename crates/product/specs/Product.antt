-- The masked product of two sharings, step by step. A sharing is held in nine places, 0 past the shares in use.
use Rattle.std.specs.Prelude.{List, [], ◌∷◌, ◌++◌, ℕ, ◌+◌, set, replicate}
use Rattle.xor.specs.Xor.{◌⊕◌}
use Rattle.field.specs.Mul.{mul}
use Rattle.steps.specs.Program.{Run, return, mark, one, two, ◌>>=◌, ◌>>◌, note, random, for}
use Rattle.steps.specs.Shape.{Shape, step_of, draw_of, marked, for_shape}
use Rattle.steps.specs.Sharing.{share}

-- c_i begins as a_i · b_i
unfoldable pub start : ℕ → List ℕ → List ℕ → ℕ → List ℕ → Run (List ℕ)
start n a b i c = do
  v ← note (one i) (mul n (share a i) (share b i))
  return (set c i v)

-- the seven steps of the pair of shares i and j: the random r; a_i · b_j; r plus that; a_j · b_i; r', the sum of the last two; c_i + r; c_j + r'
unfoldable pub pair : ℕ → List ℕ → List ℕ → ℕ → ℕ → List ℕ → Run (List ℕ)
pair n a b i j c = do
  r ← random n
  note (two i j) r
  x ← note (two i j) (mul n (share a i) (share b j))
  y ← note (two i j) (r ⊕ x)
  z ← note (two i j) (mul n (share a j) (share b i))
  r' ← note (two i j) (y ⊕ z)
  u ← note (one i) (share c i ⊕ r)
  v ← note (one j) (share c j ⊕ r')
  return (set (set c i u) j v)

-- the pairs of share i with each share after it
unfoldable pub row : ℕ → ℕ → List ℕ → List ℕ → ℕ → List ℕ → Run (List ℕ)
row n s a b i c = for (i + 1) s (pair n a b i) c

-- the masked product of a and b at width n, of s shares: the start of each share, then the pairs (0,1), (0,2) .. (1,2) ..
unfoldable pub product : ℕ → ℕ → List ℕ → List ℕ → Run (List ℕ)
product n s a b = mark do
  c ← for 0 s (start n a b) (replicate 9 0)
  for 0 s (row n s a b) c

-- ---- its shape

-- of a pair: a draw and seven steps; the first five touch both shares
unfoldable pub pair_shape : ℕ → ℕ → ℕ → Shape
pair_shape n i j =
    draw_of n ∷ step_of (two i j) ∷ step_of (two i j) ∷ step_of (two i j) ∷ step_of (two i j) ∷ step_of (two i j) ∷ step_of (one i) ∷ step_of (one j) ∷ []

-- of the pairs of share i
unfoldable pub row_shape : ℕ → ℕ → ℕ → Shape
row_shape n s i = for_shape (i + 1) s (pair_shape n i)

-- of the whole: a mark, the starts, the pairs
unfoldable pub product_shape : ℕ → ℕ → Shape
product_shape n s = marked ∷ for_shape 0 s (λ i. step_of (one i) ∷ []) ++ for_shape 0 s (row_shape n s)
