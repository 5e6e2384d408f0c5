-- The masked S-box of AES, step by step. A sharing of a byte is held in nine places, 0 past the shares in use.
use Rattle.std.specs.Prelude.{List, ◌++◌, ℕ}
use Rattle.xor.specs.Xor.{◌⊕◌}
use Rattle.steps.specs.Program.{Run, return, one, ◌>>=◌, note}
use Rattle.steps.specs.Shape.{Shape}
use Rattle.steps.specs.Sharing.{share}
use Rattle.product.specs.Product.{product, product_shape}
use Rattle.product.specs.ByShare.{by_share, constant, square, square_shape}
use Rattle.rijndael.specs.Rijndael.{linear_part, affine_constant}

-- ---- the inverse, x ^ 254 = ((x ^ 16 · x ^ 34) · x ^ 68) · x ^ 136

-- the powers 2, 4 and 8 of a sharing
pub record Powers : Type 0 where
  pub second : List ℕ
  pub fourth : List ℕ
  pub eighth : List ℕ

-- each is the square of the one before
unfoldable pub powers : ℕ → List ℕ → Run Powers
powers s y = do
  y₂ ← square 8 s y
  y₄ ← square 8 s y₂
  y₈ ← square 8 s y₄
  return (record { second = y₂; fourth = y₄; eighth = y₈ })

-- x ^ 16, the square of x ^ 8
unfoldable pub sixteenth : ℕ → List ℕ → Run (List ℕ)
sixteenth s x = do
  p ← powers s x
  square 8 s p.eighth

-- the three products, left to right, of x ^ 16 and the powers of x ^ 17
unfoldable pub multiplied : ℕ → List ℕ → Powers → Run (List ℕ)
multiplied s x₁₆ p = do
  x₅₀ ← product 8 s x₁₆ p.second
  x₁₁₈ ← product 8 s x₅₀ p.fourth
  product 8 s x₁₁₈ p.eighth

-- the inverse of the sharing x, x ^ 17 being x · x ^ 16
unfoldable pub inverted : ℕ → List ℕ → Run (List ℕ)
inverted s x = do
  x₁₆ ← sixteenth s x
  x₁₇ ← product 8 s x x₁₆
  p ← powers s x₁₇
  multiplied s x₁₆ p

-- ---- the affine map, and the S-box

-- the affine map of share i: the linear part, and on share 0 alone the constant
unfoldable pub affine_share : List ℕ → ℕ → Run ℕ
affine_share a i = note (one i) (linear_part (share a i) ⊕ constant i affine_constant)

-- the affine map of the sharing a
unfoldable pub affine : ℕ → List ℕ → Run (List ℕ)
affine s a = by_share s (affine_share a)

-- the masked S-box of the sharing x
unfoldable pub sbox : ℕ → List ℕ → Run (List ℕ)
sbox s x = do
  y ← inverted s x
  affine s y

-- ---- its shape

-- three squares
unfoldable pub powers_shape : ℕ → Shape
powers_shape s = let q = square_shape s in q ++ (q ++ q)

-- x ^ 16: these, and one more
unfoldable pub sixteenth_shape : ℕ → Shape
sixteenth_shape s = powers_shape s ++ square_shape s

-- three masked products
unfoldable pub multiplied_shape : ℕ → Shape
multiplied_shape s = let p = product_shape 8 s in p ++ (p ++ p)

-- the inverse: x ^ 16, a masked product for x ^ 17, its powers, the three products
unfoldable pub inverted_shape : ℕ → Shape
inverted_shape s = sixteenth_shape s ++ (product_shape 8 s ++ (powers_shape s ++ multiplied_shape s))

-- the S-box: the inverse, and the affine map, whose shape is a square's
unfoldable pub sbox_shape : ℕ → Shape
sbox_shape s = inverted_shape s ++ square_shape s
