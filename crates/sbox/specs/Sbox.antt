-- The masked S-box, step by step, at either width. A sharing is held in nine places, 0 past the shares in use.
use Rattle.std.specs.Prelude.{cond, List, [], ◌∷◌, ◌++◌, ℕ, zero, suc, ◌+◌, ◌-◌, eqb, length, get_or}
use Rattle.xor.specs.Xor.{◌⊕◌}
use Rattle.field.specs.Mul.{mul}
use Rattle.field.specs.Polynomial.{exponents}
use Rattle.steps.specs.Program.{Run, return, one, ◌>>=◌, note, for}
use Rattle.steps.specs.Sharing.{share}
use Rattle.product.specs.Product.{product}
use Rattle.product.specs.ByShare.{by_share, constant, nth, squares}

-- ---- the powers of x

-- The classes of powers after that of x begin with a masked product of two sharings made before. These are their numbers, for each class, by width:
-- x ^ 3 = x · x ^ 2; at width 6 also x ^ 11 = x ^ 3 · x ^ 8
unfoldable pub factors : ℕ → List (ℕ × ℕ)
factors n = cond (eqb n 4) ((0, 1) ∷ []) (cond (eqb n 6) ((0, 1) ∷ (6, 3) ∷ []) [])

-- the sharings ws, and a class more for each pair of factors
unfoldable pub classes_after : ℕ → ℕ → List (ℕ × ℕ) → List (List ℕ) → Run (List (List ℕ))
classes_after n s [] ws = return ws
classes_after n s (f ∷ fs) ws = do
  y ← product n s (nth ws f.0) (nth ws f.1)
  ys ← squares n s (n - 1) y
  classes_after n s fs (ws ++ ys)

-- the powers of x by the exponents but the first, in the list's order: the class of x, and the others
unfoldable pub powers : ℕ → ℕ → List ℕ → Run (List (List ℕ))
powers n s x = do
  xs ← squares n s (n - 1) x
  classes_after n s (factors n) xs

-- ---- polynomials of x

-- the term of exponent number r + 1, for share i: its product, and the sum with what is there
unfoldable pub term : ℕ → List ℕ → List (List ℕ) → ℕ → ℕ → ℕ → Run ℕ
term n cs ws i r u = do
  v ← note (one i) (mul n (get_or cs (r + 1) 0) (share (nth ws r) i))
  note (one i) (u ⊕ v)

-- the polynomial with the coefficients cs at the powers ws: the constant, and then a term for each later exponent
unfoldable pub polynomial : ℕ → ℕ → List (List ℕ) → List ℕ → Run (List ℕ)
polynomial n s ws cs = by_share s (λ i. for 0 (length (exponents n) - 1) (term n cs ws i) (constant i (get_or cs 0 0)))

-- several polynomials, one after the other
unfoldable pub polynomials : ℕ → ℕ → List (List ℕ) → List (List ℕ) → Run (List (List ℕ))
polynomials n s ws [] = return []
polynomials n s ws (cs ∷ css) = do
  a ← polynomial n s ws cs
  l ← polynomials n s ws css
  return (a ∷ l)

-- ---- the form p1 · q1 + .. + p(t-1) · q(t-1) + pt

-- the masked products of the first k of the ps and the qs, from number j on
unfoldable pub form_products : ℕ → ℕ → List (List ℕ) → List (List ℕ) → ℕ → ℕ → Run (List (List ℕ))
form_products n s ps qs j zero = return []
form_products n s ps qs j (suc k) = do
  a ← product n s (nth ps j) (nth qs j)
  l ← form_products n s ps qs (suc j) k
  return (a ∷ l)

-- the first of k + 1 sharings, plus the others in order
unfoldable pub total : ℕ → List (List ℕ) → ℕ → Run (List ℕ)
total s ts k = by_share s (λ i. for 0 k (λ j u. note (one i) (u ⊕ share (nth ts (j + 1)) i)) (share (nth ts 0) i))

-- the masked S-box of the sharing x: the basis qs has the coefficients of t - 1 polynomials, ps of t
unfoldable pub sbox : ℕ → ℕ → List (List ℕ) → List (List ℕ) → List ℕ → Run (List ℕ)
sbox n s qs ps x = do
  ws ← powers n s x
  bs ← polynomials n s ws qs
  cs ← polynomials n s ws ps
  ts ← form_products n s cs bs 0 (length qs)
  total s (ts ++ (nth cs (length qs) ∷ [])) (length qs)
