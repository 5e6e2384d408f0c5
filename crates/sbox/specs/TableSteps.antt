-- For inner contracts only. The steps of Sbox.antt as the code lays them out in its tables of sharings, each of which is put into a row when it is made: the
-- k powers, the h polynomials q of the basis, and the h + 1 polynomials p. The product of a p and its q takes the row of the p.
use Rattle.std.specs.Prelude.{◌≡◌, ◌≤◌, List, ℕ, ◌+◌, ◌-◌, ◌*◌, length, get_or, drop, take, set, replicate}
use Rattle.xor.specs.Xor.{◌⊕◌}
use Rattle.decomposition.specs.Record.{basis_of, solution_of}
use Rattle.decomposition.specs.declared.layouts.Layout.{Layout}
use Rattle.steps.specs.Program.{Run, return, one, ◌>>=◌, note, for}
use Rattle.steps.specs.Sharing.{share}
use Rattle.product.specs.Product.{product}
use Rattle.product.specs.ByShare.{nth, square}
use Rattle.sbox.specs.Sbox.{factors, polynomial, total}

-- ---- powers

-- the square of row r goes to row r + 1
unfoldable pub square_row : ℕ → ℕ → ℕ → List (List ℕ) → Run (List (List ℕ))
square_row n s r t = do
  c ← square n s (nth t r)
  return (set t (r + 1) c)

-- the masked product of rows x and y goes to row z
unfoldable pub multiply_rows : ℕ → ℕ → ℕ → ℕ → ℕ → List (List ℕ) → Run (List (List ℕ))
multiply_rows n s x y z t = do
  c ← product n s (nth t x) (nth t y)
  return (set t z c)

-- the factors of class number k + 1
abbrev pub factors_of : ℕ → ℕ → ℕ × ℕ
factors_of n k = get_or (factors n) k (0, 0)

-- class number k + 1, which begins at row n · (k + 1): the product of its factors goes there, and each row from there on is squared into the next
unfoldable pub power_class : ℕ → ℕ → ℕ → List (List ℕ) → Run (List (List ℕ))
power_class n s k t = do
  t' ← multiply_rows n s (factors_of n k).0 (factors_of n k).1 (n * (k + 1)) t
  for (n * (k + 1)) (n * (k + 1) + (n - 1)) (square_row n s) t'

-- the powers of row 0
unfoldable pub power_rows : ℕ → ℕ → List (List ℕ) → Run (List (List ℕ))
power_rows n s t = do
  t₁ ← for 0 (n - 1) (square_row n s) t
  for 0 (length (factors n)) (power_class n s) t₁

-- ---- polynomials

-- the coefficients of polynomial j, where those of each polynomial are e and lie one after the other
unfoldable pub coefficients_at : ℕ → List ℕ → ℕ → List ℕ
coefficients_at e cs j = take e (drop (j * e) cs)

-- polynomial j, of the powers ws, goes to row j
unfoldable pub polynomial_row : ℕ → ℕ → ℕ → List ℕ → List (List ℕ) → ℕ → List (List ℕ) → Run (List (List ℕ))
polynomial_row n s e cs ws j t = do
  c ← polynomial n s ws (coefficients_at e cs j)
  return (set t j c)

-- ---- products

-- product j, of the p and the q in row j of their tables, goes to the row of the p
unfoldable pub product_row : ℕ → ℕ → List (List ℕ) → ℕ → List (List ℕ) → Run (List (List ℕ))
product_row n s qs j ps = do
  c ← product n s (nth ps j) (nth qs j)
  return (set ps j c)

-- ---- their sum

-- sharing j + 1 is added to the sum u, for share i
unfoldable pub add_next : List (List ℕ) → ℕ → ℕ → ℕ → Run ℕ
add_next ts i j u = note (one i) (u ⊕ share (nth ts (j + 1)) i)

-- ---- the whole, of the polynomials that the coefficients cs at a layout L have

-- so many rows that are not made yet
abbrev pub unmade : ℕ → List (List ℕ)
unmade k = replicate k (replicate 9 0)

-- the masked S-box of the sharing x: the sum of the products and the last p
unfoldable pub sbox_rows : ℕ → ℕ → ℕ → ℕ → Layout → List ℕ → List ℕ → Run (List ℕ)
sbox_rows n k h s L cs x = do
  ws ← power_rows n s (set (unmade 18) 0 x)
  qs ← for 0 h (polynomial_row n s (k + 1) (basis_of L cs) ws) (unmade 3)
  ps ← for 0 (h + 1) (polynomial_row n s (k + 1) (solution_of L cs) ws) (unmade 4)
  ts ← for 0 h (product_row n s qs) ps
  total s ts h

-- the code's sizes of a layout: its polynomials have k coefficients besides the constant, and there are h + 1 terms
pub record Sized (k h : ℕ) (L : Layout) : Type 0 where
  pub own : L.exponents ≡ k + 1
  pub terms : L.terms ≡ h + 1
  pub few : h ≤ 3
