-- The masked S-box depends on its s shares alone, and not on how many places hold them: what stands past the shares changes nothing.
use mathlib.Core.Path.{◌≡◌, refl, sym, ap}
use mathlib.Core.List.{List, [], ◌∷◌, ◌++◌}
use Prim.Native.Nat.{ℕ, zero, suc, ◌+◌, ◌-◌, ◌<◌}
use native.Mathlib.Omega.{arith}
use lib.ListN.{length, get_or, set, replicate}
use Rattle.field.specs.Mul.{mul}
use Rattle.field.specs.Polynomial.{exponents}
use Rattle.steps.specs.Program.{Run, return, one, ◌>>=◌, note, mark, for}
use Rattle.steps.specs.Sharing.{share}
use Rattle.steps.proofs.Program.{bind_bind, for_same}
use Rattle.product.specs.Product.{product}
use Rattle.product.proofs.Places.{product_same}
use Rattle.sbox.specs.Sbox.{factors, classes_after, powers, term, polynomial, polynomials, form_products, total, sbox}
use Rattle.product.specs.ByShare.{by_share, nth, square, squares, constant}

-- the squares without the sharing that they begin with
after_first : ℕ → ℕ → ℕ → List ℕ → Run (List (List ℕ))
after_first n s zero a = return []
after_first n s (suc k) a = square n s a >>= squares n s k

squares_split : (n s k : ℕ) (a : List ℕ) → squares n s k a ≡ (after_first n s k a >>= (λ l. return (a ∷ l)))
unfolding after_first squares ◌>>=◌
squares_split n s zero a = refl
squares_split n s (suc k) a = sym (bind_bind (square n s a) (squares n s k) (λ l. return (a ∷ l)))

-- ---- the masked S-box depends on the s shares alone, as the masked product does

-- a sharing made share by share
by_share_same : (s : ℕ) (f g : ℕ → Run ℕ) → ((i : ℕ) → i < s → f i ≡ g i) → by_share s f ≡ by_share s g
unfolding by_share
by_share_same s f g same =
    for_same 0 s (λ i c. f i >>= (λ v. return (set c i v))) (λ i c. g i >>= (λ v. return (set c i v))) (omega arith)
    (λ i c l k. ap (λ (m : Run ℕ). m >>= (λ v. return (set c i v))) (same i k)) (replicate 9 0)

-- a and b have the same s shares
module _ (n s : ℕ) (a b : List ℕ) (same : (i : ℕ) → i < s → share a i ≡ share b i) where
  square_same : square n s a ≡ square n s b
  unfolding square
  square_same =
      by_share_same s (λ i. note (one i) (mul n (share a i) (share a i))) (λ i. note (one i) (mul n (share b i) (share b i)))
      (λ i h. ap (λ (v : ℕ). note (one i) (mul n v v)) (same i h))

  after_same : (k : ℕ) → after_first n s k a ≡ after_first n s k b
  unfolding after_first
  after_same zero = refl
  after_same (suc k) = rw square_same refl

  share_same : (ws : List (List ℕ)) (r i : ℕ) → i < s → share (nth (a ∷ ws) r) i ≡ share (nth (b ∷ ws) r) i
  share_same ws zero i h = same i h
  share_same ws (suc r) i h = refl

  factors_same : (ws : List (List ℕ)) (i j : ℕ) → product n s (nth (a ∷ ws) i) (nth (a ∷ ws) j) ≡ product n s (nth (b ∷ ws) i) (nth (b ∷ ws) j)
  factors_same ws i j = product_same n s (nth (a ∷ ws) i) (nth (b ∷ ws) i) (nth (a ∷ ws) j) (nth (b ∷ ws) j) (share_same ws i) (share_same ws j)

  -- the classes, and what goes on from them alike
  classes_same : (fs : List (ℕ × ℕ)) (g : List (List ℕ) → Run (List ℕ)) → ((ws : List (List ℕ)) → g (a ∷ ws) ≡ g (b ∷ ws))
      → (ws : List (List ℕ)) → (classes_after n s fs (a ∷ ws) >>= g) ≡ (classes_after n s fs (b ∷ ws) >>= g)
  unfolding classes_after ◌>>=◌
  classes_same [] g h ws = h ws
  classes_same (f ∷ fs) g h ws = simp (bind_bind, factors_same, classes_same fs g h)

  term_same : (cs : List ℕ) (ws : List (List ℕ)) (i r u : ℕ) → i < s → term n cs (a ∷ ws) i r u ≡ term n cs (b ∷ ws) i r u
  unfolding term
  term_same cs ws i r u h = rw (share_same ws r i h) refl

  polynomial_same : (ws : List (List ℕ)) (cs : List ℕ) → polynomial n s (a ∷ ws) cs ≡ polynomial n s (b ∷ ws) cs
  unfolding polynomial
  polynomial_same ws cs =
      let e = length (exponents n) - 1 in
      by_share_same s (λ i. for 0 e (term n cs (a ∷ ws) i) (constant i (get_or cs 0 0))) (λ i. for 0 e (term n cs (b ∷ ws) i) (constant i (get_or cs 0 0)))
      (λ i h. for_same 0 e (term n cs (a ∷ ws) i) (term n cs (b ∷ ws) i) (omega arith) (λ r u l k. term_same cs ws i r u h) (constant i (get_or cs 0 0)))

  polynomials_same : (ws css : List (List ℕ)) → polynomials n s (a ∷ ws) css ≡ polynomials n s (b ∷ ws) css
  unfolding polynomials
  polynomials_same ws [] = refl
  polynomials_same ws (cs ∷ css) = simp (polynomial_same ws cs, polynomials_same ws css)

  pub sbox_same : (qs ps : List (List ℕ)) → sbox n s qs ps a ≡ sbox n s qs ps b
  unfolding sbox powers ◌>>=◌
  sbox_same qs ps =
      let g : List (List ℕ) → Run (List ℕ) = λ ws. polynomials n s ws qs >>= (λ bs. polynomials n s ws ps >>= (λ cs.
      form_products n s cs bs 0 (length qs) >>= (λ ts. total s (ts ++ (nth cs (length qs) ∷ [])) (length qs)))) in
      let same : (ws : List (List ℕ)) → g (a ∷ ws) ≡ g (b ∷ ws) = λ ws. simp polynomials_same in
      simp (squares_split, bind_bind, after_same, classes_same (factors n) g same)
