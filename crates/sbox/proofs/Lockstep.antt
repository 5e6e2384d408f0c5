-- The program of the code's tables is that of the definition: they run in lockstep, and the rows of each table are the sharings made so far.
use mathlib.Core.Path.{◌≡◌, refl, sym, ap, ◌∙◌}
use mathlib.Core.List.{List, [], ◌∷◌, ◌++◌, append-nil, append_assoc}
use Prim.Native.Nat.{ℕ, zero, suc, ◌+◌, ◌-◌, ◌*◌, ◌≤◌, ◌<◌}
use native.Mathlib.Nat.{sub-zero, mul-suc, mul-one}
use native.Mathlib.Numerals.{add-one}
use native.Mathlib.Omega.{arith}
use lib.ListN.{length, get_or, drop, set, replicate, length-append, length-replicate, drop_of_length-le}
use lib.Seq.{drop-cons, get_or_at}
use Rattle.xor.specs.Xor.{◌⊕◌}
use Rattle.field.specs.Polynomial.{exponents}
use Rattle.decomposition.specs.Record.{basis_of, solution_of}
use Rattle.decomposition.specs.declared.layouts.Layout.{Layout}
use Rattle.steps.specs.Program.{Run, one, ◌>>=◌, note, loop, for}
use Rattle.steps.specs.Sharing.{share}
use Rattle.steps.proofs.Program.{bind_bind, for_same}
use Rattle.steps.proofs.Lockstep.{Lockstep, lockstep_return, lockstep_bind, lockstep_right, lockstep_self, lockstep_left, lockstep_same}
use Rattle.product.specs.Product.{product}
use Rattle.product.specs.ByShare.{by_share, nth, square, squares, constant}
use Rattle.sbox.specs.Sbox.{factors, classes_after, powers, term, polynomial, polynomials, form_products, total, sbox}
use Rattle.sbox.specs.TableSteps.{square_row, multiply_rows, factors_of, power_class, power_rows}
use Rattle.sbox.specs.TableSteps.{coefficients_at, polynomial_row, product_row, unmade, sbox_rows}
use Rattle.sbox.proofs.Places.{sbox_same}
use Rattle.sbox.proofs.Holds.{Holds, holds_next, holds_replace}
use Rattle.sbox.proofs.TableClasses.{Class}

-- a loop from 0 on
for_loop : (k : ℕ) (f : ℕ → List (List ℕ) → Run (List (List ℕ))) (t : List (List ℕ)) → for 0 k f t ≡ loop f 0 k t
unfolding for
for_loop k f t = rw sub-zero refl

module _ (n s : ℕ) where
  -- ---- one row more

  -- the square of the last row
  lockstep_square : {t : List (List ℕ)} (l : List (List ℕ)) (a : List ℕ) → length l + 1 < 18 → Holds 18 t (l ++ (a ∷ []))
      → Lockstep (λ t' b. Holds 18 t' ((l ++ (a ∷ [])) ++ (b ∷ []))) (square_row n s (length l) t) (square n s a)
  unfolding square_row
  lockstep_square {t} l a room h =
      let e : length l + 1 ≡ length (l ++ (a ∷ [])) = sym (length-append l (a ∷ [])) in
      let v : nth t (length l) ≡ a = h.rows (length l) (omega arith) ∙ get_or_at l a [] [] (length l) refl in
      rw (v, e) (lockstep_left (square n s a) (set t (length (l ++ (a ∷ [])))) (λ c. holds_next t (l ++ (a ∷ [])) c (omega arith) h))

  -- the masked product of two rows
  lockstep_multiply : {t : List (List ℕ)} (l : List (List ℕ)) (x y : ℕ) → x < length l → y < length l → length l < 18 → Holds 18 t l
      → Lockstep (λ t' c. Holds 18 t' (l ++ (c ∷ []))) (multiply_rows n s x y (length l) t) (product n s (nth l x) (nth l y))
  unfolding multiply_rows
  lockstep_multiply {t} l x y hx hy room h =
      rw (h.rows x hx, h.rows y hy) (lockstep_left (product n s (nth l x) (nth l y)) (set t (length l)) (λ c. holds_next t l c room h))

  -- ---- the powers

  -- a row, and k more, each the square of the one before
  lockstep_squares : {t : List (List ℕ)} (k : ℕ) (l : List (List ℕ)) (a : List ℕ) → length l + k < 18 → Holds 18 t (l ++ (a ∷ []))
      → Lockstep (λ t' m. Holds 18 t' (l ++ m) × (length m ≡ suc k)) (loop (square_row n s) (length l) k t) (squares n s k a)
  unfolding loop squares
  lockstep_squares zero l a room h = lockstep_return (h, refl)
  lockstep_squares (suc k) l a room h =
      lockstep_bind (lockstep_square l a (omega arith) h) (λ t' b p.
      let e : length l + 1 ≡ length (l ++ (a ∷ [])) = sym (length-append l (a ∷ [])) in
      rw e (lockstep_right (lockstep_squares k (l ++ (a ∷ [])) b (omega arith) p) (λ t'' m q.
      lockstep_return (rw append_assoc at q.0, ap suc q.1))))

  -- class number k + 1
  lockstep_class : {t : List (List ℕ)} (l : List (List ℕ)) (k : ℕ) (f : ℕ × ℕ) → factors_of n k ≡ f → Class n k → length l ≡ n * (k + 1) → Holds 18 t l
      → Lockstep (λ t' m. Holds 18 t' (l ++ m) × (length m ≡ suc (n - 1))) (power_class n s k t) (product n s (nth l f.0) (nth l f.1) >>= squares n s (n - 1))
  unfolding power_class for
  lockstep_class l k f e class el h =
      let d : length l + (n - 1) - length l ≡ n - 1 = omega arith in
      let first : f.0 < length l = omega (arith, class.first, el, ap (λ (p : ℕ × ℕ). p.0) e) in
      let second : f.1 < length l = omega (arith, class.second, el, ap (λ (p : ℕ × ℕ). p.1) e) in
      let room : length l + (n - 1) < 18 = omega (arith, class.rows, class.wide, el) in
      rw (e, ← el)
      (lockstep_bind (lockstep_multiply l f.0 f.1 first second (omega arith) h) (λ t' c p. rw d (lockstep_squares (n - 1) l c room p)))

  -- the classes whose factors are those from number k on
  lockstep_classes : {t : List (List ℕ)} (fs : List (ℕ × ℕ)) (k : ℕ) (ws : List (List ℕ))
      → ((i : ℕ) → i < length fs → (factors_of n (k + i) ≡ get_or fs i (0, 0)) × Class n (k + i))
      → length ws ≡ n * (k + 1) → Holds 18 t ws
      → Lockstep (λ t' ws. Holds 18 t' ws × (length ws ≡ n * (k + 1 + length fs))) (loop (power_class n s) k (length fs) t) (classes_after n s fs ws)
  unfolding loop classes_after
  lockstep_classes [] k ws same el h = let e : k + 1 + 0 ≡ k + 1 = omega arith in lockstep_return (h, rw e el)
  lockstep_classes (f ∷ fs) k ws same el h =
      let next : n * (k + 1 + 1) ≡ n * (k + 1) + n = rw add-one (mul-suc n (k + 1)) in
      let count : k + 1 + suc (length fs) ≡ k + 1 + 1 + length fs = omega arith in
      let here : k + 0 ≡ k = omega arith in
      let first = rw here at (same 0 (omega arith)) in
      rw (count, ← bind_bind (product n s (nth ws f.0) (nth ws f.1)) (squares n s (n - 1)) (λ ys. classes_after n s fs (ws ++ ys)))
      (lockstep_bind (lockstep_class ws k f first.0 first.1 el h) (λ t₁ ys p.
      lockstep_classes fs (k + 1) (ws ++ ys)
      (λ i l. let shift : k + 1 + i ≡ k + suc i = omega arith in rw shift (same (suc i) (omega arith)))
      (length-append ws ys ∙ omega (arith, p.1, first.1.wide)) p.0))

  lockstep_powers : {t : List (List ℕ)} (x : List ℕ) → 0 < n → n ≤ 18 → ((k : ℕ) → k < length (factors n) → Class n k) → Holds 18 t (x ∷ [])
      → Lockstep (λ t' ws. Holds 18 t' ws × (length ws ≡ n * (1 + length (factors n)))) (power_rows n s t) (powers n s x)
  unfolding power_rows powers for
  lockstep_powers {t} x some few classes h =
      let first : Lockstep (λ t' m. Holds 18 t' m × (length m ≡ suc (n - 1))) (for 0 (n - 1) (square_row n s) t) (squares n s (n - 1) x) =
      rw sub-zero (lockstep_squares (n - 1) [] x (omega arith) h) in
      lockstep_bind first (λ t₁ xs p.
      let e : 0 + 1 + length (factors n) ≡ 1 + length (factors n) = omega arith in
      rw (sub-zero (length (factors n)), ← e)
      (lockstep_classes (factors n) 0 xs (λ i l. let same : 0 + i ≡ i = omega arith in rw same (refl, classes i l)) (omega (arith, p.1, mul-one n)) p.0))

  -- ---- the polynomials

  term_same : (cs : List ℕ) (ws t : List (List ℕ)) (i r u : ℕ) → nth t r ≡ nth ws r → term n cs t i r u ≡ term n cs ws i r u
  unfolding term
  term_same cs ws t i r u e = rw e refl

  -- a polynomial depends on the powers alone
  polynomial_same : (cs : List ℕ) (ws t : List (List ℕ)) → ((r : ℕ) → r < length (exponents n) - 1 → nth t r ≡ nth ws r) → polynomial n s t cs ≡ polynomial n s ws cs
  unfolding polynomial
  polynomial_same cs ws t same =
      ap (by_share s)
      (λ x i. for_same 0 (length (exponents n) - 1) (term n cs t i) (term n cs ws i) (omega arith)
      (λ r u a b. term_same cs ws t i r u (same r b)) (constant i (get_or cs 0 0)) x)

  -- the powers ws stand in a table, whose other rows do not count
  module _ (e : ℕ) (cs : List ℕ) (ws table : List (List ℕ)) (same : (r : ℕ) → r < length (exponents n) - 1 → nth table r ≡ nth ws r) where
    -- one polynomial, after those of the list l
    lockstep_polynomial : {size : ℕ} {t : List (List ℕ)} (l : List (List ℕ)) → length l < size → Holds size t l
        → Lockstep (λ t' c. Holds size t' (l ++ (c ∷ []))) (polynomial_row n s e cs table (length l) t) (polynomial n s ws (coefficients_at e cs (length l)))
    unfolding polynomial_row
    lockstep_polynomial {t = t} l room h =
        rw (polynomial_same (coefficients_at e cs (length l)) ws table same)
        (lockstep_left (polynomial n s ws (coefficients_at e cs (length l))) (set t (length l)) (λ c. holds_next t l c room h))

    -- several, after those of the list l
    lockstep_polynomials : {size : ℕ} {t : List (List ℕ)} (l css : List (List ℕ)) → length l + length css ≤ size
        → ((i : ℕ) → i < length css → coefficients_at e cs (length l + i) ≡ nth css i) → Holds size t l
        → Lockstep (λ t' b. Holds size t' (l ++ b) × (length b ≡ length css)) (loop (polynomial_row n s e cs table) (length l) (length css) t) (polynomials n s ws css)
    unfolding loop polynomials
    lockstep_polynomials {t = t} l [] room given h = lockstep_return {a = t} {b = []} (rw append-nil h, refl)
    lockstep_polynomials l (c ∷ css) room given h =
        let here : length l + 0 ≡ length l = omega arith in
        let first : coefficients_at e cs (length l) ≡ c = rw here at (given 0 (omega arith)) in
        lockstep_bind (rw first at (lockstep_polynomial l (omega arith) h)) (λ t' a p.
        let long : length l + 1 ≡ length (l ++ (a ∷ [])) = sym (length-append l (a ∷ [])) in
        let next : (i : ℕ) → i < length css → coefficients_at e cs (length (l ++ (a ∷ [])) + i) ≡ nth css i =
        λ i b. let shift : length (l ++ (a ∷ [])) + i ≡ length l + suc i = omega arith in rw shift (given (suc i) (omega arith)) in
        rw long
        (lockstep_right (lockstep_polynomials (l ++ (a ∷ [])) css (omega arith) next p)
        (λ t'' b q. lockstep_return (rw append_assoc at q.0, ap suc q.1))))

  -- ---- the products and their sum

  -- m products, where ts have been made and the p left are `rest`: each takes the row of its p
  lockstep_products : {size : ℕ} {t : List (List ℕ)} (m : ℕ) (ts rest ps qs qs' : List (List ℕ)) → m < length rest → length ts + length rest ≤ size
      → ((i : ℕ) → i < m → nth rest i ≡ nth ps (length ts + i)) → ((i : ℕ) → i < length ts + m → nth qs' i ≡ nth qs i) → Holds size t (ts ++ rest)
      → Lockstep (λ t' b. Holds size t' (ts ++ (b ++ drop m rest)) × (length b ≡ m)) (loop (product_row n s qs') (length ts) m t) (form_products n s ps qs (length ts) m)
  unfolding loop form_products product_row
  lockstep_products {t = t} zero ts rest ps qs qs' some room mine theirs h = lockstep_return {a = t} {b = []} (h, refl)
  lockstep_products (suc m) ts [] ps qs qs' some room mine theirs h = absurd (omega arith)
  lockstep_products {size} {t} (suc m) ts (c ∷ rest) ps qs qs' some room mine theirs h =
      let here : length ts + 0 ≡ length ts = omega arith in
      let left : nth t (length ts) ≡ nth ps (length ts) =
      h.rows (length ts) (omega (arith, length-append ts (c ∷ rest))) ∙ get_or_at ts c rest [] (length ts) refl ∙ rw here at (mine 0 (omega arith)) in
      let replaced : (a : List ℕ) → Holds size (set t (length ts) a) ((ts ++ (a ∷ [])) ++ rest) = λ a. rw append_assoc (holds_replace t ts a (omega arith) c rest h) in
      rw (left, theirs (length ts) (omega arith))
      (lockstep_bind (lockstep_left {R = λ t' a. Holds size t' ((ts ++ (a ∷ [])) ++ rest)} (product n s (nth ps (length ts)) (nth qs (length ts))) (set t (length ts)) replaced) (λ t' a x.
      let long : suc (length ts) ≡ length (ts ++ (a ∷ [])) = sym (length-append ts (a ∷ []) ∙ omega arith) in
      rw (add-one, long)
      (lockstep_right
      (lockstep_products m (ts ++ (a ∷ [])) rest ps qs qs' (omega arith) (omega arith)
      (λ i b. let shift : length (ts ++ (a ∷ [])) + i ≡ length ts + suc i = omega arith in rw shift (mine (suc i) (omega arith))) (λ i b. theirs i (omega arith)) x)
      (λ t'' b y. lockstep_return (rw append_assoc at y.0, ap suc y.1)))))

  -- a sum depends on the sharings that it adds alone
  total_same : (h : ℕ) (ts ts' : List (List ℕ)) → ((j : ℕ) → j ≤ h → nth ts j ≡ nth ts' j) → total s ts h ≡ total s ts' h
  unfolding total
  total_same h ts ts' same =
      ap (by_share s)
      (λ x i. (ap (λ (a : List ℕ). for 0 h (λ j u. note (one i) (u ⊕ share (nth ts (j + 1)) i)) (share a i)) (same 0 (omega arith))
      ∙ for_same 0 h (λ j u. note (one i) (u ⊕ share (nth ts (j + 1)) i)) (λ j u. note (one i) (u ⊕ share (nth ts' (j + 1)) i)) (omega arith)
      (λ j u a b. ap (λ (c : List ℕ). note (one i) (u ⊕ share c i)) (same (j + 1) (omega arith))) (share (nth ts' 0) i)) x)

  -- ---- the whole

  -- qs and ps are the coefficients of the polynomials at the layout
  module _ (k h : ℕ) (L : Layout) (cs : List ℕ) (qs ps : List (List ℕ)) (listed : length (exponents n) - 1 ≡ k) (eq : length qs ≡ h) (ep : length ps ≡ h + 1)
      (few : h ≤ 3)
      (basis : (i : ℕ) → i < length qs → coefficients_at (k + 1) (basis_of L cs) (0 + i) ≡ nth qs i)
      (solution : (i : ℕ) → i < length ps → coefficients_at (k + 1) (solution_of L cs) (0 + i) ≡ nth ps i) where
    -- the products and their sum, where the polynomials bs of the basis and the p stand in their tables
    lockstep_sums : (b t bs p : List (List ℕ)) → length bs ≡ h → length p ≡ h + 1 → Holds 3 b bs → Holds 4 t p
        → Lockstep (λ (a b : List ℕ). a ≡ b)
        (for 0 h (product_row n s b) t >>= (λ t. total s t h))
        (form_products n s p bs 0 h >>= (λ ts. total s (ts ++ (nth p h ∷ [])) h))
    lockstep_sums b t bs p eb e hb holds =
        let end : drop h p ≡ nth p h ∷ [] = drop-cons p h [] (omega arith) ∙ ap (λ (m : List (List ℕ)). nth p h ∷ m) (drop_of_length-le p {i = suc h} (omega arith)) in
        let mine : (i : ℕ) → i < h → nth p i ≡ nth p (0 + i) = λ i b. let same : 0 + i ≡ i = omega arith in rw same refl in
        rw (for_loop h (product_row n s b) t)
        (lockstep_bind (lockstep_products h [] p p bs b (omega arith) (omega arith) mine (λ i l. hb.rows i (omega arith)) holds) (λ t' ts q.
        let sums = ts ++ (nth p h ∷ []) in
        let made : Holds 4 t' sums = rw end at q.0 in
        rw (total_same h t' sums (λ j l. made.rows j (omega (arith, length-append ts (nth p h ∷ []), q.1)))) (lockstep_self _ (λ a. refl))))

    lockstep_forms : (table ws : List (List ℕ)) → length ws ≡ k → Holds 18 table ws
        → Lockstep (λ (a b : List ℕ). a ≡ b)
        (for 0 h (polynomial_row n s (k + 1) (basis_of L cs) table) (unmade 3)
        >>= (λ b. for 0 (h + 1) (polynomial_row n s (k + 1) (solution_of L cs) table) (unmade 4) >>= (λ t. for 0 h (product_row n s b) t >>= (λ t. total s t h))))
        (polynomials n s ws qs
        >>= (λ bs. polynomials n s ws ps >>= (λ cs. form_products n s cs bs 0 (length qs) >>= (λ ts. total s (ts ++ (nth cs (length qs) ∷ [])) (length qs)))))
    lockstep_forms table ws ew powered =
        let same : (r : ℕ) → r < length (exponents n) - 1 → nth table r ≡ nth ws r = λ r b. powered.rows r (omega arith) in
        let first : Lockstep (λ t b. Holds 3 t b × (length b ≡ length qs)) (for 0 h (polynomial_row n s (k + 1) (basis_of L cs) table) (unmade 3)) (polynomials n s ws qs) =
        rw (for_loop h (polynomial_row n s (k + 1) (basis_of L cs) table) (unmade 3), ← eq)
        (lockstep_polynomials (k + 1) (basis_of L cs) ws table same [] qs (omega arith) basis (none 3)) in
        let second : Lockstep (λ t b. Holds 4 t b × (length b ≡ length ps)) (for 0 (h + 1) (polynomial_row n s (k + 1) (solution_of L cs) table) (unmade 4)) (polynomials n s ws ps) =
        rw (for_loop (h + 1) (polynomial_row n s (k + 1) (solution_of L cs) table) (unmade 4), ← ep)
        (lockstep_polynomials (k + 1) (solution_of L cs) ws table same [] ps (omega arith) solution (none 4)) in
        lockstep_bind first (λ b bs q. lockstep_bind second (λ t p r. rw eq (lockstep_sums b t bs p (q.1 ∙ eq) (r.1 ∙ ep) q.0 r.0)))
      where
        none : (size : ℕ) → Holds size (unmade size) []
        none size = record { size = length-replicate size (replicate 9 0); rows = λ r b. absurd (omega arith) }

    -- the program of the code is that of the definition,
    rows_at : (x : List ℕ) → 0 < n → n ≤ 18 → ((k : ℕ) → k < length (factors n) → Class n k) → n * (1 + length (factors n)) ≡ k
        → sbox_rows n k h s L cs x ≡ sbox n s qs ps x
    unfolding sbox_rows sbox
    rows_at x some few classes made =
        let row : (r : ℕ) → r < 1 → nth (set (unmade 18) 0 x) r ≡ nth (x ∷ []) r = λ r b. let e : r ≡ 0 = omega arith in rw e refl in
        let first : Holds 18 (set (unmade 18) 0 x) (x ∷ []) = record { size = refl; rows = row } in
        lockstep_same (lockstep_bind (lockstep_powers x some few classes first) (λ t ws p. (lockstep_forms t ws (p.1 ∙ made) p.0)))

    -- and of any list y that has the same s shares as x
    pub rows_same : (x y : List ℕ) → 0 < n → n ≤ 18 → ((k : ℕ) → k < length (factors n) → Class n k) → n * (1 + length (factors n)) ≡ k
        → ((i : ℕ) → i < s → share x i ≡ share y i) → sbox_rows n k h s L cs x ≡ sbox n s qs ps y
    rows_same x y some few classes made same = rows_at x some few classes made ∙ sbox_same n s x y same qs ps
