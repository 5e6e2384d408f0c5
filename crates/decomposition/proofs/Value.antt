-- Values of polynomials as products of a row and a column.
use mathlib.Core.List.{List, ◌∷◌, ◌++◌, map, []}
use mathlib.Core.Path.{◌≡◌, refl, sym, ap, ap₂, ◌∙◌}
use Prim.Native.Nat.{ℕ, zero, suc, ◌+◌, ◌*◌, ◌<◌}
use native.Mathlib.Nat.{add-zero, zero-add}
use native.Mathlib.Omega.{arith}
use lib.ListN.{length, get_or, drop, take}
use lib.Seq.{get_or-take, get_or-drop}
use Rattle.std.specs.List.{fold, range_with_len}
use Rattle.std.proofs.lemmas.List.Sums.{fold_push}
use Rattle.std.specs.Prelude.{bit_xor}
use Rattle.xor.specs.Sum.{sum_of}
use Rattle.xor.specs.Xor.{◌⊕◌}
use Rattle.xor.proofs.Xor.{⊕-is}
use Rattle.field.specs.Mul.{mul}
use Rattle.field.specs.Polynomial.{exponents, combination, value}
use Rattle.field.specs.Power.{pow, Field}
use Rattle.field.proofs.Bilinear.{mul_zero_left}
use Rattle.field.proofs.Inverses.{field_of}
use Rattle.field.proofs.Turns.{narrow_width}
use Rattle.linear.specs.Buffer.{from}
use Rattle.linear.specs.Row.{dot}
use Rattle.linear.specs.Scalars.{scalars}
use Rattle.linear.proofs.Row.{dot_agree, dot_cons, dot_none}
use Rattle.linear.proofs.Scalars.{scalar_laws}
use Rattle.decomposition.specs.Form.{monomial, polynomial_in, value_of}
use Rattle.decomposition.specs.Layout.{Sizes}
use Rattle.decomposition.specs.declared.layouts.Layout.{Layout}

pub length_map : (f : ℕ → ℕ) (l : List ℕ) → length (map f l) ≡ length l
length_map f [] = refl
length_map f (a ∷ l) = ap suc (length_map f l)

get_d_map : (f : ℕ → ℕ) (l : List ℕ) (j : ℕ) → j < length l → get_or (map f l) j 0 ≡ f (get_or l j 0)
get_d_map f [] j h = absurd (omega arith)
get_d_map f (a ∷ l) zero h = refl
get_d_map f (a ∷ l) (suc j) h = get_d_map f l j (omega arith)

combination_dot : {n : ℕ} → Field n → (cs xs : List ℕ) → combination n cs xs ≡ dot (scalars n) (length xs) (λ j. get_or cs j 0) (λ j. get_or xs j 0)
unfolding combination
combination_dot {n} f [] xs = sym (dot_none (scalar_laws f) (length xs) {r = λ j. 0} {d = λ j. get_or xs j 0} (λ j l. mul_zero_left n (get_or xs j 0)))
combination_dot {n} f (c ∷ cs) [] = unfold dot in refl
combination_dot {n} f (c ∷ cs) (x ∷ xs) =
    ap ((scalars n).add ((scalars n).mul c x)) (combination_dot f cs xs)
    ∙ sym (dot_cons (scalar_laws f) (length xs) (λ j. get_or (c ∷ cs) j 0) (λ j. get_or (x ∷ xs) j 0))

-- the value of a polynomial: its coefficients times the powers of x
pub value_dot : {L : Layout} → Sizes L → (l : List ℕ) (i x : ℕ)
    → value_of L l i x ≡ dot (scalars L.width) L.exponents (from l (i * L.exponents)) (monomial L.width x)
unfolding value_of value monomial
value_dot {L} z l i x =
    let n = L.width in
    let e = L.exponents in
    let powers : List ℕ = map (pow n x) (exponents n) in
    combination_dot (field_of n (narrow_width n z.width)) (polynomial_in L l i) powers
    ∙ ap (λ (k : ℕ). dot (scalars n) k (λ j. get_or (polynomial_in L l i) j 0) (λ j. get_or powers j 0)) (length_map (pow n x) (exponents n) ∙ z.listed)
    ∙ dot_agree (scalars n) e
    (record { at = λ j h. get_or-take e (drop (i * e) l) j 0 h ∙ get_or-drop (i * e) l j 0 })
    (record { at = λ j h. get_d_map (pow n x) (exponents n) j (omega (arith, z.listed)) })

-- a sum as one pass over the numbers below k makes it
range_more : (a k : ℕ) → range_with_len a (suc k) ≡ range_with_len a k ++ (a + k) ∷ []
range_more a zero = ap (λ (b : ℕ). b ∷ []) (sym (add-zero a))
range_more a (suc k) = ap (λ (l : List ℕ). a ∷ l) (range_more (a + 1) k ∙ ap (λ (b : ℕ). range_with_len (a + 1) k ++ b ∷ []) (omega arith))

pub fold_sum : (f : ℕ → ℕ) (k : ℕ) → fold (λ s i. bit_xor s (f i)) 0 (range_with_len 0 k) ≡ sum_of k f
unfolding sum_of
fold_sum f zero = refl
fold_sum f (suc k) =
    ap (fold (λ s i. bit_xor s (f i)) 0) (range_more 0 k) ∙ fold_push (λ s i. bit_xor s (f i)) 0 (range_with_len 0 k) (0 + k)
    ∙ ⊕-is _ _ ∙ ap₂ ◌⊕◌ (fold_sum f k) (ap f (zero-add k))

-- entry j of such a row
pub power_at : {L : Layout} → Sizes L → (x : ℕ) (row : List ℕ) → take L.exponents row ≡ map (pow L.width x) (exponents L.width) → (j : ℕ) → j < L.exponents
    → get_or row j 0 ≡ monomial L.width x j
unfolding monomial
power_at {L} z x row e j h =
    sym (get_or-take L.exponents row j 0 h) ∙ ap (λ (l : List ℕ). get_or l j 0) e
    ∙ get_d_map (pow L.width x) (exponents L.width) j (omega (arith, z.listed))

-- the value again, as the sum of the coefficients times such a row
sum_dot : (n k : ℕ) (r d : ℕ → ℕ) → sum_of k (λ j. mul n (r j) (d j)) ≡ dot (scalars n) k r d
unfolding sum_of dot
sum_dot n zero r d = refl
sum_dot n (suc k) r d = ap (λ (s : ℕ). s ⊕ mul n (r k) (d k)) (sum_dot n k r d)

-- and as one pass over the places of the part where they stand makes it
pub value_fold : {L : Layout} → Sizes L → (l : List ℕ) (i x : ℕ) (row : List ℕ) (size : ℕ) → size ≡ L.exponents
    → take L.exponents row ≡ map (pow L.width x) (exponents L.width)
    → fold (λ s j. bit_xor s (mul L.width (get_or (take size (drop (i * L.exponents) l)) j 0) (get_or row j 0))) 0 (range_with_len 0 L.exponents) ≡ value_of L l i x
value_fold {L} z l i x row size q e =
    let coefficient : ℕ → ℕ = λ j. get_or (take size (drop (i * L.exponents) l)) j 0 in
    let power : ℕ → ℕ = λ j. get_or row j 0 in
    fold_sum (λ j. mul L.width (coefficient j) (power j)) L.exponents ∙ sum_dot L.width L.exponents coefficient power
    ∙ dot_agree (scalars L.width) L.exponents
    (record { at = λ j h. get_or-take size (drop (i * L.exponents) l) j 0 (rw q h) ∙ get_or-drop (i * L.exponents) l j 0 })
    (record { at = λ j h. power_at z x row e j h })
    ∙ sym (value_dot z l i x)
