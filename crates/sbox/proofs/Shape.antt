-- The shape of the masked S-box, and what its result joins to.
use mathlib.Core.Path.{◌≡◌, refl, sym, ap, ap₂, ◌∙◌, subst}
use mathlib.Core.List.{List, [], ◌∷◌, ◌++◌, map}
use Prim.Native.Nat.{ℕ, zero, suc, ◌+◌, ◌-◌, ◌^◌, ◌≤◌, ◌<◌}
use native.Mathlib.Numerals.{add-one}
use native.Mathlib.Omega.{arith}
use lib.ListN.{length, get_or, length-append, get_or-eq_default}
use lib.Pow.{pow_pos}
use Rattle.xor.specs.Xor.{◌⊕◌}
use Rattle.xor.specs.Sum.{join, sum_of, Small}
use Rattle.xor.proofs.Xor.{⊕-assoc, ⊕-zero, zero_⊕}
use Rattle.xor.proofs.Sum.{additive_below, join_nil, join_cons, join_append, join_small}
use Rattle.field.specs.Mul.{mul}
use Rattle.field.specs.Power.{pow}
use Rattle.field.specs.Polynomial.{exponents, combination, value}
use Rattle.field.proofs.Bilinear.{mul_⊕, mul_zero_left}
use Rattle.field.proofs.Ring.{mul_small, mul_one}
use Rattle.field.proofs.Power.{pow_zero}
use Rattle.field.proofs.Inverses.{field_of}
use Rattle.decomposition.specs.Layout.{Known}
use Rattle.decomposition.proofs.Sizes.{known_width}
use Rattle.steps.specs.Fill.{tabulate}
use Rattle.steps.proofs.Fill.{length_tabulate}
use Rattle.steps.specs.Program.{one, ◌>>=◌, note}
use Rattle.steps.specs.Shape.{step_of, Shaped, shaped_return, shaped_step}
use Rattle.steps.specs.Sharing.{share, Sharing}
use Rattle.steps.proofs.Shape.{shaped_bind, shaped_map, shaped_weaken, shaped_note}
use Rattle.steps.proofs.Sharing.{for_sum, for_sum_end, for_sum_same, join_for}
use Rattle.product.specs.Product.{product_shape}
use Rattle.product.proofs.Shape.{shaped_product}
use Rattle.sbox.specs.Sbox.{term, polynomial, polynomials, form_products, total, sbox}
use Rattle.product.specs.ByShare.{nth, constant}
use Rattle.sbox.specs.Form.{form_of, SmallAll, Coefficients}
use Rattle.sbox.specs.Shape.{term_shape, polynomial_shape, total_shape, sbox_shape}
use Rattle.product.specs.ByShare.{times}
use Rattle.product.proofs.ByShare.{for_sum_none, for_sum_head, adds_share, adds_map, adds_add, adds_sum, adds_constant}
use Rattle.product.proofs.ByShare.{shaped_add_up, shaped_by_share}
use Rattle.sbox.proofs.Powers.{Each, each_nil, each_cons, each_append, each_nth}
use Rattle.sbox.proofs.Powers.{later_exponents, exponents_later, length_later, IsPower, shaped_powers}

-- ---- sums

-- a combination of powers as a sum
combination_sum : (n x : ℕ) (cs es : List ℕ)
    → combination n cs (map (pow n x) es) ≡ for_sum 0 (length es) (λ r. mul n (get_or cs r 0) (pow n x (get_or es r 0)))
unfolding combination
combination_sum n x [] es =
    sym (for_sum_none 0 (length es) (λ r. mul n (get_or [] r 0) (pow n x (get_or es r 0))) (λ r l. mul_zero_left n (pow n x (get_or es r 0))))
combination_sum n x (c ∷ cs) [] = sym (for_sum_end 0 0 (λ r. mul n (get_or (c ∷ cs) r 0) (pow n x 0)) (omega arith))
combination_sum n x (c ∷ cs) (e ∷ es) =
    ap (λ (v : ℕ). mul n c (pow n x e) ⊕ v)
    (combination_sum n x cs es
    ∙ for_sum_same 0 (length es) (λ r. mul n (get_or cs r 0) (pow n x (get_or es r 0)))
    (λ r. mul n (get_or (c ∷ cs) (r + 1) 0) (pow n x (get_or (e ∷ es) (r + 1) 0))) (λ r l k. rw add-one))
    ∙ sym (for_sum_head (length es) (λ r. mul n (get_or (c ∷ cs) r 0) (pow n x (get_or (e ∷ es) r 0))))

-- a polynomial's value: the constant, and a term for each later exponent
value_sum : (n : ℕ) (w : Known n) (x : ℕ) (cs : List ℕ)
    → value n cs x ≡ get_or cs 0 0 ⊕ for_sum 0 (length (exponents n) - 1) (λ r. mul n (get_or cs (r + 1) 0) (pow n x (get_or (later_exponents n) r 0)))
unfolding value
value_sum n w x cs =
    ap (λ (es : List ℕ). combination n cs (map (pow n x) es)) (exponents_later n w)
    ∙ combination_sum n x cs (0 ∷ later_exponents n)
    ∙ for_sum_head (length (later_exponents n)) (λ r. mul n (get_or cs r 0) (pow n x (get_or (0 ∷ later_exponents n) r 0)))
    ∙ ap₂ ◌⊕◌ (ap (mul n (get_or cs 0 0)) (pow_zero n x) ∙ mul_one (field_of n (known_width n w)).ring (get_or cs 0 0))
    (for_sum_same 0 (length (later_exponents n)) (λ r. mul n (get_or cs (r + 1) 0) (pow n x (get_or (0 ∷ later_exponents n) (r + 1) 0)))
    (λ r. mul n (get_or cs (r + 1) 0) (pow n x (get_or (later_exponents n) r 0))) (λ r l k. rw add-one)
    ∙ ap (λ (k : ℕ). for_sum 0 k (λ r. mul n (get_or cs (r + 1) 0) (pow n x (get_or (later_exponents n) r 0)))) (sym (length_later n w)))

-- the first term, and the sum of the others
sum_head : (k : ℕ) (f : ℕ → ℕ) → sum_of (suc k) f ≡ f 0 ⊕ sum_of k (λ i. f (suc i))
unfolding sum_of
sum_head zero f = zero_⊕ (f 0) ∙ sym (⊕-zero (f 0))
sum_head (suc k) f = ap (λ (v : ℕ). v ⊕ f (suc k)) (sum_head k f) ∙ ⊕-assoc (f 0) (sum_of k (λ i. f (suc i))) (f (suc k))

join_tabulate : (k : ℕ) (f : ℕ → ℕ) → join (tabulate k f) ≡ sum_of k f
unfolding tabulate sum_of
join_tabulate zero f = join_nil
join_tabulate (suc k) f =
    join_cons (f 0) (tabulate k (λ i. f (suc i))) ∙ ap (λ (v : ℕ). f 0 ⊕ v) (join_tabulate k (λ i. f (suc i))) ∙ sym (sum_head k f)

-- all of them, and v
join_form : (f : ℕ → ℕ) (k v : ℕ) → join (tabulate k f ++ (v ∷ [])) ≡ sum_of k f ⊕ v
join_form f k v =
    join_append (tabulate k f) (v ∷ [])
    ∙ ap₂ ◌⊕◌ (join_tabulate k f) (join_cons v [] ∙ ap (λ (y : ℕ). v ⊕ y) join_nil ∙ ⊕-zero v)

-- ---- the shape

module _ {n : ℕ} (w : Known n) (s x : ℕ) (some : 0 < s) (nine : s ≤ 9) where
  shaped_polynomial : {ws : List (List ℕ)} (cs : List ℕ) → Small n cs → Each (IsPower n s x) (later_exponents n) ws
      → Shaped (Sharing n s (value n cs x)) (polynomial_shape n s) (polynomial n s ws cs)
  unfolding polynomial polynomial_shape term term_shape note ◌>>=◌
  shaped_polynomial {ws} cs hc hw =
      let ring = (field_of n (known_width n w)).ring in
      let l = length_later n w in
      let e = length (exponents n) - 1 in
      subst (λ (v : ℕ). Shaped (Sharing n s v) (polynomial_shape n s) (polynomial n s ws cs)) (sym (value_sum n w x cs))
      (shaped_weaken
      (shaped_by_share nine
      (adds_add (adds_constant n s (get_or cs 0 0) some (hc 0))
      (adds_sum e (λ r i. mul n (get_or cs (r + 1) 0) (share (nth ws r) i)) (λ r. mul n (get_or cs (r + 1) 0) (pow n x (get_or (later_exponents n) r 0)))
      (λ r k. adds_map (mul n (get_or cs (r + 1) 0)) (additive_below n (mul n (get_or cs (r + 1) 0)) (mul_⊕ n (get_or cs (r + 1) 0)))
      (λ v g. mul_small ring (get_or cs (r + 1) 0) v (hc (r + 1)))
      (adds_share (each_nth hw 0 r (omega arith))))))
      (λ i. shaped_add_up e (constant i (get_or cs 0 0)) (λ r. mul n (get_or cs (r + 1) 0) (share (nth ws r) i)) (λ r. term_shape i)
      (λ r u. shaped_step (shaped_step (shaped_return refl)))))
      (λ c p. p.1))

  shaped_polynomials : {ws : List (List ℕ)} (css : List (List ℕ)) → SmallAll n css → Each (IsPower n s x) (later_exponents n) ws
      → Shaped (λ l. (k : ℕ) → Sharing n s (value n (nth css k) x) (nth l k)) (times (length css) (polynomial_shape n s)) (polynomials n s ws css)
  unfolding polynomials times value combination
  shaped_polynomials [] hc hw = shaped_return (λ k. record { small = λ i. pow_pos n; past = λ i g. refl; joins = join_nil })
  shaped_polynomials (cs ∷ css) hc hw =
      shaped_bind (shaped_polynomial cs (hc 0) hw) λ a ha.
      shaped_map (λ l. a ∷ l) (shaped_polynomials css (λ k. hc (suc k)) hw) (λ l hl. both a l ha hl)
    where
      both : (a : List ℕ) (l : List (List ℕ)) → Sharing n s (value n cs x) a → ((k : ℕ) → Sharing n s (value n (nth css k) x) (nth l k))
          → (k : ℕ) → Sharing n s (value n (nth (cs ∷ css) k) x) (nth (a ∷ l) k)
      both a l ha hl zero = ha
      both a l ha hl (suc k) = hl k

  -- the products from number j on, of sharings of v 0, v 1 .. and u 0, u 1 ..
  shaped_products : (ps qs : List (List ℕ)) (v u : ℕ → ℕ) (j k : ℕ) → ((i : ℕ) → Sharing n s (v i) (nth ps (j + i))) → ((i : ℕ) → Sharing n s (u i) (nth qs (j + i)))
      → Shaped (Each (Sharing n s) (tabulate k (λ i. mul n (v i) (u i)))) (times k (product_shape n s)) (form_products n s ps qs j k)
  unfolding form_products times tabulate
  shaped_products ps qs v u j zero hp hq = shaped_return each_nil
  shaped_products ps qs v u j (suc k) hp hq =
      let here : j + 0 ≡ j = omega arith in
      let next : (i : ℕ) → suc j + i ≡ j + suc i = λ i. omega arith in
      shaped_bind (shaped_product (field_of n (known_width n w)).ring s (v 0) (u 0) (nth ps j) (nth qs j) nine (rw here at (hp 0)) (rw here at (hq 0))) λ a ha.
      shaped_map (λ l. a ∷ l)
      (shaped_products ps qs (λ i. v (suc i)) (λ i. u (suc i)) (suc j) k (λ i. rw (next i) (hp (suc i))) (λ i. rw (next i) (hq (suc i))))
      (λ l hl. each_cons ha.1 hl)

  shaped_total : (k : ℕ) {vs : List ℕ} {ts : List (List ℕ)} → length vs ≡ suc k → Each (Sharing n s) vs ts
      → Shaped (λ c. (length c ≡ 9) × Sharing n s (join vs) c) (total_shape s k) (total s ts k)
  unfolding total total_shape
  shaped_total k {vs} {ts} l h =
      let e : get_or vs 0 0 ⊕ for_sum 0 k (λ r. get_or vs (r + 1) 0) ≡ join vs =
      sym (join_for (suc k) vs (λ i g. get_or-eq_default vs 0 {n = i} (omega arith)) ∙ for_sum_head k (share vs)) in
      subst (λ (v : ℕ). Shaped (λ c. (length c ≡ 9) × Sharing n s v c) (total_shape s k) (total s ts k)) e
      (shaped_by_share nine
      (adds_add (adds_share (each_nth h 0 0 (omega arith)))
      (adds_sum k (λ r i. share (nth ts (r + 1)) i) (λ r. get_or vs (r + 1) 0) (λ r m. adds_share (each_nth h 0 (r + 1) (omega arith)))))
      (λ i. shaped_add_up k (share (nth ts 0) i) (λ r. share (nth ts (r + 1)) i) (λ r. step_of (one i) ∷ [])
      (λ r u. shaped_note (one i) (u ⊕ share (nth ts (r + 1)) i) refl)))

-- The masked S-box of a sharing of x is a sharing of the form at x, in nine places.
pub shaped_sbox : {n : ℕ} → Known n → (s x : ℕ) (qs ps : List (List ℕ)) (a : List ℕ) → 0 < s → s ≤ 9 → Coefficients n qs ps → Sharing n s x a
    → Shaped (λ c. (length c ≡ 9) × Sharing n s (form_of n qs ps x) c) (sbox_shape n s (length qs)) (sbox n s qs ps a)
unfolding sbox sbox_shape form_of
shaped_sbox {n} w s x qs ps a some nine hc ha =
    let k = length qs in
    let f : ℕ → ℕ = λ i. mul n (value n (nth ps i) x) (value n (nth qs i) x) in
    shaped_bind (shaped_powers w s x nine (subst (λ (v : ℕ). v < 2 ^ n) ha.joins (join_small n a ha.small)) ha) λ ws hw.
    shaped_bind (shaped_polynomials w s x some nine qs hc.small_basis hw) λ bs hb.
    shaped_bind (rw hc.one_more at (shaped_polynomials w s x some nine ps hc.small hw)) λ cs hp.
    let first : (i : ℕ) → 0 + i ≡ i = λ i. omega arith in
    shaped_bind (shaped_products w s x some nine cs bs (λ i. value n (nth ps i) x) (λ i. value n (nth qs i) x) 0 k (λ i. rw (first i) (hp i)) (λ i. rw (first i) (hb i))) λ ts ht.
    rw (join_form f k (value n (nth ps k) x)) at
    (shaped_total w s x some nine k (length-append (tabulate k f) (value n (nth ps k) x ∷ []) ∙ omega (arith, length_tabulate k f))
    (each_append ht (each_cons (hp k) each_nil)))
