-- What a form of width 6 cannot reach: its sum over certain inputs is 0, whatever the basis and p, and that of a table need not be.
use mathlib.Core.Bool.{Bool, true, ◌&&◌}
use mathlib.Core.List.{List, [], ◌∷◌, map, map-map, flatten}
use mathlib.Core.Logic.{◌⊎◌, inl, inr}
use mathlib.Core.Path.{◌≡◌, refl, sym, ap, ap₂, ◌∙◌}
use Prim.Native.Nat.{ℕ, zero, suc, ◌+◌, ◌-◌, ◌*◌, ◌/◌, ◌%◌, ◌^◌, ◌<◌}
use native.Mathlib.Nat.{add-zero, zero-add, zero-mod, le_refl, mod-eq_of_lt, mod-lt, zero-mul, one-mul}
use native.Mathlib.Omega.{arith}
use lib.Dec.{T, eqb, ltb, eqb→eq, ltb→lt, lit<}
use lib.ListN.{length, get_or}
use lib.Pow.{pow_pos, field}
use Rattle.xor.specs.Sum.{join, sum_of, Small, Additive}
use Rattle.xor.specs.Xor.{◌⊕◌}
use Rattle.xor.proofs.Sum.{join_map, small_cons, small_drop, small_head, small_tail, small_take}
use Rattle.xor.proofs.Xor.{⊕-zero, ⊕-exchange, ⊕-mod, bit_cases}
use Rattle.refusal.specs.Large.{first_large}
use Rattle.field.specs.Mul.{mul, double, double_and_add, reduction}
use Rattle.field.specs.Polynomial.{classes, exponents, combination, value}
use Rattle.field.specs.Power.{pow}
use Rattle.field.proofs.Bilinear.{mul_⊕, ⊕-mul, mul_zero, mul_zero_left, odd_lt, sum_so_far}
use Rattle.field.proofs.Inverses.{products}
use Rattle.field.proofs.Polynomial.{combination_small}
use Rattle.field.proofs.Power.{pow_add, pow_small, pow_suc}
use Rattle.field.proofs.Ring.{ring_6, mul_assoc, mul_comm, mul_left_comm, mul_one, mul_small}
use Rattle.field.proofs.Tests.{and_left, and_right, all, all_at, same_below}
use Rattle.decomposition.specs.Form.{Computes, form, polynomial_in, value_of}
use Rattle.decomposition.specs.Layout.{layout, sized}
use Rattle.decomposition.specs.Reach.{sum_over, zero_sum_inputs, des_table, des_tables, from_rows, in_turn}
use Rattle.decomposition.proofs.Decomposition.{small_list}

-- ---- sums over a list

over_same : (l : List ℕ) (f g : ℕ → ℕ) → ((i : ℕ) → i < length l → f (get_or l i 0) ≡ g (get_or l i 0)) → sum_over l f ≡ sum_over l g
unfolding sum_over join
over_same [] f g h = refl
over_same (a ∷ l) f g h = ap₂ ◌⊕◌ (h 0 (omega arith)) (over_same l f g (λ i k. h (suc i) (omega arith)))

over_add : (l : List ℕ) (f g : ℕ → ℕ) → sum_over l (λ x. f x ⊕ g x) ≡ sum_over l f ⊕ sum_over l g
unfolding sum_over join
over_add [] f g = sym (⊕-zero 0)
over_add (a ∷ l) f g = ap (λ (y : ℕ). (f a ⊕ g a) ⊕ y) (over_add l f g) ∙ ⊕-exchange (f a) (g a) (sum_over l f) (sum_over l g)

over_additive : (l : List ℕ) (h f : ℕ → ℕ) → Additive h → sum_over l (λ x. h (f x)) ≡ h (sum_over l f)
unfolding sum_over
over_additive l h f a = ap join (sym (map-map h f l)) ∙ join_map h a (map f l)

-- ---- functions whose sum over a list of elements is 0

module _ (l : List ℕ) (small : Small 6 l) where
  zero_same : (f g : ℕ → ℕ) → ((x : ℕ) → x < 2 ^ 6 → f x ≡ g x) → sum_over l f ≡ 0 → sum_over l g ≡ 0
  zero_same f g h e = sym (over_same l f g (λ i k. h (get_or l i 0) (small i))) ∙ e

  zero_plus : (f g : ℕ → ℕ) → sum_over l f ≡ 0 → sum_over l g ≡ 0 → sum_over l (λ x. f x ⊕ g x) ≡ 0
  zero_plus f g e d = over_add l f g ∙ ap₂ ◌⊕◌ e d ∙ ⊕-zero 0

  zero_times : (a : ℕ) (f : ℕ → ℕ) → sum_over l f ≡ 0 → sum_over l (λ x. mul 6 a (f x)) ≡ 0
  zero_times a f e = over_additive l (mul 6 a) f (mul_⊕ 6 a) ∙ ap (mul 6 a) e ∙ mul_zero 6 a

  zero_none : sum_over l (λ x. 0) ≡ 0
  zero_none = over_additive l (λ y. 0) (λ x. 0) (λ a b. sym (⊕-zero 0))

  zero_sum_of : (k : ℕ) (f : ℕ → ℕ → ℕ) → ((i : ℕ) → sum_over l (f i) ≡ 0) → sum_over l (λ x. sum_of k (λ i. f i x)) ≡ 0
  unfolding sum_of
  zero_sum_of zero f h = zero_none
  zero_sum_of (suc k) f h = zero_plus (λ x. sum_of k (λ i. f i x)) (f k) (zero_sum_of k f h) (h k)

  -- a combination of powers, times g
  zero_combination : (g : ℕ → ℕ) → ((x : ℕ) → x < 2 ^ 6 → g x < 2 ^ 6) → (es cs : List ℕ) → Small 6 cs
      → ((j : ℕ) → j < length es → sum_over l (λ x. mul 6 (pow 6 x (get_or es j 0)) (g x)) ≡ 0)
      → sum_over l (λ x. mul 6 (combination 6 cs (map (pow 6 x) es)) (g x)) ≡ 0
  unfolding combination
  zero_combination g sg es [] sc h = zero_same (λ x. 0) (λ x. mul 6 0 (g x)) (λ x k. sym (mul_zero_left 6 (g x))) zero_none
  zero_combination g sg [] (c ∷ cs) sc h = zero_same (λ x. 0) (λ x. mul 6 0 (g x)) (λ x k. sym (mul_zero_left 6 (g x))) zero_none
  zero_combination g sg (e ∷ es) (c ∷ cs) sc h =
      let first : ℕ → ℕ = λ x. mul 6 c (mul 6 (pow 6 x e) (g x)) in
      let rest : ℕ → ℕ = λ x. combination 6 cs (map (pow 6 x) es) in
      zero_same (λ x. first x ⊕ mul 6 (rest x) (g x)) (λ x. mul 6 (mul 6 c (pow 6 x e) ⊕ rest x) (g x))
      (λ x k. ap (λ (y : ℕ). y ⊕ mul 6 (rest x) (g x)) (sym (mul_assoc ring_6 c (pow 6 x e) (g x) (small_head 6 c cs sc) (pow_small ring_6 x e k) (sg x k)))
      ∙ sym (⊕-mul 6 (mul 6 c (pow 6 x e)) (rest x) (g x)))
      (zero_plus first (λ x. mul 6 (rest x) (g x)) (zero_times c (λ x. mul 6 (pow 6 x e) (g x)) (h 0 (omega arith)))
      (zero_combination g sg es cs (small_tail 6 c cs sc) (λ j k. h (suc j) (omega arith))))

-- ---- sums of powers

-- the exponents of the powers that sum to 0: 0, and those that 21 does not divide
reached : ℕ → Bool
reached zero = true
reached (suc e) = ltb 0 (suc e % 21)

module _ (l : List ℕ) (small : Small 6 l) (r : ℕ) (sr : r < 2 ^ 6)
    (roots : (i : ℕ) → i < length l → pow 6 (get_or l i 0) 22 ≡ mul 6 r (get_or l i 0))
    (few : (e : ℕ) → e < 21 → sum_over l (λ x. pow 6 x e) ≡ 0) where
  -- 21 more in the exponent is a factor r
  root_step : (x e : ℕ) → x < 2 ^ 6 → pow 6 x 22 ≡ mul 6 r x → pow 6 x (e + 22) ≡ mul 6 r (pow 6 x (suc e))
  root_step x e h k =
      pow_add ring_6 x e 22 h ∙ ap (mul 6 (pow 6 x e)) k ∙ mul_left_comm ring_6 (pow 6 x e) r x (pow_small ring_6 x e h) sr h
      ∙ ap (mul 6 r) (mul_comm 6 (pow 6 x e) x (pow_small ring_6 x e h) h ∙ sym (pow_suc 6 x e))

  zero_powers : (q j : ℕ) → 0 < j → j < 21 → sum_over l (λ x. pow 6 x (q * 21 + j)) ≡ 0
  zero_powers zero j p h = let e : 0 * 21 + j ≡ j = omega arith in rw e (few j h)
  zero_powers (suc q) j p h =
      let before = q * 21 + j in
      let e : suc q * 21 + j ≡ before - 1 + 22 = omega arith in
      let d : suc (before - 1) ≡ before = omega arith in
      rw e
      (over_same l (λ x. pow 6 x (before - 1 + 22)) (λ x. mul 6 r (pow 6 x before))
      (λ i k. root_step (get_or l i 0) (before - 1) (small i) (roots i k) ∙ ap (λ (y : ℕ). mul 6 r (pow 6 (get_or l i 0) y)) d)
      ∙ zero_times l small r (λ x. pow 6 x before) (zero_powers q j p h))

  zero_power : (e : ℕ) → T (reached e) → sum_over l (λ x. pow 6 x e) ≡ 0
  unfolding reached
  zero_power zero t = few 0 (omega arith)
  zero_power (suc e) t =
      let d : suc e ≡ suc e / 21 * 21 + suc e % 21 = omega arith in
      rw d (zero_powers (suc e / 21) (suc e % 21) (ltb→lt 0 (suc e % 21) t) (omega arith))

-- ---- of numbers that are no elements only the six low bits count

double_low : (a : ℕ) → double 6 (a % 2 ^ 6) ≡ double 6 a
unfolding double
double_low a =
    let kept : 2 * (a % 2 ^ 6) % 2 ^ 6 ≡ 2 * a % 2 ^ 6 = omega arith in
    ap₂ (λ (x y : ℕ). x ⊕ y % 2 * reduction 6) kept (half (a % 2 ^ 6) ∙ field a 1 5)
    ∙ ap (λ (y : ℕ). 2 * a % 2 ^ 6 ⊕ y * reduction 6) (twice ∙ ap (λ (y : ℕ). y % 2) (sym (half a)))
  where
    half : (x : ℕ) → 2 * x / 2 ^ 6 ≡ x / 2 ^ 5
    half x = omega arith

    twice : a / 2 ^ 5 % 2 % 2 ≡ a / 2 ^ 5 % 2
    twice = omega arith

times_bit_low : (d a : ℕ) → d < 2 → d * a % 2 ^ 6 ≡ d * (a % 2 ^ 6) % 2 ^ 6
times_bit_low d a h = go (bit_cases d h)
  where
    go : (d ≡ 0) ⊎ (d ≡ 1) → d * a % 2 ^ 6 ≡ d * (a % 2 ^ 6) % 2 ^ 6
    go (inl p) = rw (p, zero-mul a, zero-mul (a % 2 ^ 6)) refl
    go (inr p) = rw (p, one-mul a, one-mul (a % 2 ^ 6)) (omega arith)

mul_low : (a b : ℕ) → mul 6 a b % 2 ^ 6 ≡ mul 6 (a % 2 ^ 6) b
unfolding mul double_and_add
mul_low a b =
    ⊕-mod (b % 2 * a) (double_and_add (double 6) 5 (double 6 a) (b / 2)) 6
    ∙ ap₂ (λ (x y : ℕ). x ⊕ double_and_add (double 6) 5 y (b / 2) % 2 ^ 6) (times_bit_low (b % 2) a (odd_lt b)) (sym (double_low a))
    ∙ sym (⊕-mod (b % 2 * (a % 2 ^ 6)) (double_and_add (double 6) 5 (double 6 (a % 2 ^ 6)) (b / 2)) 6)
    ∙ mod-eq_of_lt (mul_small ring_6 (a % 2 ^ 6) b (mod-lt a (pow_pos 6)))

low : List ℕ → List ℕ
low cs = map (λ c. c % 2 ^ 6) cs

combination_low : (cs xs : List ℕ) → combination 6 cs xs % 2 ^ 6 ≡ combination 6 (low cs) xs
unfolding combination low
combination_low [] xs = zero-mod (2 ^ 6)
combination_low (c ∷ cs) [] = zero-mod (2 ^ 6)
combination_low (c ∷ cs) (x ∷ xs) = ⊕-mod (mul 6 c x) (combination 6 cs xs) 6 ∙ ap₂ ◌⊕◌ (mul_low c x) (combination_low cs xs)

low_small : (cs : List ℕ) → Small 6 (low cs)
unfolding low
low_small [] i = pow_pos 6
low_small (c ∷ cs) i = small_cons 6 (c % 2 ^ 6) (low cs) (mod-lt c (pow_pos 6)) (low_small cs) i

value_low : (cs : List ℕ) (x : ℕ) → value 6 cs x % 2 ^ 6 ≡ value 6 (low cs) x
unfolding value
value_low cs x = combination_low cs _

-- of a second factor too
second_low : (a b : ℕ) → mul 6 a b ≡ mul 6 a (b % 2 ^ 6)
unfolding mul
second_low a b = sum_so_far 6 6 a b (le_refl 6)

-- ---- the computed tests

-- y ^ (21 c), what x ^ 21 is for the inputs x of list c, but for 0
root : ℕ → ℕ
root c = pow 6 59 c

-- two lists multiplied place by place
multiplied : List ℕ → List ℕ → List ℕ
multiplied [] row = []
multiplied (a ∷ l) [] = []
multiplied (a ∷ l) (b ∷ row) = mul 6 a b ∷ multiplied l row

multiplied_map : (l : List ℕ) (f : ℕ → ℕ) → multiplied l (map f l) ≡ map (λ x. mul 6 x (f x)) l
unfolding multiplied
multiplied_map [] f = refl
multiplied_map (a ∷ l) f = ap (λ (t : List ℕ). mul 6 a (f a) ∷ t) (multiplied_map l f)

-- do k powers in turn sum to 0? The row holds the first; each next one is made from the one before
sums_zero : List ℕ → ℕ → List ℕ → Bool
sums_zero l zero row = true
sums_zero l (suc k) row = eqb (join row) 0 && sums_zero l k (multiplied l row)

sums_zero_at : (l : List ℕ) (k e : ℕ) → T (sums_zero l k (map (λ x. pow 6 x e) l)) → (i : ℕ) → i < k → sum_over l (λ x. pow 6 x (e + i)) ≡ 0
unfolding sums_zero sum_over pow
sums_zero_at l zero e t i h = absurd (omega arith)
sums_zero_at l (suc k) e t zero h = rw (add-zero e) (eqb→eq _ _ (and_left (eqb (join (map (λ x. pow 6 x e) l)) 0) _ t))
sums_zero_at l (suc k) e t (suc i) h =
    let more : e + suc i ≡ suc e + i = omega arith in
    let rest = and_right (eqb (join (map (λ x. pow 6 x e) l)) 0) _ t in
    rw more (sums_zero_at l k (suc e) (rw (multiplied_map l (λ x. pow 6 x e)) at rest) i (omega arith))

-- a test at all pairs of places
all_both : (n : ℕ) (m : ℕ → ℕ) (P : ℕ → ℕ → Bool) → T (all n (λ i. all (m i) (P i))) → (i j : ℕ) → i < n → j < m i → T (P i j)
all_both n m P t i j hi hj = all_at (m i) (P i) (all_at n (λ i. all (m i) (P i)) t i hi) j hj

-- input number i of list c
abbrev input : ℕ → ℕ → ℕ
input c i = get_or (zero_sum_inputs c) i 0

abbrev inputs : ℕ → ℕ
inputs c = length (zero_sum_inputs c)

-- each is an element
elements_tested : T (all 3 (λ c. all (inputs c) (λ i. ltb (input c i) (2 ^ 6))))
unfolding zero_sum_inputs
elements_tested = tt

-- with x ^ 22 = y ^ (21 c) · x
roots_tested : T (all 3 (λ c. all (inputs c) (λ i. eqb (pow 6 (input c i) 22) (mul 6 (root c) (input c i)))))
unfolding zero_sum_inputs root products
roots_tested = tt

-- the powers 0 to 20 of each list sum to 0
powers_tested : T (all 3 (λ c. sums_zero (zero_sum_inputs c) 21 (map (λ x. pow 6 x 0) (zero_sum_inputs c))))
unfolding zero_sum_inputs products join sums_zero multiplied
powers_tested = tt

-- the listed exponents
abbrev listed : ℕ → ℕ
listed i = get_or (exponents 6) i 0

abbrev count : ℕ
count = length (exponents 6)

-- no two of them add up to a multiple of 21, but for 0 and 0
pairs_tested : T (all count (λ i. all count (λ j. reached (listed i + listed j))))
unfolding reached exponents classes flatten
pairs_tested = tt

-- ---- over the inputs of list c the sum is 0

module _ (c : ℕ) (h : c < 3) where
  abbrev l : List ℕ
  l = zero_sum_inputs c

  small : Small 6 l
  small = small_list 6 l (λ i k. ltb→lt _ _ (all_both 3 inputs (λ c i. ltb (input c i) (2 ^ 6)) elements_tested c i h k))

  -- of the powers with a reached exponent
  power_sum : (e : ℕ) → T (reached e) → sum_over l (λ x. pow 6 x e) ≡ 0
  unfolding root
  power_sum =
      zero_power l small (root c) (pow_small ring_6 59 c (lit< tt))
      (λ i k. eqb→eq _ _ (all_both 3 inputs (λ c i. eqb (pow 6 (input c i) 22) (mul 6 (root c) (input c i))) roots_tested c i h k))
      (λ e k. rw (← zero-add e) (sums_zero_at l 21 0
      (all_at 3 (λ c. sums_zero (zero_sum_inputs c) 21 (map (λ x. pow 6 x 0) (zero_sum_inputs c))) powers_tested c h) e k))

  -- of the product of two listed powers
  pair_sum_lem : (i j : ℕ) → i < count → j < count → sum_over l (λ x. mul 6 (pow 6 x (listed i)) (pow 6 x (listed j))) ≡ 0
  pair_sum_lem i j hi hj =
      zero_same l small (λ x. pow 6 x (listed i + listed j)) _ (λ x k. pow_add ring_6 x (listed i) (listed j) k)
      (power_sum (listed i + listed j) (all_both count (λ i. count) (λ i j. reached (listed i + listed j)) pairs_tested i j hi hj))

  module _ (cs : List ℕ) (sc : Small 6 cs) where
    value_below : (x : ℕ) → value 6 cs x < 2 ^ 6
    unfolding value
    value_below x = combination_small ring_6 cs _ sc

    -- of the value of a polynomial times a listed power
    value_power_sum : (j : ℕ) → j < count → sum_over l (λ x. mul 6 (value 6 cs x) (pow 6 x (listed j))) ≡ 0
    unfolding value
    value_power_sum j hj =
        zero_combination l small (λ x. pow 6 x (listed j)) (λ x k. pow_small ring_6 x (listed j) k) (exponents 6) cs sc (λ i hi. pair_sum_lem i j hi hj)

    -- of a polynomial alone, x ^ 0 being listed
    value_sum : sum_over l (value 6 cs) ≡ 0
    unfolding pow exponents classes flatten
    value_sum = zero_same l small _ _ (λ x k. mul_one ring_6 (value 6 cs x)) (value_power_sum 0 (lit< tt))

  -- of the product of two
  elements_product_sum : (cs ds : List ℕ) → Small 6 cs → Small 6 ds → sum_over l (λ x. mul 6 (value 6 cs x) (value 6 ds x)) ≡ 0
  unfolding value
  elements_product_sum cs ds sc sd =
      zero_combination l small (value 6 ds) (λ x k. value_below ds sd x) (exponents 6) cs sc
      (λ j hj. zero_same l small _ _ (λ x k. mul_comm 6 _ _ (value_below ds sd x) (pow_small ring_6 x (listed j) k)) (value_power_sum ds sd j hj))

  -- the coefficients of the second may be any numbers
  product_sum : (cs ds : List ℕ) → Small 6 cs → sum_over l (λ x. mul 6 (value 6 cs x) (value 6 ds x)) ≡ 0
  product_sum cs ds sc =
      zero_same l small (λ x. mul 6 (value 6 cs x) (value 6 (low ds) x)) (λ x. mul 6 (value 6 cs x) (value 6 ds x))
      (λ x k. ap (mul 6 (value 6 cs x)) (sym (value_low ds x)) ∙ sym (second_low (value 6 cs x) (value 6 ds x)))
      (elements_product_sum cs (low ds) sc (low_small ds))

  -- of a form
  pub form_sum : (m : ℕ) (basis p : List ℕ) → Small 6 p → sum_over l (form (layout 6 m) basis p) ≡ 0
  unfolding form value_of layout sized
  form_sum m basis p sp =
      let L = layout 6 m in
      let last = L.terms - 1 in
      let in_p : (i : ℕ) → Small 6 (polynomial_in L p i) = λ i. small_take 6 L.exponents _ (small_drop 6 (i * L.exponents) p sp) in
      let product : ℕ → ℕ → ℕ = λ i x. mul 6 (value 6 (polynomial_in L p i) x) (value 6 (polynomial_in L basis i) x) in
      zero_plus l small (λ x. sum_of last (λ i. product i x)) (value 6 (polynomial_in L p last))
      (zero_sum_of l small last product (λ i. product_sum (polynomial_in L p i) (polynomial_in L basis i) (in_p i)))
      (value_sum (polynomial_in L p last) (in_p last))

  -- so of a table that a form computes in its low m bits
  pub table_sum : (m : ℕ) (table basis p : List ℕ) → Computes (layout 6 m) table basis p → sum_over l (λ x. get_or table x 0) ≡ 0
  unfolding layout sized
  table_sum m table basis p d =
      over_same l (λ x. get_or table x 0) (λ x. form (layout 6 m) basis p x % 2 ^ m) (λ i k. sym (d.equal (get_or l i 0) (small i)))
      ∙ over_additive l (λ y. y % 2 ^ m) (form (layout 6 m) basis p) (λ a b. ⊕-mod a b m)
      ∙ ap (λ (y : ℕ). y % 2 ^ m) (form_sum m basis p d.elements) ∙ zero-mod (2 ^ m)

-- ---- the S-boxes of DES

-- the standard's example: S1 takes 011011 to 0101
pub des_example : get_or (des_table 0) 0b011011 0 ≡ 0b0101
unfolding des_tables from_rows in_turn
des_example = refl

-- none has the sum 0 over the inputs of list 1
des_tested : T (all 8 (λ k. ltb 0 (sum_over (zero_sum_inputs 1) (λ x. get_or (des_table k) x 0))))
unfolding des_tables from_rows in_turn zero_sum_inputs sum_over join ◌⊕◌
des_tested = tt

pub des_sum : (k : ℕ) → k < 8 → 0 < sum_over (zero_sum_inputs 1) (λ x. get_or (des_table k) x 0)
des_sum k h = ltb→lt _ _ (all_at 8 (λ k. ltb 0 (sum_over (zero_sum_inputs 1) (λ x. get_or (des_table k) x 0))) des_tested k h)

-- each has 64 entries, all of four bits
pub des_length : (k : ℕ) → k < 8 → length (des_table k) ≡ 64
unfolding des_tables from_rows in_turn
des_length = same_below 8 (λ k. length (des_table k)) (λ k. 64) tt

pub des_entries : (k : ℕ) → k < 8 → first_large 16 (des_table k) ≡ 64
unfolding des_tables from_rows in_turn first_large
des_entries = same_below 8 (λ k. first_large 16 (des_table k)) (λ k. 64) tt
