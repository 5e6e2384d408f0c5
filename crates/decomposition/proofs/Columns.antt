-- The form as the product of the columns with the unknowns.
use mathlib.Core.Bool.{Bool, true, false, cond}
use mathlib.Core.List.{List}
use mathlib.Core.Path.{◌≡◌, refl, sym, ap, ap₂, ◌∙◌}
use Prim.Native.Nat.{ℕ, zero, suc, ◌+◌, ◌-◌, ◌*◌, ◌/◌, ◌%◌, ◌^◌, ◌≤◌, ◌<◌}
use native.Mathlib.Nat.{le_refl, add_comm, zero-add, suc-mul, zero-mul, mod-eq_of_lt, div-eq_of_lt, add-mul-div_right, add-mul-mod_self_right}
use native.Mathlib.Omega.{arith}
use lib.Dec.{ltb}
use lib.ListN.{get_or}
use borrow.Author.Tests.{le-ltb, lt-ltb}
use Rattle.xor.specs.Sum.{sum_of, Small}
use Rattle.xor.specs.Xor.{◌⊕◌}
use Rattle.xor.proofs.Sum.{sum_of_same}
use Rattle.field.specs.Mul.{mul, Ring}
use Rattle.field.specs.Polynomial.{exponents}
use Rattle.field.proofs.Inverses.{field_of}
use Rattle.field.proofs.Turns.{narrow_width}
use Rattle.field.proofs.Power.{pow_small}
use Rattle.field.proofs.Ring.{mul_comm, mul_small, mul_one_left}
use Rattle.linear.specs.Row.{RowElements, dot, times}
use Rattle.linear.specs.Scalars.{scalars}
use Rattle.linear.proofs.Row.{dot_agree, dot_append, dot_below, dot_comm, small_shorter, times_dot}
use Rattle.linear.proofs.Scalars.{laws_of}
use Rattle.decomposition.specs.Equations.{equation}
use Rattle.decomposition.specs.Form.{unknown_column, factor, form, monomial, value_of}
use Rattle.decomposition.specs.Layout.{Sizes}
use Rattle.decomposition.specs.declared.layouts.Layout.{Layout}
use Rattle.decomposition.proofs.Value.{value_dot}

-- ---- sums

-- the last term of a sum
sum_of_last : (k : ℕ) (f : ℕ → ℕ) → 0 < k → sum_of k f ≡ sum_of (k - 1) f ⊕ f (k - 1)
unfolding sum_of
sum_of_last zero f h = absurd (omega arith)
sum_of_last (suc k) f h = let e : suc k - 1 ≡ k = omega arith in rw e refl

-- ---- the elements

module _ {L : Layout} (z : Sizes L) where
  ring : Ring L.width
  ring = (field_of L.width (narrow_width L.width z.width)).ring

  pub monomial_small : (x j : ℕ) → x < 2 ^ L.width → monomial L.width x j < 2 ^ L.width
  unfolding monomial
  monomial_small x j h = pow_small ring x (get_or (exponents L.width) j 0) h

  pub monomials_small : (x : ℕ) → x < 2 ^ L.width → RowElements (scalars L.width) L.exponents (monomial L.width x)
  monomials_small x h = record { at = λ j l. monomial_small x j h }

  pub value_small : (l : List ℕ) (i x : ℕ) → Small L.width l → x < 2 ^ L.width → value_of L l i x < 2 ^ L.width
  value_small l i x s h =
      rw (value_dot z l i x)
      (dot_below (laws_of z.width) L.exponents (record { at = λ j g. s (i * L.exponents + j) }) (monomials_small x h))

  module _ (basis : List ℕ) (sb : Small L.width basis) (x : ℕ) (h : x < 2 ^ L.width) where
    pub factor_small : (i : ℕ) → factor L basis i x < 2 ^ L.width
    unfolding factor
    factor_small i = go (ltb (suc i) L.terms)
      where
        go : (b : Bool) → cond b (value_of L basis i x) 1 < 2 ^ L.width
        go true = value_small basis i x sb h
        go false = (laws_of z.width).one_below

    pub column_small : (k : ℕ) → unknown_column L basis x k < 2 ^ L.width
    unfolding unknown_column
    column_small k = mul_small ring (factor L basis (k / L.exponents) x) (monomial L.width x (k % L.exponents)) (factor_small (k / L.exponents))

-- ---- how the columns lie

pub column_at : (L : Layout) (basis : List ℕ) (x i j : ℕ) → j < L.exponents
    → unknown_column L basis x (i * L.exponents + j) ≡ mul L.width (factor L basis i x) (monomial L.width x j)
unfolding unknown_column
column_at L basis x i j h =
    let e = L.exponents in
    let ep : 0 < e = omega arith in
    let a : (i * e + j) / e ≡ i =
    ap (λ (y : ℕ). y / e) (add_comm (i * e) j) ∙ add-mul-div_right j i ep ∙ ap (λ (y : ℕ). y + i) (div-eq_of_lt h) ∙ zero-add i in
    let b : (i * e + j) % e ≡ j = ap (λ (y : ℕ). y % e) (add_comm (i * e) j) ∙ add-mul-mod_self_right j i e ∙ mod-eq_of_lt h in
    ap₂ (λ (y w : ℕ). mul L.width (factor L basis y x) (monomial L.width x w)) a b

pub equation_column : (L : Layout) (basis : List ℕ) (x v k : ℕ) → k < L.unknowns → equation L basis x v k ≡ unknown_column L basis x k
unfolding equation
equation_column L basis x v k h = rw (lt-ltb k L.unknowns h) refl

pub equation_right : (L : Layout) (basis : List ℕ) (x v : ℕ) → equation L basis x v L.unknowns ≡ v
unfolding equation
equation_right L basis x v = rw (le-ltb L.unknowns L.unknowns (le_refl L.unknowns)) refl

pub equation_small : {L : Layout} → Sizes L → (basis : List ℕ) → Small L.width basis → (x v k : ℕ) → x < 2 ^ L.width → v < 2 ^ L.width
    → equation L basis x v k < 2 ^ L.width
unfolding equation
equation_small {L} z basis sb x v k hx hv = go (ltb k L.unknowns)
  where
    go : (b : Bool) → cond b (unknown_column L basis x k) v < 2 ^ L.width
    go true = column_small z basis sb x hx k
    go false = hv

-- ---- the form

module _ {L : Layout} (z : Sizes L) (basis : List ℕ) (sb : Small L.width basis) (x : ℕ) (h : x < 2 ^ L.width) where
  -- the columns of the first i polynomials, times the unknowns
  blocks_dot : (p : ℕ → ℕ) (i : ℕ) → RowElements (scalars L.width) (i * L.exponents) p
      → dot (scalars L.width) (i * L.exponents) (unknown_column L basis x) p
      ≡ sum_of i (λ m. mul L.width (factor L basis m x) (dot (scalars L.width) L.exponents (monomial L.width x)
      (λ j. p (m * L.exponents + j))))
  unfolding sum_of
  blocks_dot p zero s = ap (λ (k : ℕ). dot (scalars L.width) k (unknown_column L basis x) p) (zero-mul L.exponents) ∙ none
    where
      none : dot (scalars L.width) 0 (unknown_column L basis x) p ≡ 0
      none = unfold dot in refl
  blocks_dot p (suc i) s =
      let n = L.width in
      let e = L.exponents in
      let F = laws_of z.width in
      let g : i * e + e ≡ suc i * e = sym (suc-mul i e) in
      let sp : RowElements (scalars n) e (λ j. p (i * e + j)) = record { at = λ j l. s.at (i * e + j) (omega (arith, g)) } in
      ap (λ (k : ℕ). dot (scalars n) k (unknown_column L basis x) p) (suc-mul i e)
      ∙ dot_append F (i * e) e (unknown_column L basis x) p
      ∙ ap₂ ◌⊕◌ (blocks_dot p i (small_shorter (omega (arith, g)) s))
      (dot_agree (scalars n) e {s = times (scalars n) (factor L basis i x) (monomial n x)} {e = λ j. p (i * e + j)}
      (record { at = λ j l. column_at L basis x i j l }) (record { at = λ j l. refl })
      ∙ times_dot F e (factor_small z basis sb x h i) (monomials_small z x h) sp)

  module _ (p : List ℕ) (sp : Small L.width p) where
    block : (i : ℕ) → dot (scalars L.width) L.exponents (monomial L.width x) (λ j. get_or p (i * L.exponents + j) 0) ≡ value_of L p i x
    block i =
        dot_comm (laws_of z.width) L.exponents (monomials_small z x h) (record { at = λ j l. sp (i * L.exponents + j) })
        ∙ sym (value_dot z p i x)

    -- the products p1·q1 .. and, for the last polynomial, itself
    inner_term : (i : ℕ) → suc i < L.terms
        → mul L.width (factor L basis i x) (value_of L p i x) ≡ mul L.width (value_of L p i x) (value_of L basis i x)
    unfolding factor
    inner_term i l =
        rw (lt-ltb (suc i) L.terms l)
        (mul_comm L.width (value_of L basis i x) (value_of L p i x) (value_small z basis i x sb h) (value_small z p i x sp h))

    last_term : (i : ℕ) → L.terms ≤ suc i → mul L.width (factor L basis i x) (value_of L p i x) ≡ value_of L p i x
    unfolding factor
    last_term i l = rw (le-ltb (suc i) L.terms l) (mul_one_left (ring z) (value_of L p i x) (value_small z p i x sp h))

    pub form_columns : dot (scalars L.width) L.unknowns (unknown_column L basis x) (λ k. get_or p k 0) ≡ form L basis p x
    unfolding form
    form_columns =
        let n = L.width in
        let t = L.terms in
        let product : ℕ → ℕ = λ i. mul n (factor L basis i x) (value_of L p i x) in
        ap (λ (k : ℕ). dot (scalars n) k (unknown_column L basis x) (λ k. get_or p k 0)) z.unknowns
        ∙ blocks_dot (λ k. get_or p k 0) t (record { at = λ k l. sp k })
        ∙ sum_of_same t {g = product} (λ i l. ap (mul n (factor L basis i x)) (block i))
        ∙ sum_of_last t product z.some_terms
        ∙ ap₂ ◌⊕◌ (sum_of_same (t - 1) (λ i l. inner_term i (omega arith))) (last_term (t - 1) (let q = z.some_terms in omega arith))

    -- the equation at x says that the form has the value v there
    pub form_equation : (v : ℕ) → dot (scalars L.width) L.unknowns (equation L basis x v) (λ k. get_or p k 0) ≡ form L basis p x
    form_equation v =
        dot_agree (scalars L.width) L.unknowns {e = λ k. get_or p k 0} (record { at = λ k l. equation_column L basis x v k l })
        (record { at = λ k l. refl })
        ∙ form_columns

    pub form_small : form L basis p x < 2 ^ L.width
    form_small =
        rw (← form_columns)
        (dot_below (laws_of z.width) L.unknowns (record { at = λ k l. column_small z basis sb x h k }) (record { at = λ k l. sp k }))
