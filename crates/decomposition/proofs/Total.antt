-- FIT IS DEFINED for every argument: the first p that meets the table is THE decomposition, and the outcome, the work and the record that are defined by it
-- are what `IsFit` asks.
use mathlib.Core.Bool.{Bool, true, false, cond}
use mathlib.Core.List.{List, [], ◌∷◌}
use mathlib.Core.Logic.{◌⊎◌, inl, inr}
use mathlib.Core.Path.{◌≡◌, refl, sym, ap, ap₂, subst, ◌∙◌}
use Prim.Native.Nat.{ℕ, zero, suc, ◌+◌, ◌*◌, ◌/◌, ◌%◌, ◌^◌, ◌≤◌, ◌<◌}
use native.Mathlib.Decide.{ℕ_discrete}
use native.Mathlib.Nat.{le_refl, mul-le-mul_right, suc-mul, mod-eq_of_lt, mod-lt, mod-one, div-add-mod', div-lt_iff_lt-mul, le-div_iff_mul-le, pow-zero, pow-suc}
use lib.Arith.{digits_lt, digits_mod, digits_div}
use native.Mathlib.Omega.{arith}
use lib.ListN.{length, get_or, replicate}
use lib.Pow.{pow_pos, mod-pow-add}
use borrow.Author.Tests.{leb-true, le-leb, ltb-true, ltb-false}
use Rattle.xor.specs.Sum.{Small}
use Rattle.refusal.specs.Outcome.{Outcome, done, refused, test, and_then, written}
use Rattle.field.proofs.Inverses.{field_of}
use Rattle.field.proofs.Turns.{narrow_width}
use Rattle.linear.specs.Bits.{bit, bits}
use Rattle.linear.specs.Packed.{bits_of}
use Rattle.linear.specs.System.{Elements, Free}
use Rattle.linear.specs.Row.{plus}
use Rattle.linear.proofs.Bits.{bit_laws, bit_lt}
use Rattle.linear.proofs.Bitwise.{bit_elements, bit_of_place, place_within}
use Rattle.linear.proofs.Row.{plus_small, dot_plus}
use Rattle.linear.proofs.System.{last_free, sum_zero}
use Rattle.decomposition.specs.Check.{first_difference}
use Rattle.decomposition.specs.Equations.{bit_system, system}
use Rattle.decomposition.specs.Fit.{FitCall, FitEnd, all_tests, fit_tests, FitReady, fit_outcome, fit_work, fit_record, fit_end, Found, AfterTests, IsFit}
use Rattle.decomposition.specs.Form.{Computes, Decomposition, NoDecomposition, form}
use Rattle.decomposition.specs.Layout.{Pair, Sizes, layout}
use Rattle.decomposition.specs.Record.{record_of}
use Rattle.decomposition.specs.Solution.{digits, first_below, meets, candidates, candidate, solution_number, solvable, solution}
use Rattle.decomposition.specs.declared.layouts.Layout.{Layout}
use Rattle.decomposition.proofs.Decomposition.{computes_solves, decomposition_canonical, decomposition_or_none}
use Rattle.decomposition.proofs.Differences.{difference_none, no_difference}
use Rattle.decomposition.proofs.Ready.{fit_at_pair, passed_at, refused_at}
use Rattle.decomposition.proofs.Settled.{fit_settled, tests_passed}
use Rattle.decomposition.proofs.Sizes.{sizes}

-- ---- the first number

first_le : (bound : ℕ) (P : ℕ → Bool) (k : ℕ) → P k ≡ true → first_below bound P ≤ k
unfolding first_below
first_le zero P k h = omega arith
first_le (suc bound) P zero h = rw h (omega arith)
first_le (suc bound) P (suc k) h = go (P 0) (first_le bound (λ i. P (suc i)) k h)
  where
    go : (b : Bool) {m : ℕ} → m ≤ k → cond b 0 (suc m) ≤ suc k
    go true l = omega arith
    go false l = omega arith

first_true : (bound : ℕ) (P : ℕ → Bool) → first_below bound P < bound → P (first_below bound P) ≡ true
unfolding first_below
first_true zero P h = absurd (omega arith)
first_true (suc bound) P h = go (P 0) refl (first_true bound (λ i. P (suc i))) h
  where
    go : (b : Bool) → P 0 ≡ b → {m : ℕ} → (m < bound → P (suc m) ≡ true) → cond b 0 (suc m) < suc bound → P (cond b 0 (suc m)) ≡ true
    go true e f h = e
    go false e f h = f (omega arith)

-- ---- lists of elements as numbers

number : ℕ → List ℕ → ℕ
number b [] = 0
number b (x ∷ l) = number b l * b + x

length_digits : (b u k : ℕ) → length (digits b u k) ≡ u
unfolding digits
length_digits b zero k = refl
length_digits b (suc u) k = ap suc (length_digits b u (k / b))

digit_lt : (b u k : ℕ) → 0 < b → (i : ℕ) → get_or (digits b u k) i 0 < b
unfolding digits
digit_lt b zero k h i = h
digit_lt b (suc u) k h zero = mod-lt k h
digit_lt b (suc u) k h (suc i) = digit_lt b u (k / b) h i

-- the digits of k make up at most k
number_digits : (b u k : ℕ) → number b (digits b u k) ≤ k
unfolding digits number
number_digits b zero k = omega arith
number_digits b (suc u) k =
    let rest : number b (digits b u (k / b)) * b ≤ k / b * b = mul-le-mul_right b (number_digits b u (k / b)) in
    omega (arith, rest, div-add-mod' k b)

-- the digits of the number of a list are the list
digits_number : (b : ℕ) (l : List ℕ) → ((i : ℕ) → i < length l → get_or l i 0 < b) → digits b (length l) (number b l) ≡ l
unfolding digits number
digits_number b [] h = refl
digits_number b (x ∷ l) h =
    let x_lt : x < b = h 0 (omega arith) in
    ap₂ (λ (y : ℕ) (m : List ℕ). y ∷ m) (digits_mod (number b l) x_lt)
    (ap (digits b (length l)) (digits_div (number b l) x_lt) ∙ digits_number b l (λ i k. h (suc i) (omega arith)))

number_lt : (b : ℕ) (l : List ℕ) → ((i : ℕ) → i < length l → get_or l i 0 < b) → number b l < b ^ length l
unfolding number
number_lt b [] h = rw (pow-zero b) (omega arith)
number_lt b (x ∷ l) h = rw (pow-suc b (length l)) (digits_lt (number_lt b l (λ i k. h (suc i) (omega arith))) (h 0 (omega arith)))

-- Two lists of one length. Where they agree after place k, they agree at k or the second is smaller there. Then they are equal, or the second has the
-- smaller number.
last_first : (b : ℕ) (p q : List ℕ) → length p ≡ length q → ((i : ℕ) → i < length q → get_or q i 0 < b)
    → ((k : ℕ) → k < length p → ((j : ℕ) → k < j → j < length p → get_or p j 0 ≡ get_or q j 0) → (get_or p k 0 ≡ get_or q k 0) ⊎ (get_or q k 0 < get_or p k 0))
    → (p ≡ q) ⊎ (number b q < number b p)
unfolding number
last_first b [] [] e hq h = inl refl
last_first b [] (y ∷ q) e hq h = absurd (omega arith)
last_first b (x ∷ p) [] e hq h = absurd (omega arith)
last_first b (x ∷ p) (y ∷ q) e hq h =
    rest (last_first b p q (omega arith) (λ i k. hq (suc i) (omega arith))
    (λ k l a. h (suc k) (omega arith) (λ j g g'. after k a j g g')))
  where
    after : (k : ℕ) → ((j : ℕ) → k < j → j < length p → get_or p j 0 ≡ get_or q j 0)
        → (j : ℕ) → suc k < j → j < suc (length p) → get_or (x ∷ p) j 0 ≡ get_or (y ∷ q) j 0
    after k a zero g g' = absurd (omega arith)
    after k a (suc j) g g' = a j (omega arith) (omega arith)

    same : p ≡ q → (j : ℕ) → 0 < j → j < suc (length p) → get_or (x ∷ p) j 0 ≡ get_or (y ∷ q) j 0
    same f zero g g' = absurd (omega arith)
    same f (suc j) g g' = ap (λ (l : List ℕ). get_or l j 0) f

    here : p ≡ q → (x ≡ y) ⊎ (y < x) → (x ∷ p ≡ y ∷ q) ⊎ (number b q * b + y < number b p * b + x)
    here f (inl g) = inl (ap₂ (λ (z : ℕ) (l : List ℕ). z ∷ l) g f)
    here f (inr g) = inr (let c : number b q * b ≡ number b p * b = ap (λ (l : List ℕ). number b l * b) (sym f) in omega arith)

    rest : (p ≡ q) ⊎ (number b q < number b p) → (x ∷ p ≡ y ∷ q) ⊎ (number b q * b + y < number b p * b + x)
    rest (inl f) = here f (h 0 (omega arith) (same f))
    rest (inr g) =
        let y_lt : y < b = hq 0 (omega arith) in
        let more : suc (number b q) * b ≤ number b p * b = mul-le-mul_right b g in
        inr (omega (arith, more, suc-mul (number b q) b))

-- the low bits of v, one more
low_sum : (k v : ℕ) → v % 2 ^ suc k ≡ bit k v * 2 ^ k + v % 2 ^ k
unfolding bit
low_sum k v = let e : suc k ≡ 1 + k = omega arith in ap (λ (x : ℕ). v % 2 ^ x) e ∙ mod-pow-add v 1 k

-- The same for the bits of two elements: where they agree after bit i, they agree there or the second has 0. Then the elements are equal, or the second is
-- smaller
module _ (n a c : ℕ) (h : (i : ℕ) → i < n → ((j : ℕ) → i < j → j < n → bit j a ≡ bit j c) → (bit i a ≡ bit i c) ⊎ (bit i c ≡ 0)) where
  low_first : (k : ℕ) → k ≤ n → ((j : ℕ) → k ≤ j → j < n → bit j a ≡ bit j c) → (a % 2 ^ k ≡ c % 2 ^ k) ⊎ (c % 2 ^ k < a % 2 ^ k)
  low_first zero l e = inl (mod-one a ∙ sym (mod-one c))
  low_first (suc k) l e = go (h k l (λ j g g'. e j g g')) (λ q. low_first k (omega arith) (λ j g g'. elim (ℕ_discrete j k) [
    | yes w ↦ rw w q
    | no w ↦ e j (omega arith) g'
  ]))
    where
      -- the result for k bits gives that for one more, where bit k is the same
      same : bit k a ≡ bit k c → (a % 2 ^ k ≡ c % 2 ^ k) ⊎ (c % 2 ^ k < a % 2 ^ k) → (a % 2 ^ suc k ≡ c % 2 ^ suc k) ⊎ (c % 2 ^ suc k < a % 2 ^ suc k)
      same q (inl w) = inl (low_sum k a ∙ ap₂ (λ (x y : ℕ). x * 2 ^ k + y) q w ∙ sym (low_sum k c))
      same q (inr w) = inr (rw (low_sum k a, low_sum k c, q) (omega arith))

      go : (bit k a ≡ bit k c) ⊎ (bit k c ≡ 0) → (bit k a ≡ bit k c → (a % 2 ^ k ≡ c % 2 ^ k) ⊎ (c % 2 ^ k < a % 2 ^ k))
          → (a % 2 ^ suc k ≡ c % 2 ^ suc k) ⊎ (c % 2 ^ suc k < a % 2 ^ suc k)
      go (inl q) f = same q (f q)
      go (inr q) f = elim (ℕ_discrete (bit k a) 0) [
        | yes w ↦ let e = w ∙ sym q in same e (f e)
        | no w ↦
            let one : bit k a ≡ 1 = let b = bit_lt k a in omega arith in
            let high = mod-lt c (pow_pos k) in
            inr (rw (low_sum k a, low_sum k c, q, one) (omega arith))
      ]

  bits_first : a < 2 ^ n → c < 2 ^ n → (a ≡ c) ⊎ (c < a)
  bits_first ha hc = rw (← mod-eq_of_lt ha, ← mod-eq_of_lt hc) (low_first n (le_refl n) (λ j g g'. absurd (omega arith)))

-- ---- the first p that meets the table is THE decomposition

module _ {L : Layout} (z : Sizes L) (table basis : List ℕ) (inputs : length table ≡ L.inputs)
    (st : Small L.outputs table) (sb : Small L.width basis) where
  -- a p that meets the table, and THE decomposition q: where their bits agree after bit number k, they agree there or q has 0
  bit_differs_at_free : (p q : List ℕ) → Computes L table basis p → Decomposition L table basis q → (k : ℕ) → k < L.unknowns * L.width
      → ((j : ℕ) → k < j → j < L.unknowns * L.width → bits_of L.width p j ≡ bits_of L.width q j)
      → (bits_of L.width p k ≡ bits_of L.width q k) ⊎ (bits_of L.width q k ≡ 0)
  bit_differs_at_free p q c d k l after = elim (ℕ_discrete (bits_of L.width p k) (bits_of L.width q k)) [
    | yes e ↦ inl e
    | no n ↦
        let rows = 2 ^ L.width * L.outputs in
        let u = L.unknowns * L.width in
        let M : ℕ → ℕ → ℕ = bit_system L table basis in
        let x : ℕ → ℕ = bits_of L.width p in
        let y : ℕ → ℕ = bits_of L.width q in
        let el : (w : ℕ) → Elements bits rows w M = bit_elements (field_of L.width (narrow_width L.width z.width)) L.outputs (2 ^ L.width) (system L table basis) in
        let fp = computes_solves z table basis sb p c in
        let fq = decomposition_canonical z table basis sb q d in
        let f : Free bits rows M k =
        last_free bit_laws rows u M (plus bits x y) k (el u) (plus_small bit_laws fp.small fq.solves.small) l
        (λ i g. dot_plus bit_laws u ((el u).at i g) fp.small fq.solves.small
        ∙ ap₂ bits.add (fp.row i g) (fq.solves.row i g) ∙ bit_laws.add_self (M i u))
        (λ j g g'. ap (λ (v : ℕ). bits.add v (y j)) (after j g g') ∙ bit_laws.add_self (y j))
        (λ e. n (sum_zero bit_laws (x k) (y k) e)) in
        inr (fq.free k l f)
  ]

  -- and where they agree after place k, they agree at k or q is smaller there
  differs_at_free : (p q : List ℕ) → Computes L table basis p → Decomposition L table basis q → (k : ℕ) → k < L.unknowns
      → ((j : ℕ) → k < j → j < L.unknowns → get_or p j 0 ≡ get_or q j 0) → (get_or p k 0 ≡ get_or q k 0) ⊎ (get_or q k 0 < get_or p k 0)
  differs_at_free p q c d k l after =
      bits_first n (get_or p k 0) (get_or q k 0)
      (λ i g a. rw (← place p k i g, ← place q k i g)
      (bit_differs_at_free p q c d (k * n + i) (place_within L.unknowns n k i l g) (λ j b b'. later i g a j b b')))
      (c.elements k) (d.computes.elements k)
    where
      n : ℕ
      n = L.width

      place : (l : List ℕ) (k i : ℕ) → i < L.width → bits_of L.width l (k * L.width + i) ≡ bit i (get_or l k 0)
      place l k i g = bit_of_place L.width (λ j. get_or l j 0) k i g

      -- a later bit is one of the same unknown, or one of a later unknown
      later : (i : ℕ) → i < L.width → ((j : ℕ) → i < j → j < L.width → bit j (get_or p k 0) ≡ bit j (get_or q k 0))
          → (j : ℕ) → k * L.width + i < j → j < L.unknowns * L.width → bits_of L.width p j ≡ bits_of L.width q j
      later i g a j b b' =
          let n = L.width in
          let whole : j / n * n + j % n ≡ j = div-add-mod' j n in
          let np : 0 < n = omega arith in
          elim (ℕ_discrete (j / n) k) [
            | yes e ↦ rw e (a (j % n) (let w : k * n + j % n ≡ j = rw e at whole in omega arith) (mod-lt j np))
            | no e ↦
                let low : k ≤ j / n = (le-div_iff_mul-le np).1 (omega arith) in
                ap (bit (j % n)) (after (j / n) (omega arith) ((div-lt_iff_lt-mul np).1 b'))
          ]

  -- the test of p is whether it meets the table
  meets_true : (p : List ℕ) → Computes L table basis p → meets L table basis p ≡ true
  unfolding meets
  meets_true p c =
      let f : ℕ → ℕ = λ x. form L basis p x % 2 ^ L.outputs in
      let e = no_difference f table (λ x h. c.equal x (omega (arith, inputs, z.inputs))) in
      le-leb (length table) (first_difference f table) (omega (arith, e))

  meets_computes : (p : List ℕ) → length p ≡ L.unknowns → Small L.width p → meets L table basis p ≡ true → Computes L table basis p
  unfolding meets
  meets_computes p e h t = record {
    unknowns = e;
    elements = h;
    equal = λ x g.
        let f : ℕ → ℕ = λ x. form L basis p x % 2 ^ L.outputs in
        difference_none f table (leb-true (length table) (first_difference f table) t) x (omega (arith, inputs, z.inputs));
  }

  positive : 0 < L.inputs
  positive = omega (arith, z.inputs, pow_pos L.width)

  -- a p that meets the table is a candidate that passes the test
  listed : (p : List ℕ) → Computes L table basis p
      → (number L.inputs p < candidates L) × (meets L table basis (candidate L (number L.inputs p)) ≡ true)
  unfolding candidates candidate
  listed p c =
      let below : (i : ℕ) → i < length p → get_or p i 0 < L.inputs = λ i k. rw z.inputs (c.elements i) in (
        subst (λ (u : ℕ). number L.inputs p < L.inputs ^ u) c.unknowns (number_lt L.inputs p below),
        ap (meets L table basis) (ap (λ (u : ℕ). digits L.inputs u (number L.inputs p)) (sym c.unknowns) ∙ digits_number L.inputs p below)
            ∙ meets_true p c,
      )

  -- where there is none, no p meets the table
  pub not_solvable : candidates L ≤ solution_number L table basis → NoDecomposition L table basis
  unfolding solution_number
  not_solvable h = record {
    never = λ p c.
        let x = listed p c in
        let y = first_le (candidates L) (λ k. meets L table basis (candidate L k)) (number L.inputs p) x.1 in
        omega (arith, x.0, y);
  }

  -- where there is one, it meets the table
  solution_computes : solution_number L table basis < candidates L → Computes L table basis (solution L table basis)
  unfolding solution_number solution candidate
  solution_computes h =
      let k = solution_number L table basis in
      meets_computes (candidate L k) (length_digits L.inputs L.unknowns k)
      (λ i. rw (← z.inputs) (digit_lt L.inputs L.unknowns k positive i))
      (first_true (candidates L) (λ k. meets L table basis (candidate L k)) h)

  -- no decomposition has a smaller number
  solution_first : (q : List ℕ) → Decomposition L table basis q → number L.inputs (solution L table basis) ≤ number L.inputs q
  unfolding solution candidate solution_number
  solution_first q d =
      let x = listed q d.computes in
      let a = first_le (candidates L) (λ k. meets L table basis (candidate L k)) (number L.inputs q) x.1 in
      let b = number_digits L.inputs L.unknowns (solution_number L table basis) in
      omega (arith, a, b)

  -- and is THE decomposition
  pub solution_is : solution_number L table basis < candidates L → Decomposition L table basis (solution L table basis)
  solution_is h = go (decomposition_or_none z table basis sb st)
    where
      c : Computes L table basis (solution L table basis)
      c = solution_computes h

      equal : (q : List ℕ) → Decomposition L table basis q
          → (solution L table basis ≡ q) ⊎ (number L.inputs q < number L.inputs (solution L table basis)) → Decomposition L table basis (solution L table basis)
      equal q d (inl e) = subst (Decomposition L table basis) (sym e) d
      equal q d (inr l) = absurd (omega (arith, l, solution_first q d))

      go : ((q : List ℕ) × Decomposition L table basis q) ⊎ NoDecomposition L table basis → Decomposition L table basis (solution L table basis)
      go (inr none) = absurd (none.never (solution L table basis) c)
      go (inl x) =
          let q = x.0 in
          let d = x.1 in
          equal q d
          (last_first L.inputs (solution L table basis) q (c.unknowns ∙ sym d.computes.unknowns) (λ i k. rw z.inputs (d.computes.elements i))
          (λ k l a. differs_at_free (solution L table basis) q c d k (omega (arith, c.unknowns))
          (λ j g g'. a j g (omega (arith, c.unknowns)))))

-- ---- Fit

-- EVERY CALL has an end with `IsFit`: the one defined
pub fit_total : (n m : ℕ) (c : FitCall) → IsFit n m c (fit_end n m c)
unfolding fit_work fit_record fit_outcome solvable
fit_total n m c = go (all_tests n m c) refl
  where
    L : Layout
    L = layout n m

    new : List ℕ
    new = record_of L c.basis (solution L c.table c.basis)

    found : Sizes L → FitReady L c → (b : Bool) → solvable L c.table c.basis ≡ b
        → Found L c (written (test b 4 0 (done [])) new c.out) (test b 4 0 (done []))
    found z y true e = record {
      p = solution L c.table c.basis;
      decomposition = solution_is z c.table c.basis y.inputs y.entries y.elements
          (ltb-true (solution_number L c.table c.basis) (candidates L) e);
      whole = refl;
      nothing_more = refl;
    }
    found z y false e = record {
      number_is = refl;
      place_is = refl;
      none = not_solvable z c.table c.basis y.inputs y.entries y.elements
          (ltb-false (solution_number L c.table c.basis) (candidates L) e);
      unchanged = refl;
    }

    last : Outcome
    last = test (solvable L c.table c.basis) 4 0 (done [])

    go : (T : Outcome) → all_tests n m c ≡ T
        → AfterTests L c (record {
          outcome = and_then T last;
          work = written T (replicate (length c.work) 0) c.work;
          out = written (and_then T last) new c.out;
        }) T
    go (refused number place) e = (refl, refl, refl)
    go (done values) e =
        let a = tests_passed n m c e in
        (refl, found (sizes n m a.0) a.1 (solvable L c.table c.basis) refl)

-- an end with `IsFit` is the one defined
pub fit_end_lem : (n m : ℕ) (c : FitCall) (e : FitEnd) → IsFit n m c e → e ≡ fit_end n m c
fit_end_lem n m c e f = fit_settled n m c e (fit_end n m c) f (fit_total n m c)

-- by what the tests come to, at the layout of a pair
module _ (n m : ℕ) (c : FitCall) (L : Layout) (k : Pair n m) (is : L ≡ layout n m) where
  pub fit_refused : {number place : ℕ} → fit_tests L c.table c.basis (length c.work) (length c.out) ≡ refused number place
      → record { outcome = refused number place; work = c.work; out = c.out } ≡ fit_end n m c
  fit_refused {number} {place} h =
      let e : FitEnd = record { outcome = refused number place; work = c.work; out = c.out } in
      fit_end_lem n m c e (fit_at_pair L c n m k is e (refused_at L c number place h))

  pub fit_finds : (e : FitEnd) {values : List ℕ} → fit_tests L c.table c.basis (length c.work) (length c.out) ≡ done values
      → (e.work ≡ replicate (length c.work) 0) × Found L c e.out e.outcome → e ≡ fit_end n m c
  fit_finds e h f = fit_end_lem n m c e (fit_at_pair L c n m k is e (passed_at L c e h f))
