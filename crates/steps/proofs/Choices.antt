-- The laws of sums, tapes and tallies.
use mathlib.Core.Path.{◌≡◌, refl, sym, ap, ap₂, ◌∙◌, subst}
use mathlib.Core.Logic.{◌⊎◌, inl, inr}
use mathlib.Core.List.{List, [], ◌∷◌, ◌++◌}
use mathlib.Core.Bool.{Bool, true, false, cond, ◌&&◌}
use Prim.Native.Nat.{ℕ, zero, suc, ◌+◌, ◌*◌, ◌/◌, ◌%◌, ◌^◌, ◌≤◌, ◌<◌}
use native.Mathlib.Nat.{zero-mul, zero-lt-suc, le_refl, le-suc, le_trans, suc-mul, add_assoc, add_comm, pow-suc, div-lt_iff_lt-mul, add-zero}
use native.Mathlib.Omega.{arith}
use lib.Pow.{pow-add, pow_pos}
use lib.Dec.{T, eqb, eqb→eq, eqb_refl}
use lib.ListN.{length, replicate, take, drop, length-append, length-replicate, length-drop, take-append-drop}
use lib.Seq.{length-take-le, take_at, drop_at}
use Rattle.xor.specs.Xor.{◌⊕◌}
use Rattle.xor.specs.Sum.{Small}
use Rattle.xor.proofs.Xor.{bit_cases, ⊕-zero, zero_⊕, ⊕-self, ⊕-half, ⊕-odd}
use Rattle.xor.proofs.Sum.{small_tail}
use Rattle.steps.specs.Program.{first, later}
use Rattle.steps.specs.Choices.{Fits, sum, tally, total_bits, equal}

-- ---- sums

-- two sums are equal if their terms below the bound are
pub sum_same : (n : ℕ) (f g : ℕ → ℕ) → ((v : ℕ) → v < n → f v ≡ g v) → sum n f ≡ sum n g
unfolding sum
sum_same zero f g h = refl
sum_same (suc n) f g h = ap₂ (λ (x y : ℕ). x + y) (sum_same n f g (λ v l. h v (le_trans l (le-suc n)))) (h n (le_refl (suc n)))

sum_constant : (n c : ℕ) → sum n (λ v. c) ≡ n * c
unfolding sum
sum_constant zero c = sym (zero-mul c)
sum_constant (suc n) c = ap (λ (x : ℕ). x + c) (sum_constant n c) ∙ sym (suc-mul n c)

-- term by term in pairs: the even and the odd numbers
sum_pairs : (n : ℕ) (f : ℕ → ℕ) → sum (n * 2) f ≡ sum n (λ v. f (v * 2) + f (v * 2 + 1))
unfolding sum
sum_pairs zero f = refl
sum_pairs (suc n) f =
    let two_more : suc n * 2 ≡ suc (suc (n * 2)) = omega arith in
    let one_more : suc (n * 2) ≡ n * 2 + 1 = omega arith in
    ap (λ (x : ℕ). sum x f) two_more
    ∙ ap (λ (x : ℕ). sum (n * 2) f + f (n * 2) + f x) one_more
    ∙ add_assoc (sum (n * 2) f) (f (n * 2)) (f (n * 2 + 1))
    ∙ ap (λ (x : ℕ). x + (f (n * 2) + f (n * 2 + 1))) (sum_pairs n f)

-- a sum by its half and its last digit
digits : (x δ : ℕ) → x ⊕ δ ≡ (x / 2 ⊕ δ / 2) * 2 + (x % 2 ⊕ δ % 2)
digits x δ = omega (arith, ⊕-half x δ, ⊕-odd x δ)

-- to add one element to every element of b bits only changes their order
pub sum_shift : (b : ℕ) (f : ℕ → ℕ) (δ : ℕ) → δ < 2 ^ b → sum (2 ^ b) (λ v. f (v ⊕ δ)) ≡ sum (2 ^ b) f
unfolding sum
sum_shift zero f δ h =
    let none : δ ≡ 0 = omega arith in
    ap (λ (x : ℕ). 0 + f (0 ⊕ x)) none ∙ ap (λ (x : ℕ). 0 + f x) (⊕-zero 0)
sum_shift (suc b) f δ h =
    ap (λ (x : ℕ). sum x (λ v. f (v ⊕ δ))) (pow-suc 2 b)
    ∙ sum_pairs (2 ^ b) (λ v. f (v ⊕ δ))
    ∙ sum_same (2 ^ b) (λ v. f (v * 2 ⊕ δ) + f ((v * 2 + 1) ⊕ δ)) (λ v. both (v ⊕ δ / 2)) (λ v l. pair v)
    ∙ sum_shift b both (δ / 2) ((div-lt_iff_lt-mul (zero-lt-suc 1)).1 (subst (λ (x : ℕ). δ < x) (pow-suc 2 b) h))
    ∙ sym (sum_pairs (2 ^ b) f)
    ∙ ap (λ (x : ℕ). sum x f) (sym (pow-suc 2 b))
  where
    both : ℕ → ℕ
    both w = f (w * 2) + f (w * 2 + 1)

    -- the two numbers with half w, in either order
    swap : (w : ℕ) → (δ % 2 ≡ 0) ⊎ (δ % 2 ≡ 1) → f (w * 2 + (0 ⊕ δ % 2)) + f (w * 2 + (1 ⊕ δ % 2)) ≡ both w
    swap w (inl e) = rw (e, ⊕-zero 0, ⊕-zero 1, add-zero (w * 2))
    swap w (inr e) = rw (e, ⊕-self 1, zero_⊕ 1, add-zero (w * 2)) (add_comm (f (w * 2 + 1)) (f (w * 2)))

    pair : (v : ℕ) → f (v * 2 ⊕ δ) + f ((v * 2 + 1) ⊕ δ) ≡ both (v ⊕ δ / 2)
    pair v =
        let even : v * 2 ⊕ δ ≡ (v ⊕ δ / 2) * 2 + (0 ⊕ δ % 2) =
        digits (v * 2) δ ∙ ap₂ (λ (x y : ℕ). (x ⊕ δ / 2) * 2 + (y ⊕ δ % 2)) (omega arith) (omega arith) in
        let odd : (v * 2 + 1) ⊕ δ ≡ (v ⊕ δ / 2) * 2 + (1 ⊕ δ % 2) =
        digits (v * 2 + 1) δ ∙ ap₂ (λ (x y : ℕ). (x ⊕ δ / 2) * 2 + (y ⊕ δ % 2)) (omega arith) (omega arith) in
        rw (even, odd) (swap (v ⊕ δ / 2) (bit_cases (δ % 2) (omega arith)))

-- ---- tapes

-- a tape of elements of n bits fits draws of n bits
pub fits_small : (n k : ℕ) (tape : List ℕ) → Small n tape → Fits (replicate k n) tape
unfolding first later
fits_small n zero tape h = tt
fits_small n (suc k) [] h = (h 0, fits_small n k [] h)
fits_small n (suc k) (r ∷ tape) h = (h 0, fits_small n k tape (small_tail n r tape h))

-- and a tape of at most k elements that fits k draws of n bits has elements of n bits
pub small_fits : (n k : ℕ) (tape : List ℕ) → length tape ≤ k → Fits (replicate k n) tape → Small n tape
unfolding first later
small_fits n k [] l h i = pow_pos n
small_fits n zero (r ∷ tape) l h i = absurd (omega arith)
small_fits n (suc k) (r ∷ tape) l h zero = h.0
small_fits n (suc k) (r ∷ tape) l h (suc i) = small_fits n k tape (omega arith) h.1 i

-- an element for each of some draws, and then a tape for others: it fits all of them if either part fits its draws
pub fits_both : (bits more l m : List ℕ) → length l ≡ length bits → Fits bits l → Fits more m → Fits (bits ++ more) (l ++ m)
unfolding first later
fits_both [] more [] m e h k = k
fits_both [] more (r ∷ l) m e h k = absurd (omega arith)
fits_both (b ∷ bits) more [] m e h k = absurd (omega arith)
fits_both (b ∷ bits) more (r ∷ l) m e h k = (h.0, fits_both bits more l m (omega arith) h.1 k)

-- and only then
pub fits_parts : (bits more l m : List ℕ) → length l ≡ length bits → Fits (bits ++ more) (l ++ m) → Fits bits l × Fits more m
unfolding first later
fits_parts [] more [] m e h = (tt, h)
fits_parts [] more (r ∷ l) m e h = absurd (omega arith)
fits_parts (b ∷ bits) more [] m e h = absurd (omega arith)
fits_parts (b ∷ bits) more (r ∷ l) m e h =
    let rest = fits_parts bits more l m (omega arith) h.1 in ((h.0, rest.0), rest.1)

-- ---- tapes that begin with k elements of n bits

-- as many elements as there are draws, which fit them: k of n bits, and then those of other draws
pub tape_joined : (n k : ℕ) (more l m : List ℕ) → length l ≡ k → Small n l → (length m ≡ length more) × Fits more m
    → (length (l ++ m) ≡ length (replicate k n ++ more)) × Fits (replicate k n ++ more) (l ++ m)
tape_joined n k more l m e small h = (
  omega (arith, length-append l m, length-append (replicate k n) more, length-replicate k n, h.0),
  fits_both (replicate k n) more l m (e ∙ sym (length-replicate k n)) (fits_small n k l small) h.1,
)

-- the two parts of such a tape
pub record Parted (n k : ℕ) (more tape : List ℕ) : Type 0 where
  pub front : List ℕ
  pub rest : List ℕ
  pub whole : tape ≡ front ++ rest
  pub front_length : length front ≡ k
  pub front_small : Small n front
  pub rest_length : length rest ≡ length more
  pub rest_fits : Fits more rest

pub tape_parted : (n k : ℕ) (more tape : List ℕ) → length tape ≡ length (replicate k n ++ more) → Fits (replicate k n ++ more) tape
    → Parted n k more tape
tape_parted n k more tape e h =
    let total : length tape ≡ k + length more = omega (arith, length-append (replicate k n) more, length-replicate k n) in
    let long : length (take k tape) ≡ k = length-take-le k tape (omega arith) in
    let whole : tape ≡ take k tape ++ drop k tape = sym (take-append-drop k tape) in
    let parts = fits_parts (replicate k n) more (take k tape) (drop k tape) (long ∙ sym (length-replicate k n))
    (subst (λ (t : List ℕ). Fits (replicate k n ++ more) t) whole h) in
    record {
      front = take k tape;
      rest = drop k tape;
      whole = whole;
      front_length = long;
      front_small = small_fits n k (take k tape) (omega arith) parts.0;
      rest_length = length-drop k tape ∙ omega arith;
      rest_fits = parts.1;
    }

-- a list has one front of k elements, and one rest
pub parts_once : (k : ℕ) (l l' t t' : List ℕ) → length l ≡ k → length l' ≡ k → l ++ t ≡ l' ++ t' → (l ≡ l') × (t ≡ t')
parts_once k l l' t t' e e' same =
    (sym (take_at l t k e) ∙ ap (take k) same ∙ take_at l' t' k e', sym (drop_at l t k e) ∙ ap (drop k) same ∙ drop_at l' t' k e')

-- ---- tallies

-- two tallies are equal if the two tests agree at every choice
pub tally_same : (bits : List ℕ) (P Q : List ℕ → Bool) → ((tape : List ℕ) → Fits bits tape → P tape ≡ Q tape) → tally bits P ≡ tally bits Q
unfolding tally first later
tally_same [] P Q h = ap (λ (b : Bool). cond b 1 0) (h [] tt)
tally_same (b ∷ bits) P Q h =
    sum_same (2 ^ b) _ _ (λ v l. tally_same bits (λ tape. P (v ∷ tape)) (λ tape. Q (v ∷ tape)) (λ tape k. h (v ∷ tape) (l, k)))

-- there are 2 ^ totalBits choices
pub tally_all : (bits : List ℕ) → tally bits (λ tape. true) ≡ 2 ^ total_bits bits
unfolding tally total_bits
tally_all [] = refl
tally_all (b ∷ bits) =
    sum_constant (2 ^ b) (tally bits (λ tape. true)) ∙ ap (λ (x : ℕ). 2 ^ b * x) (tally_all bits) ∙ sym (pow-add 2 b (total_bits bits))

-- ---- the test of two lists means what it says

pub equal→eq : (l m : List ℕ) → T (equal l m) → l ≡ m
unfolding equal
equal→eq [] [] t = refl
equal→eq [] (y ∷ m) t = absurd t
equal→eq (x ∷ l) [] t = absurd t
equal→eq (x ∷ l) (y ∷ m) t = go (eqb x y) (eqb→eq x y) (equal→eq l m) t
  where
    go : (c : Bool) → (T c → x ≡ y) → (T (equal l m) → l ≡ m) → T (c && equal l m) → x ∷ l ≡ y ∷ m
    go true p q t = ap₂ (λ (h : ℕ) (k : List ℕ). h ∷ k) (p tt) (q t)
    go false p q t = absurd t

pub equal_refl : (l : List ℕ) → T (equal l l)
unfolding equal
equal_refl [] = tt
equal_refl (x ∷ l) = go (eqb x x) (eqb_refl x) (equal_refl l)
  where
    go : (c : Bool) → T c → T (equal l l) → T (c && equal l l)
    go true p q = q
    go false p q = p

-- k elements of n bits have k * n bits
pub total_bits_lem : (n k : ℕ) → total_bits (replicate k n) ≡ k * n
unfolding total_bits
total_bits_lem n zero = sym (zero-mul n)
total_bits_lem n (suc k) = ap (λ (b : ℕ). n + b) (total_bits_lem n k) ∙ omega (arith, suc-mul k n)
