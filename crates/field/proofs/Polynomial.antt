-- The exponent classes, and combinations of elements.
use mathlib.Core.Path.{◌≡◌, refl, sym, ap, ap₂, ◌∙◌}
use mathlib.Core.Logic.{inl, inr}
use mathlib.Core.Bool.{Bool, true, false, ◌&&◌, ◌||◌}
use mathlib.Core.List.{List, [], ◌∷◌, flatten}
use Prim.Native.Nat.{ℕ, suc, ◌+◌, ◌-◌, ◌*◌, ◌^◌, ◌≤◌, ◌<◌}
use native.Mathlib.Decide.{dec_lt}
use native.Mathlib.Omega.{arith}
use lib.Dec.{T, eqb, ltb, eqb→eq, ltb→lt, lit≤}
use lib.ListN.{length, get_or, get_or-eq_default}
use lib.Pow.{pow_pos}
use Rattle.xor.specs.Xor.{◌⊕◌}
use Rattle.xor.specs.Sum.{Small, add_lists}
use Rattle.xor.proofs.Xor.{⊕-zero, ⊕-exchange, ⊕-lt}
use Rattle.xor.proofs.Sum.{small_head, small_tail}
use Rattle.field.specs.Mul.{Width, Narrow, mul, Ring}
use Rattle.field.specs.Power.{pow, square, Field}
use Rattle.field.specs.Polynomial.{classes, class, exponents, follows, combination}
use Rattle.field.proofs.Bilinear.{mul_⊕}
use Rattle.field.proofs.Ring.{mul_small}
use Rattle.field.proofs.Power.{pow_twice}
use Rattle.field.proofs.Tests.{and_left, and_right, all, all_at}
use Rattle.field.proofs.Inverses.{field_4, field_6, field_of, pow_wrap}

pub length_exponents_4 : length (exponents 4) ≡ 9
unfolding exponents classes flatten
length_exponents_4 = refl

pub length_exponents_6 : length (exponents 6) ≡ 19
unfolding exponents classes flatten
length_exponents_6 = refl

-- ---- squares go up a class

pub follows_square : {n : ℕ} → Field n → (x e e' : ℕ) → x < 2 ^ n → T (follows n e e') → pow n x e' ≡ square n (pow n x e)
unfolding follows
follows_square {n} field x e e' h t =
    sym (go (eqb (2 * e) e') (ltb 0 e' && eqb (2 * e) (e' + (2 ^ n - 1))) (eqb→eq (2 * e) e') wrapped t) ∙ pow_twice field.ring x e h
  where
    wrapped : T (ltb 0 e' && eqb (2 * e) (e' + (2 ^ n - 1))) → (0 < e') × (2 * e ≡ e' + (2 ^ n - 1))
    wrapped s = (
      ltb→lt 0 e' (and_left (ltb 0 e') (eqb (2 * e) (e' + (2 ^ n - 1))) s),
      eqb→eq (2 * e) (e' + (2 ^ n - 1)) (and_right (ltb 0 e') (eqb (2 * e) (e' + (2 ^ n - 1))) s),
    )

    go : (a b : Bool) → (T a → 2 * e ≡ e') → (T b → (0 < e') × (2 * e ≡ e' + (2 ^ n - 1))) → T (a || b) → pow n x (2 * e) ≡ pow n x e'
    go true b p q s = ap (pow n x) (p tt)
    go false true p q s = ap (pow n x) (q tt).1 ∙ pow_wrap field x e' h (q tt).0
    go false false p q s = absurd s

pub follows_power : {n : ℕ} → Width n → (x e e' : ℕ) → x < 2 ^ n → follows n e e' ≡ true → pow n x e' ≡ square n (pow n x e)
follows_power {n} w x e e' h t = follows_square (field_of n w) x e e' h (rw t tt)

-- the test of a width's classes, of which there are at most four
abbrev pub classes_follow : ℕ → Bool
classes_follow n = all 4 (λ c. all (length (class n c) - 1) (λ i. follows n (get_or (class n c) i 0) (get_or (class n c) (suc i) 0)))

squares_by : {n : ℕ} → Field n → length (classes n) ≤ 4 → T (classes_follow n) → (c i x : ℕ) → x < 2 ^ n → suc i < length (class n c)
    → pow n x (get_or (class n c) (suc i) 0) ≡ square n (pow n x (get_or (class n c) i 0))
squares_by {n} field few t c i x h l = elim (dec_lt c 4) [
  | yes k ↦ follows_square field x (get_or (class n c) i 0) (get_or (class n c) (suc i) 0) h
      (all_at (length (class n c) - 1) (λ i. follows n (get_or (class n c) i 0) (get_or (class n c) (suc i) 0))
      (all_at 4 (λ c. all (length (class n c) - 1) (λ i. follows n (get_or (class n c) i 0) (get_or (class n c) (suc i) 0))) t c k)
      i (omega arith))
  | no k ↦ let none : class n c ≡ [] = get_or-eq_default (classes n) [] (omega arith) in
      let short : length (class n c) ≡ 0 = ap length none in
      absurd (omega arith)
]

-- within a class each next power is the square of the one before
pub class_squares : (n : ℕ) → Narrow n → (c i x : ℕ) → x < 2 ^ n → suc i < length (class n c)
    → pow n x (get_or (class n c) (suc i) 0) ≡ square n (pow n x (get_or (class n c) i 0))
unfolding classes follows
class_squares n (inl e) = rw e (squares_by field_4 (lit≤ tt) tt)
class_squares n (inr e) = rw e (squares_by field_6 (lit≤ tt) tt)

-- ---- combinations

-- a combination of elements is an element
pub combination_small : {n : ℕ} → Ring n → (cs xs : List ℕ) → Small n cs → combination n cs xs < 2 ^ n
unfolding combination
combination_small {n} ring [] xs h = pow_pos n
combination_small {n} ring (c ∷ cs) [] h = pow_pos n
combination_small {n} ring (c ∷ cs) (x ∷ xs) h = ⊕-lt n (mul_small ring c x (small_head n c cs h)) (combination_small ring cs xs (small_tail n c cs h))

-- it is additive in the elements, so it can be made share by share
pub combination_add : (n : ℕ) (cs xs ys : List ℕ) → length xs ≡ length ys
    → combination n cs (add_lists xs ys) ≡ combination n cs xs ⊕ combination n cs ys
unfolding combination add_lists
combination_add n [] xs ys e = sym (⊕-zero 0)
combination_add n (c ∷ cs) [] [] e = sym (⊕-zero 0)
combination_add n (c ∷ cs) [] (y ∷ ys) e = absurd (omega arith)
combination_add n (c ∷ cs) (x ∷ xs) [] e = absurd (omega arith)
combination_add n (c ∷ cs) (x ∷ xs) (y ∷ ys) e =
    ap₂ (λ (a b : ℕ). a ⊕ b) (mul_⊕ n c x y) (combination_add n cs xs ys (omega arith))
    ∙ ⊕-exchange (mul n c x) (mul n c y) (combination n cs xs) (combination n cs ys)
