-- The listed exponents, and polynomials with one coefficient for each.
use Rattle.std.specs.Prelude.{Bool, cond, ◌&&◌, ◌||◌, ℕ, ◌+◌, ◌-◌, ◌*◌, ◌^◌, eqb, ltb, get_or}
use mathlib.Core.List.{List, [], ◌∷◌, map, flatten}
use Rattle.xor.specs.Xor.{◌⊕◌}
use Rattle.field.specs.Mul.{mul}
use Rattle.field.specs.Power.{pow}

-- the exponents of a width, class by class, none but at 4 and 6: within a class each next power is the square of the one before
unfoldable pub classes : ℕ → List (List ℕ)
classes n =
    cond (eqb n 4)
    ((0 ∷ []) ∷ (1 ∷ 2 ∷ 4 ∷ 8 ∷ []) ∷ (3 ∷ 6 ∷ 12 ∷ 9 ∷ []) ∷ [])
    (cond (eqb n 6)
    ((0 ∷ []) ∷ (1 ∷ 2 ∷ 4 ∷ 8 ∷ 16 ∷ 32 ∷ []) ∷ (3 ∷ 6 ∷ 12 ∷ 24 ∷ 48 ∷ 33 ∷ []) ∷ (11 ∷ 22 ∷ 44 ∷ 25 ∷ 50 ∷ 37 ∷ []) ∷ [])
    [])

-- class number c, class 0 being that of the exponent 0 alone
abbrev pub class : ℕ → ℕ → List ℕ
class n c = get_or (classes n) c []

-- the exponents in order
unfoldable pub exponents : ℕ → List ℕ
exponents n = flatten (classes n)

-- e' follows e in a class: it is twice e or, where that is 2 ^ n or more, twice e less 2 ^ n - 1
unfoldable pub follows : ℕ → ℕ → ℕ → Bool
follows n e e' = eqb (2 * e) e' || (ltb 0 e' && eqb (2 * e) (e' + (2 ^ n - 1)))

-- the sum of the elements xs, each times its coefficient
unfoldable pub combination : ℕ → List ℕ → List ℕ → ℕ
combination n [] xs = 0
combination n (c ∷ cs) [] = 0
combination n (c ∷ cs) (x ∷ xs) = mul n c x ⊕ combination n cs xs

-- the value at x of the polynomial with the coefficients cs
unfoldable pub value : ℕ → List ℕ → ℕ → ℕ
value n cs x = combination n cs (map (pow n x) (exponents n))
