-- The shape of the masked S-box, part by part as its steps.
use Rattle.std.specs.Prelude.{[], ◌∷◌, ◌++◌, ℕ, suc, ◌-◌, length}
use Rattle.field.specs.Polynomial.{exponents}
use Rattle.steps.specs.Program.{one}
use Rattle.steps.specs.Shape.{Shape, step_of, for_shape}
use Rattle.product.specs.Product.{product_shape}
use Rattle.product.specs.ByShare.{times, square_shape}
use Rattle.sbox.specs.Sbox.{factors}

-- a class after that of x: a product and its squares
unfoldable pub class_shape : ℕ → ℕ → Shape
class_shape n s = product_shape n s ++ times (n - 1) (square_shape s)

-- the powers: the squares of x, and the other classes
unfoldable pub powers_shape : ℕ → ℕ → Shape
powers_shape n s = times (n - 1) (square_shape s) ++ times (length (factors n)) (class_shape n s)

-- a term for share i: the product, and the sum
unfoldable pub term_shape : ℕ → Shape
term_shape i = step_of (one i) ∷ step_of (one i) ∷ []

-- a polynomial, share by share: a term for each exponent but the first
unfoldable pub polynomial_shape : ℕ → ℕ → Shape
polynomial_shape n s = for_shape 0 s (λ i. for_shape 0 (length (exponents n) - 1) (λ r. term_shape i))

-- the sum of k + 1 sharings, share by share
unfoldable pub total_shape : ℕ → ℕ → Shape
total_shape s k = for_shape 0 s (λ i. for_shape 0 k (λ j. step_of (one i) ∷ []))

-- the masked S-box at width n, of s shares, with k polynomials in the basis
unfoldable pub sbox_shape : ℕ → ℕ → ℕ → Shape
sbox_shape n s k =
    powers_shape n s ++ (times k (polynomial_shape n s) ++ (times (suc k) (polynomial_shape n s) ++ (times k (product_shape n s) ++ total_shape s k)))
