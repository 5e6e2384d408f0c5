-- The figures of the masked S-box: how many masked products, random elements and steps there are.
use Rattle.std.specs.Prelude.{List, [], ◌∷◌, ℕ, ◌+◌, ◌-◌, ◌*◌, ◌/◌, length}
use Rattle.field.specs.Polynomial.{exponents}
use Rattle.steps.specs.Tape.{bytes_for}
use Rattle.sbox.specs.Sbox.{factors}
use Rattle.sbox.specs.Form.{basis_size}

-- ---- at width n, with h = t - 1 polynomials in the basis, of s shares

-- masked products: the first power of each class after that of x, and p1 · q1 to ph · qh
unfoldable pub products_for : ℕ → ℕ → ℕ
products_for n h = length (factors n) + h

-- steps of each share outside the masked products: n - 1 squares in each class; a product and a sum for each coefficient, but the constant, of h and of
-- h + 1 polynomials; h sums
unfoldable pub own_steps : ℕ → ℕ → ℕ
own_steps n h = (n - 1) * (1 + length (factors n)) + (length (exponents n) - 1) * 2 * (h + (h + 1)) + h

-- random elements: s(s - 1)/2 for each masked product
unfoldable pub draws_for : ℕ → ℕ → ℕ → ℕ
draws_for n h s = products_for n h * (s * (s - 1) / 2)

-- steps: s + 7 s(s - 1)/2 in each masked product
unfoldable pub steps_for : ℕ → ℕ → ℕ → ℕ
steps_for n h s = own_steps n h * s + products_for n h * (s + 7 * (s * (s - 1) / 2))

-- ---- with the basis of a record of width n with m output bits: at (4, 4), (6, 6) and (6, 4) (proofs/Counts.antt, `figures_4_4` ..)

-- masked products: 2, 5 and 4
unfoldable pub sbox_products : ℕ → ℕ → ℕ
sbox_products n m = products_for n (basis_size n m)

-- random elements: s(s - 1), 5 s(s - 1)/2 and 2 s(s - 1)
unfoldable pub sbox_draws : ℕ → ℕ → ℕ → ℕ
sbox_draws n m s = draws_for n (basis_size n m) s

-- steps: 57 s + 7 s(s - 1), 275 s + 35 s(s - 1)/2 and 201 s + 14 s(s - 1)
unfoldable pub sbox_steps : ℕ → ℕ → ℕ → ℕ
sbox_steps n m s = steps_for n (basis_size n m) s

-- what a call or a watch hands back: masked products, random bytes, steps
unfoldable pub figures : ℕ → ℕ → ℕ → List ℕ
figures n m s = sbox_products n m ∷ bytes_for n (sbox_draws n m s) ∷ sbox_steps n m s ∷ []
