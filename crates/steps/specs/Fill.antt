-- Lists given by a function of the index, and buffers that such a list is written to.
use Rattle.std.specs.Prelude.{◌≡◌, List, [], ◌∷◌, ◌++◌, ℕ, zero, suc, ◌-◌, ◌<◌, length, drop, replicate}

-- the list f 0, f 1 .. of n elements
unfoldable pub tabulate : {B : Type 0} → ℕ → (ℕ → B) → List B
tabulate zero f = []
tabulate (suc n) f = f 0 ∷ tabulate n (λ i. f (suc i))

-- the list l with f 0, f 1 .. in its first n places
unfoldable pub fill : ℕ → (ℕ → ℕ) → List ℕ → List ℕ
fill n f l = tabulate n f ++ drop n l

-- a list of numbers in n places, 0 past them
abbrev pub padded : ℕ → List ℕ → List ℕ
padded n l = l ++ replicate (n - length l) 0

-- what a call at p may return, p below n, is f p
abbrev pub Gives : (ℕ → ℕ → Type 0) → ℕ → (ℕ → ℕ) → Type 0
Gives returns n f = (p v : ℕ) → p < n → returns p v → v ≡ f p
