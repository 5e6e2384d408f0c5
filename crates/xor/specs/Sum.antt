-- Sums of lists, and functions that keep sums.
use Rattle.std.specs.Prelude.{◌≡◌, List, [], ◌∷◌, ℕ, zero, suc, ◌^◌, ◌<◌, get_or}
use Rattle.xor.specs.Xor.{◌⊕◌}

-- the sum of all elements of a list: what the shares of a value join to
unfoldable pub join : List ℕ → ℕ
join [] = 0
join (a ∷ l) = a ⊕ join l

-- f 0 + .. + f (k - 1)
unfoldable pub sum_of : ℕ → (ℕ → ℕ) → ℕ
sum_of zero f = 0
sum_of (suc k) f = sum_of k f ⊕ f k

-- two lists added place by place, as far as both go
unfoldable pub add_lists : List ℕ → List ℕ → List ℕ
add_lists [] m = []
add_lists (a ∷ l) [] = []
add_lists (a ∷ l) (b ∷ m) = a ⊕ b ∷ add_lists l m

-- every element of the list is below 2 ^ n; past its end `get_or` gives 0, so the index needs no bound
abbrev pub Small : ℕ → List ℕ → Type 0
Small n l = (i : ℕ) → get_or l i 0 < 2 ^ n

-- f turns sums into sums
abbrev pub Additive : (ℕ → ℕ) → Type 0
Additive f = (a b : ℕ) → f (a ⊕ b) ≡ f a ⊕ f b

-- f turns sums of numbers below 2 ^ n into sums
abbrev pub AdditiveBelow : ℕ → (ℕ → ℕ) → Type 0
AdditiveBelow n f = (a b : ℕ) → a < 2 ^ n → b < 2 ^ n → f (a ⊕ b) ≡ f a ⊕ f b
