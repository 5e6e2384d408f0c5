-- For inner contracts only. The recorder: what recorded steps leave in the slice of values that goes with a watch list.
use Rattle.std.specs.Prelude.{cond, List, [], ◌∷◌, ℕ, ◌+◌, ◌<◌, eqb}

-- the values after step number k has recorded v: v at each place whose watched number is k, the others as they were
unfoldable pub seen : List ℕ → ℕ → ℕ → List ℕ → List ℕ
seen [] k v vs = vs
seen (w ∷ watch) k v [] = []
seen (w ∷ watch) k v (x ∷ vs) = cond (eqb w k) v x ∷ seen watch k v vs

-- the values after the steps from number k on have recorded a list of elements, in order
unfoldable pub observed : List ℕ → ℕ → List ℕ → List ℕ → List ℕ
observed watch k [] vs = vs
observed watch k (v ∷ elements) vs = observed watch (k + 1) elements (seen watch k v vs)

-- each number of a list is below n
abbrev pub AllBelow : ℕ → List ℕ → Type 0
AllBelow n [] = Unit
AllBelow n (w ∷ watch) = (w < n) × AllBelow n watch
