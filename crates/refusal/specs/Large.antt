-- Entries that are too large.
use Rattle.std.specs.Prelude.{Option, Some, None, if◌then◌else◌, cond, List, [], ◌∷◌, ◌≡◌, ℕ, suc, ◌+◌, leb, ltb, length, get_or}
use Rattle.refusal.specs.Outcome.{Outcome, test}

-- the place of the first entry that is not below the bound; the length if there is none
unfoldable pub first_large : ℕ → List ℕ → ℕ
first_large bound [] = 0
first_large bound (x ∷ l) = cond (ltb x bound) (suc (first_large bound l)) 0

-- the place of an entry that was searched for, which is `none` if there is no such
abbrev pub found : ℕ → ℕ → Option ℕ
found place none = if ltb place none then Some place else None

-- all entries are below the bound, else a refusal by 3, whose place is that of the first entry that is not, counted from a
abbrev pub test_below : ℕ → ℕ → List ℕ → Outcome → Outcome
test_below bound a l next = test (leb (length l) (first_large bound l)) 3 (a + first_large bound l) next

-- two lists have their entries that are too large, if any, at the same places
abbrev pub LargeAlike : ℕ → List ℕ → List ℕ → Type 0
LargeAlike bound l m = (i : ℕ) → ltb (get_or l i 0) bound ≡ ltb (get_or m i 0) bound
