-- Watching steps: the values that a list of step numbers shows, and the shares that its steps touch.
use Rattle.std.specs.Prelude.{List, [], ◌∷◌, map, Bool, false, not, ◌||◌, cond, ℕ, suc, T, eqb, get_or}
use Rattle.steps.specs.Program.{Touch, one, two, Entry}

-- the elements that the steps record, in order
abbrev pub values : List Entry → List ℕ
values entries = map (λ (e : Entry). e.value) entries

-- the watched values: what the step named at each place of the list records; 0 where there is no step of this number
unfoldable pub watched : List ℕ → List Entry → List ℕ
watched [] entries = []
watched (w ∷ list) entries = get_or (values entries) w 0 ∷ watched list entries

-- is x in the list?
unfoldable pub member : ℕ → List ℕ → Bool
member x [] = false
member x (y ∷ list) = eqb x y || member x list

-- how many different numbers are in the list: an element counts unless it comes again
unfoldable pub different : List ℕ → ℕ
different [] = 0
different (x ∷ list) = cond (member x list) (different list) (suc (different list))

-- does a step that touches these shares touch share u?
unfoldable pub touches : ℕ → Touch → Bool
touches u (one i) = eqb u i
touches u (two i j) = eqb u i || eqb u j

-- does step number k touch share u, where the steps touch the shares given, in order? past the last there is no step
abbrev pub step_touches : ℕ → List Touch → ℕ → Bool
step_touches u shares k = get_or (map (touches u) shares) k false

-- no step of the list touches share u
pub data Misses (u : ℕ) (shares : List Touch) : List ℕ → Type 0 where
  misses_nil : Misses u shares []
  misses_cons : {k : ℕ} {list : List ℕ} → T (not (step_touches u shares k)) → Misses u shares list → Misses u shares (k ∷ list)
