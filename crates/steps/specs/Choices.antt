-- Counting choices: a choice is a tape, with an element below 2 ^ b for each b in a list of bits, in order.
use Rattle.std.specs.Prelude.{List, [], ◌∷◌, Bool, true, false, ◌&&◌, cond, ℕ, zero, suc, ◌+◌, ◌^◌, ◌<◌, eqb}
use Rattle.steps.specs.Program.{Run, trace, first, later}
use Rattle.steps.specs.Watch.{watched}

-- the tape gives an element below 2 ^ b for each b of the list; past its end a tape gives 0
abbrev pub Fits : List ℕ → List ℕ → Type 0
Fits [] tape = Unit
Fits (b ∷ bits) tape = (first tape < 2 ^ b) × Fits bits (later tape)

-- the sum of f v over the numbers v below a bound
unfoldable pub sum : ℕ → (ℕ → ℕ) → ℕ
sum zero f = 0
sum (suc bound) f = sum bound f + f bound

-- how many choices satisfy P
unfoldable pub tally : List ℕ → (List ℕ → Bool) → ℕ
tally [] P = cond (P []) 1 0
tally (b ∷ bits) P = sum (2 ^ b) (λ v. tally bits (λ tape. P (v ∷ tape)))

-- the bits of a whole choice
unfoldable pub total_bits : List ℕ → ℕ
total_bits [] = 0
total_bits (b ∷ bits) = b + total_bits bits

-- are two lists equal?
unfoldable pub equal : List ℕ → List ℕ → Bool
equal [] [] = true
equal [] (y ∷ m) = false
equal (x ∷ l) [] = false
equal (x ∷ l) (y ∷ m) = eqb x y && equal l m

-- how many choices, of elements of these bits, make the program show these values at the steps of the list
unfoldable pub choices : {A : Type 0} → List ℕ → Run A → List ℕ → List ℕ → ℕ
choices bits program list shown = tally bits (λ tape. equal (watched list (trace program tape)) shown)
