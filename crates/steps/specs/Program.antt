-- Programs of steps: what a masked computation records and draws, in order.
use Rattle.std.specs.Prelude.{List, [], ◌∷◌, ℕ, zero, suc, ◌+◌, ◌-◌}

-- the shares that a step touches: one, or two
pub data Touch : Type 0 where
  one : ℕ → Touch
  two : ℕ → ℕ → Touch

-- a program that ends in an A
pub data Run (A : Type 0) : Type 0 where
  -- it ends with this result
  return : A → Run A
  -- a step: it records one element, touching these shares, and goes on
  step : Touch → ℕ → Run A → Run A
  -- it draws the next random element, of so many bits, and goes on by its value
  draw : ℕ → (ℕ → Run A) → Run A
  -- a masked product begins; nothing is recorded
  mark : Run A → Run A

infixl 1 ◌>>=◌ ◌>>◌
-- one program, and then another that goes on from its result: what a block `do` stands for
unfoldable pub ◌>>=◌ : {A B : Type 0} → Run A → (A → Run B) → Run B
return a >>= f = f a
step t v m >>= f = step t v (m >>= f)
draw b k >>= f = draw b (λ r. k r >>= f)
mark m >>= f = mark (m >>= f)

-- the same where the result is not used
unfoldable pub ◌>>◌ : {A B : Type 0} → Run A → Run B → Run B
m >> m' = m >>= (λ a. m')

-- the step that records v; its result is v
unfoldable pub note : Touch → ℕ → Run ℕ
note t v = step t v (return v)

-- the next random element of b bits
unfoldable pub random : ℕ → Run ℕ
random b = draw b return

-- f at i, at i + 1 and so on, k times, each from what the one before gave
unfoldable pub loop : {A : Type 0} → (ℕ → A → Run A) → ℕ → ℕ → A → Run A
loop f i zero a = return a
loop f i (suc k) a = f i a >>= loop f (i + 1) k

-- f at each number from i up to s, s not included
unfoldable pub for : {A : Type 0} → ℕ → ℕ → (ℕ → A → Run A) → A → Run A
for i s f a = loop f i (s - i) a

-- ---- a program on a tape of random elements

-- the first element of a tape, 0 where it is at its end
unfoldable pub first : List ℕ → ℕ
first [] = 0
first (r ∷ tape) = r

-- the tape after it
unfoldable pub later : List ℕ → List ℕ
later [] = []
later (r ∷ tape) = tape

-- what a step leaves: the shares that it touches and the element that it records
pub record Entry : Type 0 where
  pub touch : Touch
  pub value : ℕ

-- the program's result
unfoldable pub result : {A : Type 0} → Run A → List ℕ → A
result (return a) tape = a
result (step t v m) tape = result m tape
result (draw b k) tape = result (k (first tape)) (later tape)
result (mark m) tape = result m tape

-- its steps: entry k is step number k
unfoldable pub trace : {A : Type 0} → Run A → List ℕ → List Entry
trace (return a) tape = []
trace (step t v m) tape = record { touch = t; value = v } ∷ trace m tape
trace (draw b k) tape = trace (k (first tape)) (later tape)
trace (mark m) tape = trace m tape

-- its draws, as the bits of each
unfoldable pub draws : {A : Type 0} → Run A → List ℕ → List ℕ
draws (return a) tape = []
draws (step t v m) tape = draws m tape
draws (draw b k) tape = b ∷ draws (k (first tape)) (later tape)
draws (mark m) tape = draws m tape

-- its masked products, each as the number of the step with which it begins, counted from k on
unfoldable pub products : {A : Type 0} → ℕ → Run A → List ℕ → List ℕ
products k (return a) tape = []
products k (step t v m) tape = products (k + 1) m tape
products k (draw b f) tape = products k (f (first tape)) (later tape)
products k (mark m) tape = k ∷ products k m tape

-- what it leaves of the tape
unfoldable pub rest : {A : Type 0} → Run A → List ℕ → List ℕ
rest (return a) tape = tape
rest (step t v m) tape = rest m tape
rest (draw b k) tape = rest (k (first tape)) (later tape)
rest (mark m) tape = rest m tape
