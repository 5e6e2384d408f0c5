-- For inner contracts only. The machine: a program run as code runs it, from one state to another.
use Rattle.std.specs.Prelude.{◌≡◌, List, [], ◌∷◌, ℕ, ◌+◌, ◌^◌, ◌≤◌, ◌<◌, length, get_or}
use Rattle.steps.specs.declared.counts.Counts.{Counts}
use Rattle.steps.specs.Program.{Run, return, step, draw, mark, result, trace, draws, products}
use Rattle.steps.specs.Recorder.{seen}

-- the counts after one more product
abbrev pub one_product : Counts → Counts
one_product n = record { products = n.products + 1; random = n.random; steps = n.steps }

-- after one more draw
abbrev pub one_draw : Counts → Counts
one_draw n = record { products = n.products; random = n.random + 1; steps = n.steps }

-- after one more step
abbrev pub one_step : Counts → Counts
one_step n = record { products = n.products; random = n.random; steps = n.steps + 1 }

-- the counts at the start of a run
abbrev pub zero_counts : Counts
zero_counts = record { products = 0; random = 0; steps = 0 }

-- the counts of a run that has come to step number k and has taken steps alone
abbrev pub at_step : ℕ → Counts
at_step k = record { products = 0; random = 0; steps = k }

-- the counts n with the next step's number k
abbrev pub with_steps : Counts → ℕ → Counts
with_steps n k = record { products = n.products; random = n.random; steps = k }

-- where a run has come to: the random elements lent to it, the watch list, the counts so far, and the watched values
pub record State : Type 0 where
  pub tape : List ℕ
  pub watch : List ℕ
  pub counts : Counts
  pub values : List ℕ

-- the next random element
abbrev pub next_of : State → ℕ
next_of s = get_or s.tape s.counts.random 0

-- the state after a draw
abbrev pub drawn : State → State
drawn s = record { tape = s.tape; watch = s.watch; counts = one_draw s.counts; values = s.values }

-- after a step that records v
abbrev pub recorded : ℕ → State → State
recorded v s = record { tape = s.tape; watch = s.watch; counts = one_step s.counts; values = seen s.watch s.counts.steps v s.values }

-- where a masked product begins
abbrev pub begun : State → State
begun s = record { tape = s.tape; watch = s.watch; counts = one_product s.counts; values = s.values }

-- where a run ends: its result, and the state then
pub record Ended (A : Type 0) : Type 0 where
  pub result : A
  pub state : State

-- a program run from a state
unfoldable pub exec : {A : Type 0} → Run A → State → Ended A
exec (return a) s = record { result = a; state = s }
exec (step t v m) s = exec m (recorded v s)
exec (draw b f) s = exec (f (next_of s)) (drawn s)
exec (mark m) s = exec m (begun s)

-- Before: the counts where the program will end fit their types, there are random elements enough, and each watched number has a place for its value.
pub record Ready {A : Type 0} (m : Run A) (s : State) : Type 0 where
  pub products_fit : (exec m s).state.counts.products < 2 ^ 64
  pub draws_fit : (exec m s).state.counts.random < 2 ^ 64
  pub steps_fit : (exec m s).state.counts.steps < 2 ^ 32
  pub enough : (exec m s).state.counts.random ≤ length s.tape
  pub places : length s.watch ≡ length s.values

-- After: the program m, run from the state s, has ended in x and the state s'.
pub record Went {A : Type 0} (m : Run A) (s : State) (x : A) (s' : State) : Type 0 where
  pub runs : exec m s ≡ record { result = x; state = s' }

-- The same of a program that takes steps alone: it needs no tape, and of the counts the step number only. Before, at step number k
abbrev pub ReadySteps : {A : Type 0} → List ℕ → Run A → ℕ → List ℕ → Type 0
ReadySteps watch m k vs = Ready m (record { tape = []; watch = watch; counts = at_step k; values = vs })

-- after, at step number k'
abbrev pub WentSteps : {A : Type 0} → List ℕ → Run A → ℕ → List ℕ → A → ℕ → List ℕ → Type 0
WentSteps watch m k vs x k' vs' =
    Went m (record { tape = []; watch = watch; counts = at_step k; values = vs }) x (record { tape = []; watch = watch; counts = at_step k'; values = vs' })

-- the state after the steps that record a list of elements, in order
unfoldable pub recorded_all : List ℕ → State → State
recorded_all [] s = s
recorded_all (v ∷ elements) s = recorded_all elements (recorded v s)

-- what a state s' has of one before it: the same tape and list, as many values, and counts that are as large or larger
pub record After (s s' : State) : Type 0 where
  pub same_tape : s'.tape ≡ s.tape
  pub same_watch : s'.watch ≡ s.watch
  pub same_places : length s'.values ≡ length s.values
  pub products : s.counts.products ≤ s'.counts.products
  pub draws : s.counts.random ≤ s'.counts.random
  pub steps : s.counts.steps ≤ s'.counts.steps

-- the state at the start of a run
abbrev pub start_of : List ℕ → List ℕ → List ℕ → State
start_of tape watch values = record { tape = tape; watch = watch; counts = zero_counts; values = values }

-- A run from the start, in terms of its program: the result, and the counts as the lengths of its lists of products, draws and steps.
pub record Whole {A : Type 0} (tape : List ℕ) (m : Run A) (x : A) (n : Counts) : Type 0 where
  pub result_is : x ≡ result m tape
  pub products_are : n.products ≡ length (products 0 m tape)
  pub draws_are : n.random ≡ length (draws m tape)
  pub steps_are : n.steps ≡ length (trace m tape)
