-- The laws of programs: what one program and then another comes to, and the turns of a loop.
use mathlib.Core.Path.{◌≡◌, refl, sym, ap, ap₂, ◌∙◌}
use mathlib.Core.List.{List, [], ◌∷◌, ◌++◌}
use Prim.Native.Nat.{ℕ, zero, suc, ◌+◌, ◌-◌, ◌≤◌, ◌<◌}
use native.Mathlib.Omega.{arith}
use lib.ListN.{length, drop}
use lib.Seq.{drop-nil}
use Rattle.steps.specs.Program.{Run, return, step, draw, mark, ◌>>=◌, loop, for, first, later, Entry, result, trace, draws, products, rest}

-- ---- one program, and then another

pub result_bind : {A B : Type 0} (m : Run A) (f : A → Run B) (tape : List ℕ) → result (m >>= f) tape ≡ result (f (result m tape)) (rest m tape)
unfolding result rest ◌>>=◌
result_bind (return a) f tape = refl
result_bind (step t v m) f tape = result_bind m f tape
result_bind (draw b k) f tape = result_bind (k (first tape)) f (later tape)
result_bind (mark m) f tape = result_bind m f tape

pub trace_bind : {A B : Type 0} (m : Run A) (f : A → Run B) (tape : List ℕ)
    → trace (m >>= f) tape ≡ trace m tape ++ trace (f (result m tape)) (rest m tape)
unfolding result trace rest ◌>>=◌
trace_bind (return a) f tape = refl
trace_bind (step t v m) f tape = ap (λ (l : List Entry). record { touch = t; value = v } ∷ l) (trace_bind m f tape)
trace_bind (draw b k) f tape = trace_bind (k (first tape)) f (later tape)
trace_bind (mark m) f tape = trace_bind m f tape

pub draws_bind : {A B : Type 0} (m : Run A) (f : A → Run B) (tape : List ℕ)
    → draws (m >>= f) tape ≡ draws m tape ++ draws (f (result m tape)) (rest m tape)
unfolding result draws rest ◌>>=◌
draws_bind (return a) f tape = refl
draws_bind (step t v m) f tape = draws_bind m f tape
draws_bind (draw b k) f tape = ap (λ (l : List ℕ). b ∷ l) (draws_bind (k (first tape)) f (later tape))
draws_bind (mark m) f tape = draws_bind m f tape

pub rest_bind : {A B : Type 0} (m : Run A) (f : A → Run B) (tape : List ℕ) → rest (m >>= f) tape ≡ rest (f (result m tape)) (rest m tape)
unfolding result rest ◌>>=◌
rest_bind (return a) f tape = refl
rest_bind (step t v m) f tape = rest_bind m f tape
rest_bind (draw b k) f tape = rest_bind (k (first tape)) f (later tape)
rest_bind (mark m) f tape = rest_bind m f tape

-- the second program's steps are counted from where the first ended
pub products_bind : {A B : Type 0} (i : ℕ) (m : Run A) (f : A → Run B) (tape : List ℕ)
    → products i (m >>= f) tape ≡ products i m tape ++ products (i + length (trace m tape)) (f (result m tape)) (rest m tape)
unfolding result trace products rest ◌>>=◌
products_bind i (return a) f tape = let e : i + 0 ≡ i = omega arith in rw e
products_bind i (step t v m) f tape =
    let e : i + suc (length (trace m tape)) ≡ i + 1 + length (trace m tape) = omega arith in
    rw e (products_bind (i + 1) m f tape)
products_bind i (draw b k) f tape = products_bind i (k (first tape)) f (later tape)
products_bind i (mark m) f tape = ap (λ (l : List ℕ). i ∷ l) (products_bind i m f tape)

-- grouping does not matter
pub bind_bind : {A B C : Type 0} (m : Run A) (f : A → Run B) (g : B → Run C) → ((m >>= f) >>= g) ≡ (m >>= (λ a. f a >>= g))
unfolding ◌>>=◌
bind_bind (return a) f g = refl
bind_bind (step t v m) f g = ap (step t v) (bind_bind m f g)
bind_bind (draw b k) f g = ap (draw b) (λ i r. bind_bind (k r) f g i)
bind_bind (mark m) f g = ap mark (bind_bind m f g)

-- ---- loops

-- a loop whose first turn is i, and one that is at its end
pub for_turn : {A : Type 0} (i s : ℕ) (f : ℕ → A → Run A) (a : A) → i < s → for i s f a ≡ (f i a >>= for (i + 1) s f)
unfolding for loop
for_turn i s f a h = let e : s - i ≡ suc (s - (i + 1)) = omega arith in rw e

pub for_end : {A : Type 0} (i s : ℕ) (f : ℕ → A → Run A) (a : A) → s ≤ i → for i s f a ≡ return a
unfolding for loop
for_end i s f a h = let e : s - i ≡ 0 = omega arith in rw e

-- a loop of one turn is its turn
pub bind_return : {A : Type 0} (m : Run A) → (m >>= return) ≡ m
unfolding ◌>>=◌
bind_return (return a) = refl
bind_return (step t v m) = ap (step t v) (bind_return m)
bind_return (draw b k) = ap (draw b) (λ i r. bind_return (k r) i)
bind_return (mark m) = ap mark (bind_return m)

pub for_once : {A : Type 0} (i : ℕ) (f : ℕ → A → Run A) (a : A) → for i (i + 1) f a ≡ f i a
unfolding for loop
for_once {A} i f a = let e : i + 1 - i ≡ 1 = omega arith in ap (λ (k : ℕ). loop f i k a) e ∙ bind_return (f i a)

-- a loop up to s is the loop up to j, and then the rest
loop_add : {A : Type 0} (f : ℕ → A → Run A) (i k l : ℕ) (a : A) → loop f i (k + l) a ≡ (loop f i k a >>= loop f (i + k) l)
unfolding loop ◌>>=◌
loop_add f i zero l a = let e : 0 + l ≡ l = omega arith in let e' : i + 0 ≡ i = omega arith in rw (e, e')
loop_add {A} f i (suc k) l a =
    let e : suc k + l ≡ suc (k + l) = omega arith in
    let e' : i + suc k ≡ i + 1 + k = omega arith in
    rw (e, e')
    (ap (λ (g : A → Run A). f i a >>= g) (λ x b. loop_add f (i + 1) k l b x) ∙ sym (bind_bind (f i a) (loop f (i + 1) k) (loop f (i + 1 + k) l)))

pub for_split : {A : Type 0} (i j s : ℕ) (f : ℕ → A → Run A) (a : A) → i ≤ j → j ≤ s → for i s f a ≡ (for i j f a >>= for j s f)
unfolding for
for_split i j s f a h l =
    let e : s - i ≡ (j - i) + (s - j) = omega arith in
    let e' : i + (j - i) ≡ j = omega arith in
    rw e (rw e' at (loop_add f i (j - i) (s - j) a))

-- two loops whose turns are the same
loop_same : {A : Type 0} (f g : ℕ → A → Run A) (i k s : ℕ) → i + k ≡ s → ((j : ℕ) (a : A) → i ≤ j → j < s → f j a ≡ g j a)
    → (a : A) → loop f i k a ≡ loop g i k a
unfolding loop
loop_same f g i zero s e h a = refl
loop_same {A} f g i (suc k) s e h a =
    ap₂ (λ (m : Run A) (c : A → Run A). m >>= c) (h i a (omega arith) (omega arith))
    (λ x b. loop_same f g (i + 1) k s (omega arith) (λ j a l. h j a (omega arith)) b x)

pub for_same : {A : Type 0} (i s : ℕ) (f g : ℕ → A → Run A) → i ≤ s → ((j : ℕ) (a : A) → i ≤ j → j < s → f j a ≡ g j a)
    → (a : A) → for i s f a ≡ for i s g a
unfolding for
for_same i s f g l h a = loop_same f g i (s - i) s (omega arith) h a

-- ---- tapes

pub drop_later : (k : ℕ) (tape : List ℕ) → drop (suc k) tape ≡ drop k (later tape)
unfolding later
drop_later k [] = sym (drop-nil k)
drop_later k (r ∷ tape) = refl
