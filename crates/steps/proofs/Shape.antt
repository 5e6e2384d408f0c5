-- The laws of shapes: one program and then another, loops, and what a shape says of a run.
use mathlib.Core.Path.{◌≡◌, refl, sym, ap, ap₂, ◌∙◌, subst}
use mathlib.Core.List.{List, [], ◌∷◌, ◌++◌, map}
use Prim.Native.Nat.{ℕ, zero, suc, ◌+◌, ◌-◌, ◌*◌, ◌^◌, ◌≤◌, ◌<◌}
use native.Mathlib.Omega.{arith}
use native.Mathlib.Nat.{suc-mul, zero-mul, zero-add}
use lib.ListN.{length, replicate, drop, length-append, length-map, replicate-append-replicate}
use Rattle.steps.specs.Program.{Touch, Run, return, step, draw, mark, ◌>>=◌, note, loop, for, first, later, Entry, result, trace, draws, products, rest}
use Rattle.steps.specs.Choices.{Fits}
use Rattle.steps.proofs.Program.{drop_later}
use Rattle.steps.specs.Shape.{step_of, draw_of, marked, Shape, touches_of, bits_of, products_of, loop_shape, for_shape, steps_of, draws_of}
use Rattle.steps.specs.Shape.{Shaped, shaped_return, shaped_step, shaped_draw, shaped_mark, Counting, Uniform, Alone, alone_nil, alone_step}

-- ---- programs

pub shaped_bind : {A B : Type 0} {P : A → Type 0} {Q : B → Type 0} {σ τ : Shape} {m : Run A} {f : A → Run B}
    → Shaped P σ m → ((a : A) → P a → Shaped Q τ (f a)) → Shaped Q (σ ++ τ) (m >>= f)
unfolding ◌>>=◌
shaped_bind (shaped_return {a} p) g = g a p
shaped_bind (shaped_step h) g = shaped_step (shaped_bind h g)
shaped_bind (shaped_draw h) g = shaped_draw (λ r l. shaped_bind (h r l) g)
shaped_bind (shaped_mark h) g = shaped_mark (shaped_bind h g)

-- a program that goes on without an event keeps its shape
pub shaped_map : {A B : Type 0} {P : A → Type 0} {Q : B → Type 0} {σ : Shape} {m : Run A} (g : A → B)
    → Shaped P σ m → ((a : A) → P a → Q (g a)) → Shaped Q σ (m >>= (λ a. return (g a)))
unfolding ◌>>=◌
shaped_map g (shaped_return {a} p) k = shaped_return (k a p)
shaped_map g (shaped_step h) k = shaped_step (shaped_map g h k)
shaped_map g (shaped_draw h) k = shaped_draw (λ r l. shaped_map g (h r l) k)
shaped_map g (shaped_mark h) k = shaped_mark (shaped_map g h k)

-- a weaker thing may be said of the result
pub shaped_weaken : {A : Type 0} {P Q : A → Type 0} {σ : Shape} {m : Run A} → Shaped P σ m → ((a : A) → P a → Q a) → Shaped Q σ m
shaped_weaken (shaped_return {a} p) k = shaped_return (k a p)
shaped_weaken (shaped_step h) k = shaped_step (shaped_weaken h k)
shaped_weaken (shaped_draw h) k = shaped_draw (λ r l. shaped_weaken (h r l) k)
shaped_weaken (shaped_mark h) k = shaped_mark (shaped_weaken h k)

-- what is left of a shape and its program past the first event, by the program
unfoldable Tail : {A : Type 0} → (A → Type 0) → Shape → Run A → Type 0
Tail P σ (return a) = P a
Tail P [] (step t v m) = Unit {0}
Tail P (e ∷ σ) (step t v m) = Shaped P σ m
Tail P [] (draw b k) = Unit {0}
Tail P (e ∷ σ) (draw b k) = (r : ℕ) → r < 2 ^ b → Shaped P σ (k r)
Tail P [] (mark m) = Unit {0}
Tail P (e ∷ σ) (mark m) = Shaped P σ m

tail_of : {A : Type 0} {P : A → Type 0} {σ : Shape} {m : Run A} → Shaped P σ m → Tail P σ m
unfolding Tail
tail_of (shaped_return p) = p
tail_of (shaped_step h) = h
tail_of (shaped_draw h) = h
tail_of (shaped_mark h) = h

-- two things that hold of the result
pub shaped_both : {A : Type 0} {P Q : A → Type 0} {σ : Shape} {m : Run A} → Shaped P σ m → Shaped Q σ m → Shaped (λ a. P a × Q a) σ m
unfolding Tail
shaped_both (shaped_return p) q = shaped_return (p, tail_of q)
shaped_both (shaped_step h) k = shaped_step (shaped_both h (tail_of k))
shaped_both (shaped_draw h) k = shaped_draw (λ r l. shaped_both (h r l) (tail_of k r l))
shaped_both (shaped_mark h) k = shaped_mark (shaped_both h (tail_of k))

-- one step
pub shaped_note : {P : ℕ → Type 0} (t : Touch) (v : ℕ) → P v → Shaped P (step_of t ∷ []) (note t v)
unfolding note
shaped_note t v p = shaped_step (shaped_return p)

-- ---- loops: P j holds of what turn j begins with

module _ {A : Type 0} (P : ℕ → A → Type 0) (σ : ℕ → Shape) {f : ℕ → A → Run A} where
  shaped_loop : (i k s : ℕ) → i + k ≡ s → ((j : ℕ) (a : A) → i ≤ j → j < s → P j a → Shaped (P (j + 1)) (σ j) (f j a))
      → (a : A) → P i a → Shaped (P s) (loop_shape σ i k) (loop f i k a)
  unfolding loop loop_shape
  shaped_loop i zero s e h a p = let l : i ≡ s = omega arith in shaped_return (subst (λ (x : ℕ). P x a) l p)
  shaped_loop i (suc k) s e h a p =
      shaped_bind (h i a (omega arith) (omega arith) p) (λ b q. shaped_loop (i + 1) k s (omega arith) (λ j c l. h j c (omega arith)) b q)

  pub shaped_for : (i s : ℕ) → i ≤ s → ((j : ℕ) (a : A) → i ≤ j → j < s → P j a → Shaped (P (j + 1)) (σ j) (f j a))
      → (a : A) → P i a → Shaped (P s) (for_shape i s σ) (for i s f a)
  unfolding for for_shape
  shaped_for i s l h a p = shaped_loop i (s - i) s (omega arith) h a p

-- ---- what a shape says of a run, on a tape that fits its draws

module _ {A : Type 0} {P : A → Type 0} where
  pub shaped_result : {σ : Shape} {m : Run A} → Shaped P σ m → (tape : List ℕ) → Fits (bits_of σ) tape → P (result m tape)
  unfolding result bits_of
  shaped_result (shaped_return p) tape l = p
  shaped_result (shaped_step h) tape l = shaped_result h tape l
  shaped_result (shaped_draw h) tape l = shaped_result (h (first tape) l.0) (later tape) l.1
  shaped_result (shaped_mark h) tape l = shaped_result h tape l

  pub shaped_trace : {σ : Shape} {m : Run A} → Shaped P σ m → (tape : List ℕ) → Fits (bits_of σ) tape
      → map (λ (e : Entry). e.touch) (trace m tape) ≡ touches_of σ
  unfolding trace bits_of touches_of
  shaped_trace (shaped_return p) tape l = refl
  shaped_trace (shaped_step {t} h) tape l = ap (λ (ts : List Touch). t ∷ ts) (shaped_trace h tape l)
  shaped_trace (shaped_draw h) tape l = shaped_trace (h (first tape) l.0) (later tape) l.1
  shaped_trace (shaped_mark h) tape l = shaped_trace h tape l

  pub shaped_draws : {σ : Shape} {m : Run A} → Shaped P σ m → (tape : List ℕ) → Fits (bits_of σ) tape → draws m tape ≡ bits_of σ
  unfolding draws bits_of
  shaped_draws (shaped_return p) tape l = refl
  shaped_draws (shaped_step h) tape l = shaped_draws h tape l
  shaped_draws (shaped_draw {b} h) tape l = ap (λ (bits : List ℕ). b ∷ bits) (shaped_draws (h (first tape) l.0) (later tape) l.1)
  shaped_draws (shaped_mark h) tape l = shaped_draws h tape l

  pub shaped_products : {σ : Shape} {m : Run A} → Shaped P σ m → (i : ℕ) (tape : List ℕ) → Fits (bits_of σ) tape
      → length (products i m tape) ≡ products_of σ
  unfolding products bits_of products_of
  shaped_products (shaped_return p) i tape l = refl
  shaped_products (shaped_step h) i tape l = shaped_products h (i + 1) tape l
  shaped_products (shaped_draw h) i tape l = shaped_products (h (first tape) l.0) i (later tape) l.1
  shaped_products (shaped_mark h) i tape l = ap suc (shaped_products h i tape l)

  pub shaped_rest : {σ : Shape} {m : Run A} → Shaped P σ m → (tape : List ℕ) → Fits (bits_of σ) tape → rest m tape ≡ drop (draws_of σ) tape
  unfolding rest bits_of
  shaped_rest (shaped_return p) tape l = refl
  shaped_rest (shaped_step h) tape l = shaped_rest h tape l
  shaped_rest (shaped_draw {σ} h) tape l =
      shaped_rest (h (first tape) l.0) (later tape) l.1 ∙ sym (drop_later (draws_of σ) tape)
  shaped_rest (shaped_mark h) tape l = shaped_rest h tape l

  -- the number of steps
  pub shaped_steps : {σ : Shape} {m : Run A} → Shaped P σ m → (tape : List ℕ) → Fits (bits_of σ) tape → length (trace m tape) ≡ steps_of σ
  shaped_steps {σ} {m} h tape l = sym (length-map (trace m tape) (λ (e : Entry). e.touch)) ∙ ap length (shaped_trace h tape l)

-- ---- the parts of a shape

pub touches_append : (σ τ : Shape) → touches_of (σ ++ τ) ≡ touches_of σ ++ touches_of τ
unfolding touches_of
touches_append [] τ = refl
touches_append (step_of t ∷ σ) τ = ap (λ (ts : List Touch). t ∷ ts) (touches_append σ τ)
touches_append (draw_of b ∷ σ) τ = touches_append σ τ
touches_append (marked ∷ σ) τ = touches_append σ τ

pub bits_append : (σ τ : Shape) → bits_of (σ ++ τ) ≡ bits_of σ ++ bits_of τ
unfolding bits_of
bits_append [] τ = refl
bits_append (step_of t ∷ σ) τ = bits_append σ τ
bits_append (draw_of b ∷ σ) τ = ap (λ (bits : List ℕ). b ∷ bits) (bits_append σ τ)
bits_append (marked ∷ σ) τ = bits_append σ τ

pub counts_steps : Counting steps_of
unfolding touches_of
counts_steps = record { none = refl; both = λ σ τ. ap length (touches_append σ τ) ∙ length-append (touches_of σ) (touches_of τ) }

pub counts_draws : Counting draws_of
unfolding bits_of
counts_draws = record { none = refl; both = λ σ τ. ap length (bits_append σ τ) ∙ length-append (bits_of σ) (bits_of τ) }

pub counts_products : Counting products_of
unfolding products_of
counts_products = record { none = refl; both = both }
  where
    both : (σ τ : Shape) → products_of (σ ++ τ) ≡ products_of σ + products_of τ
    both [] τ = sym (zero-add (products_of τ))
    both (step_of t ∷ σ) τ = both σ τ
    both (draw_of b ∷ σ) τ = both σ τ
    both (marked ∷ σ) τ = let h = both σ τ in omega arith

-- ---- the shape of a loop

pub for_shape_turn : (i s : ℕ) (σ : ℕ → Shape) → i < s → for_shape i s σ ≡ σ i ++ for_shape (i + 1) s σ
unfolding for_shape loop_shape
for_shape_turn i s σ h = let e : s - i ≡ suc (s - (i + 1)) = omega arith in rw e

pub for_shape_end : (i s : ℕ) (σ : ℕ → Shape) → s ≤ i → for_shape i s σ ≡ []
unfolding for_shape loop_shape
for_shape_end i s σ h = let e : s - i ≡ 0 = omega arith in rw e

-- a loop whose turns all count q
pub counts_for : {f : Shape → ℕ} → Counting f → (q i s : ℕ) (σ : ℕ → Shape) → ((j : ℕ) → f (σ j) ≡ q) → f (for_shape i s σ) ≡ (s - i) * q
unfolding for_shape loop_shape
counts_for {f} c q i s σ h = go i (s - i)
  where
    go : (i k : ℕ) → f (loop_shape σ i k) ≡ k * q
    go i zero = c.none ∙ sym (zero-mul q)
    go i (suc k) = c.both (σ i) (loop_shape σ (i + 1) k) ∙ ap₂ (λ (x y : ℕ). x + y) (h i) (go (i + 1) k) ∙ omega (arith, suc-mul k q)

-- ---- draws that are all of n bits

pub uniform_append : (n : ℕ) (σ τ : Shape) → Uniform n σ → Uniform n τ → Uniform n (σ ++ τ)
uniform_append n σ τ h k =
    bits_append σ τ ∙ ap₂ (λ (x y : List ℕ). x ++ y) h k ∙ replicate-append-replicate (draws_of σ) (draws_of τ) n
    ∙ ap (λ (d : ℕ). replicate d n) (sym (counts_draws.both σ τ))

pub uniform_for : (n i s : ℕ) (σ : ℕ → Shape) → ((j : ℕ) → Uniform n (σ j)) → Uniform n (for_shape i s σ)
unfolding for_shape loop_shape bits_of
uniform_for n i s σ h = go i (s - i)
  where
    go : (i k : ℕ) → Uniform n (loop_shape σ i k)
    go i zero = refl
    go i (suc k) = uniform_append n (σ i) (loop_shape σ (i + 1) k) (h i) (go (i + 1) k)

-- ---- steps of one share alone

pub alone_append : {i : ℕ} {σ τ : Shape} → Alone i σ → Alone i τ → Alone i (σ ++ τ)
alone_append alone_nil k = k
alone_append (alone_step h) k = alone_step (alone_append h k)
