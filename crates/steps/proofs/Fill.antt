-- The laws of lists given by a function, and of buffers that are filled.
use mathlib.Core.Path.{◌≡◌, refl, sym, ap, ap₂, ◌∙◌}
use mathlib.Core.List.{List, [], ◌∷◌, ◌++◌, reverse, append-nil, append_assoc}
use Prim.Native.Nat.{ℕ, zero, suc, ◌+◌, ◌-◌, ◌≤◌, ◌<◌}
use native.Mathlib.Nat.{not-suc-le-zero, le_of_suc-le-suc}
use native.Mathlib.Numerals.{add-one}
use native.Mathlib.Omega.{arith}
use lib.ListN.{length, get_or, drop, set, replicate, length-append, length-drop, drop_of_length-le, get_or-append}
use lib.Seq.{drop-cons, set_at, get_or-append-add, get_or-drop, paste, take_at, take-length}
use Rattle.std.proofs.lemmas.List.{length-reverse, get_or-reverse, drop-replicate}
use Rattle.steps.specs.Fill.{tabulate, fill, padded}

module _ {B : Type 0} where
  pub length_tabulate : (n : ℕ) (f : ℕ → B) → length (tabulate n f) ≡ n
  unfolding tabulate
  length_tabulate zero f = refl
  length_tabulate (suc n) f = ap suc (length_tabulate n (λ i. f (suc i)))

  pub get_d_tabulate : (n : ℕ) (f : ℕ → B) (i : ℕ) (d : B) → i < n → get_or (tabulate n f) i d ≡ f i
  unfolding tabulate
  get_d_tabulate zero f i d h = absurd (not-suc-le-zero h)
  get_d_tabulate (suc n) f zero d h = refl
  get_d_tabulate (suc n) f (suc i) d h = get_d_tabulate n (λ i. f (suc i)) i d (le_of_suc-le-suc h)

  -- two functions that agree below n
  pub tabulate_same : (n : ℕ) (f g : ℕ → B) → ((i : ℕ) → i < n → f i ≡ g i) → tabulate n f ≡ tabulate n g
  unfolding tabulate
  tabulate_same zero f g h = refl
  tabulate_same (suc n) f g h =
      ap₂ (λ (x : B) (l : List B). x ∷ l) (h 0 (omega arith)) (tabulate_same n (λ i. f (suc i)) (λ i. g (suc i)) (λ i k. h (suc i) (omega arith)))

  -- a list is given by its own elements
  pub tabulate_get_or : (l : List B) (d : B) → tabulate (length l) (λ i. get_or l i d) ≡ l
  unfolding tabulate
  tabulate_get_or [] d = refl
  tabulate_get_or (a ∷ l) d = ap (λ (m : List B). a ∷ m) (tabulate_get_or l d)

  tabulate_last : (n : ℕ) (f : ℕ → B) → tabulate (suc n) f ≡ tabulate n f ++ (f n ∷ [])
  unfolding tabulate
  tabulate_last zero f = refl
  tabulate_last (suc n) f = ap (λ (l : List B). f 0 ∷ l) (tabulate_last n (λ i. f (suc i)))

-- the last element first
pub reverse_tabulate : (n : ℕ) (f : ℕ → ℕ) → reverse (tabulate n f) ≡ tabulate n (λ i. f (n - 1 - i))
reverse_tabulate n f =
    let l = tabulate n f in
    let size : length l ≡ n = length_tabulate n f in
    let whole : length (reverse l) ≡ n = length-reverse l ∙ size in
    sym (rw whole at (tabulate_get_or (reverse l) 0))
    ∙ tabulate_same n (λ i. get_or (reverse l) i 0) (λ i. f (n - 1 - i))
    (λ i h. get_or-reverse l i 0 (omega arith) ∙ ap (λ (m : ℕ). get_or l (m - 1 - i) 0) size ∙ get_d_tabulate n f (n - 1 - i) 0 (omega arith))

-- ---- a buffer that is filled from its start, one element a turn

pub length_fill : (n : ℕ) (f : ℕ → ℕ) (l : List ℕ) → n ≤ length l → length (fill n f l) ≡ length l
unfolding fill
length_fill n f l h = simp (length-append, length_tabulate, length-drop) (omega arith)

pub fill_none : (f : ℕ → ℕ) (l : List ℕ) → l ≡ fill 0 f l
unfolding fill tabulate
fill_none f l = refl

pub fill_first : (f : ℕ → ℕ) {v : ℕ} (l : List ℕ) → v ≡ f 0 → v ∷ l ≡ fill 1 f (v ∷ l)
unfolding fill tabulate
fill_first f {v} l e = ap (λ (x : ℕ). x ∷ l) e

pub fill_more : (n : ℕ) (f : ℕ → ℕ) (l : List ℕ) → n < length l → set (fill n f l) n (f n) ≡ fill (n + 1) f l
unfolding fill
fill_more n f l h =
    rw (drop-cons l n 0 h, add-one n, tabulate_last n f, append_assoc) (set_at (tabulate n f) (get_or l n 0) (drop (suc n) l) (f n) n (length_tabulate n f))

-- one turn of a loop that fills it
pub fill_turn : (n : ℕ) (f : ℕ → ℕ) (l m : List ℕ) (v : ℕ) → m ≡ fill n f l → v ≡ f n → n < length l → set m n v ≡ fill (n + 1) f l
fill_turn n f l m v e g h = rw (e, g) (fill_more n f l h)

pub fill_all : (n : ℕ) (f : ℕ → ℕ) (l : List ℕ) → length l ≤ n → fill n f l ≡ tabulate n f
unfolding fill
fill_all n f l h = rw (drop_of_length-le l h, append-nil)

-- a buffer of n bytes that a loop has filled to i, where the loop has ended
pub filled : {n i : ℕ} (f : ℕ → ℕ) {l : List ℕ} (m : List ℕ) → l ≡ fill i f m → length m ≡ n → i ≡ n → l ≡ tabulate n f
filled {n = n} f m e h g = e ∙ ap (λ (j : ℕ). fill j f m) g ∙ fill_all n f m (omega arith)

-- what stands at a place of a buffer that is filled to n
pub get_or_fill : (n : ℕ) (f : ℕ → ℕ) (l : List ℕ) (i d : ℕ) → i < n → get_or (fill n f l) i d ≡ f i
unfolding fill
get_or_fill n f l i d h =
    get_or-append (tabulate n f) (drop n l) d i (omega (arith, length_tabulate n f)) ∙ get_d_tabulate n f i d h

pub get_or_fill_past : (n : ℕ) (f : ℕ → ℕ) (l : List ℕ) (i d : ℕ) → n ≤ i → get_or (fill n f l) i d ≡ get_or l i d
unfolding fill
get_or_fill_past n f l i d h =
    let e : i ≡ length (tabulate n f) + (i - n) = omega (arith, length_tabulate n f) in
    let back : n + (i - n) ≡ i = omega arith in
    ap (λ (p : ℕ). get_or (tabulate n f ++ drop n l) p d) e
    ∙ get_or-append-add (tabulate n f) (drop n l) (i - n) d
    ∙ get_or-drop n l (i - n) d
    ∙ ap (λ (p : ℕ). get_or l p d) back

-- a buffer that is filled to n, and whose rest is a copy of another list
pub fill_paste : (n : ℕ) (f : ℕ → ℕ) (l m : List ℕ) → n + length m ≡ length l → paste (fill n f l) n m (length m) ≡ tabulate n f ++ m
unfolding fill
fill_paste n f l m e =
    let short : length (tabulate n f ++ drop n l) ≤ n + length m = simp (length-append, length_tabulate, length-drop) (omega arith) in
    rw (take_at (tabulate n f) (drop n l) n (length_tabulate n f), take-length m, drop_of_length-le (tabulate n f ++ drop n l) short, append-nil)

-- a list that is copied to the start of zeros
pub padded_copy : (n : ℕ) (l : List ℕ) → l ++ drop (length l) (replicate n 0) ≡ padded n l
padded_copy n l = ap (λ (z : List ℕ). l ++ z) (drop-replicate (length l) n 0)

-- what a loop that fills a buffer is proved by
pub ruleset fills = (fill_none, fill_turn, length_fill)
