-- The powers that the S-box makes are those by the listed exponents: their shape, and what they join to.
use mathlib.Core.Path.{◌≡◌, refl, ap, ◌∙◌}
use mathlib.Core.List.{List, [], ◌∷◌, ◌++◌, flatten, append_assoc}
use Prim.Native.Nat.{ℕ, zero, suc, ◌+◌, ◌-◌, ◌^◌, ◌≤◌, ◌<◌}
use native.Mathlib.Omega.{arith}
use lib.ListN.{length, get_or, drop}
use Rattle.field.specs.Mul.{Ring}
use Rattle.field.specs.Power.{pow}
use Rattle.field.specs.Power as Power
use Rattle.field.specs.Polynomial.{classes, class, exponents}
use Rattle.field.proofs.Power.{pow_one, pow_add}
use Rattle.field.proofs.Inverses.{field_of}
use Rattle.field.proofs.Polynomial.{class_squares}
use Rattle.decomposition.specs.Layout.{Known}
use Rattle.decomposition.proofs.Sizes.{known_both, known_width, known_narrow}
use Rattle.steps.specs.Shape.{Shaped, shaped_return}
use Rattle.steps.specs.Sharing.{Sharing}
use Rattle.steps.proofs.Shape.{shaped_bind, shaped_map, shaped_weaken}
use Rattle.product.specs.Product.{product, product_shape}
use Rattle.product.proofs.Shape.{shaped_product}
use Rattle.sbox.specs.Sbox.{factors, classes_after, powers}
use Rattle.product.specs.ByShare.{nth, squares}
use Rattle.sbox.specs.Shape.{class_shape, powers_shape}
use Rattle.product.specs.ByShare.{times, square_shape}
use Rattle.product.proofs.ByShare.{shaped_square}

-- ---- lists of sharings

-- R holds of two lists place by place
pub data Each {A : Type 0} (R : A → List ℕ → Type 0) : List A → List (List ℕ) → Type 0 where
  each_nil : Each R [] []
  each_cons : {x : A} {a : List ℕ} {xs : List A} {l : List (List ℕ)} → R x a → Each R xs l → Each R (x ∷ xs) (a ∷ l)

pub each_append : {A : Type 0} {R : A → List ℕ → Type 0} {xs ys : List A} {l m : List (List ℕ)}
    → Each R xs l → Each R ys m → Each R (xs ++ ys) (l ++ m)
each_append each_nil k = k
each_append (each_cons r h) k = each_cons r (each_append h k)

pub each_nth : {A : Type 0} {R : A → List ℕ → Type 0} {xs : List A} {l : List (List ℕ)} → Each R xs l
    → (d : A) (i : ℕ) → i < length xs → R (get_or xs i d) (nth l i)
each_nth each_nil d i k = absurd (omega arith)
each_nth (each_cons r h) d zero k = r
each_nth (each_cons r h) d (suc i) k = each_nth h d i (omega arith)

-- ---- the classes of the listed exponents

-- Of the exponents es there are powers. Each pair of factors gives the first power of the next class, and in the end there are all.
data Follows (n : ℕ) (all : List ℕ) : List ℕ → List (ℕ × ℕ) → Type 0 where
  follows_none : Follows n all all []
  follows_class : {es : List ℕ} {f : ℕ × ℕ} {fs : List (ℕ × ℕ)} (c k : ℕ) → length es ≡ k → f.0 < k → f.1 < k
      → length (class n c) ≡ suc (n - 1) → get_or es f.0 0 + get_or es f.1 0 ≡ get_or (class n c) 0 0
      → Follows n all (es ++ class n c) fs → Follows n all es (f ∷ fs)

-- the exponents but the first, and that the list is 0 and these
unfoldable pub later_exponents : ℕ → List ℕ
later_exponents n = drop 1 (exponents n)

-- what the S-box takes from the list
record Listed (n : ℕ) : Type 0 where
  long : length (class n 1) ≡ suc (n - 1)
  at_0 : get_or (class n 1) 0 0 ≡ 1
  further : Follows n (later_exponents n) (class n 1) (factors n)
  order : exponents n ≡ 0 ∷ later_exponents n

lists : (n : ℕ) → Known n → Listed n
unfolding classes exponents flatten later_exponents factors
lists =
    known_both Listed
    (record { long = refl; at_0 = refl; further = follows_class 2 4 refl (omega arith) (omega arith) refl refl follows_none; order = refl })
    (record {
      long = refl;
      at_0 = refl;
      further = follows_class 2 6 refl (omega arith) (omega arith) refl refl
          (follows_class 3 12 refl (omega arith) (omega arith) refl refl follows_none);
      order = refl;
    })

pub exponents_later : (n : ℕ) → Known n → exponents n ≡ 0 ∷ later_exponents n
exponents_later n w = (lists n w).order

pub length_later : (n : ℕ) → Known n → length (exponents n) - 1 ≡ length (later_exponents n)
length_later n w = ap (λ (es : List ℕ). length es - 1) (exponents_later n w) ∙ omega arith

-- ---- the shape

-- a is a sharing of x to the power e
abbrev pub IsPower : ℕ → ℕ → ℕ → ℕ → List ℕ → Type 0
IsPower n s x e a = Sharing n s (pow n x e) a

module _ {n : ℕ} (w : Known n) (s x : ℕ) (nine : s ≤ 9) (h : x < 2 ^ n) where
  ring : Ring n
  ring = (field_of n (known_width n w)).ring

  -- the squares of a power, where each exponent in the list is that of the square of the one before
  shaped_squares : (k : ℕ) (es : List ℕ) {a : List ℕ} → length es ≡ suc k
      → ((i : ℕ) → suc i < length es → pow n x (get_or es (suc i) 0) ≡ Power.square n (pow n x (get_or es i 0)))
      → IsPower n s x (get_or es 0 0) a → Shaped (Each (IsPower n s x) es) (times k (square_shape s)) (squares n s k a)
  unfolding squares times
  shaped_squares k [] l next g = absurd (omega arith)
  shaped_squares zero (e ∷ []) l next g = shaped_return (each_cons g each_nil)
  shaped_squares zero (e ∷ f ∷ es) l next g = absurd (omega arith)
  shaped_squares (suc k) (e ∷ []) l next g = absurd (omega arith)
  shaped_squares (suc k) (e ∷ f ∷ es) {a} l next g =
      shaped_bind (shaped_square ring s nine g) λ b p.
      shaped_map (λ m. a ∷ m)
      (shaped_squares k (f ∷ es) (omega arith) (λ i m. next (suc i) (omega arith)) (rw (next 0 (omega arith)) p))
      (λ m q. each_cons g q)

  -- the powers of class c, from the first of them
  shaped_class : (c : ℕ) {a : List ℕ} → length (class n c) ≡ suc (n - 1) → IsPower n s x (get_or (class n c) 0 0) a
      → Shaped (Each (IsPower n s x) (class n c)) (times (n - 1) (square_shape s)) (squares n s (n - 1) a)
  shaped_class c l g = shaped_squares (n - 1) (class n c) l (λ i k. class_squares n (known_narrow n w) c i x h k) g

  -- the product of x to the powers d and e
  shaped_power : (d e : ℕ) {a b : List ℕ} → IsPower n s x d a → IsPower n s x e b
      → Shaped (IsPower n s x (d + e)) (product_shape n s) (product n s a b)
  shaped_power d e {a} {b} p q =
      shaped_weaken (shaped_product ring s (pow n x d) (pow n x e) a b nine p q) (λ c r. rw (pow_add ring x d e h) r.1)

  -- the classes that follow
  shaped_classes : {es : List ℕ} {fs : List (ℕ × ℕ)} {ws : List (List ℕ)} → Follows n (later_exponents n) es fs → Each (IsPower n s x) es ws
      → Shaped (Each (IsPower n s x) (later_exponents n)) (times (length fs) (class_shape n s)) (classes_after n s fs ws)
  unfolding classes_after times class_shape
  shaped_classes follows_none h = shaped_return h
  shaped_classes {es} (follows_class {f = f} c k l p q long first next) h =
      rw append_assoc
      (shaped_bind (shaped_power (get_or es f.0 0) (get_or es f.1 0) (each_nth h 0 f.0 (rw l p)) (each_nth h 0 f.1 (rw l q))) λ y hy.
      shaped_bind (shaped_class c long (rw (← first) hy)) λ ys hys. shaped_classes next (each_append h hys))

  -- the powers by the exponents but the first, in order
  pub shaped_powers : {a : List ℕ} → Sharing n s x a → Shaped (Each (IsPower n s x) (later_exponents n)) (powers_shape n s) (powers n s a)
  unfolding powers powers_shape
  shaped_powers {a} g =
      let L = lists n w in
      shaped_bind (shaped_class 1 L.long (rw (L.at_0, pow_one ring x) g)) λ xs hx. shaped_classes L.further hx
