-- The laws of sums of lists.
use mathlib.Core.Path.{◌≡◌, refl, sym, ap, ap₂, ◌∙◌}
use mathlib.Core.Logic.{◌≢◌}
use mathlib.Core.List.{List, [], ◌∷◌, ◌++◌, map}
use Prim.Native.Nat.{ℕ, zero, suc, ◌+◌, ◌^◌, ◌<◌}
use native.Mathlib.Nat.{not-suc-le-zero, le_of_suc-le-suc}
use native.Mathlib.Omega.{arith}
use lib.Pow.{pow_pos}
use lib.Seq.{get_or-set_other, lt-length-set, get_or-drop}
use lib.ListN.{length, get_or, set, replicate, take, drop}
use Rattle.xor.specs.Xor.{◌⊕◌}
use Rattle.xor.specs.Sum.{join, sum_of, add_lists, Small, Additive, AdditiveBelow}
use Rattle.xor.proofs.Xor.{⊕-assoc, ⊕-zero, zero_⊕, ⊕-self, ⊕-lt, ⊕-cancel, ⊕-exchange, xor}

-- ---- lists of small elements

pub small_head : (n a : ℕ) (l : List ℕ) → Small n (a ∷ l) → a < 2 ^ n
small_head n a l h = h 0

pub small_tail : (n a : ℕ) (l : List ℕ) → Small n (a ∷ l) → Small n l
small_tail n a l h i = h (suc i)

pub small_cons : (n a : ℕ) (l : List ℕ) → a < 2 ^ n → Small n l → Small n (a ∷ l)
small_cons n a l h t zero = h
small_cons n a l h t (suc i) = t i

pub small_append : (n : ℕ) (l m : List ℕ) → Small n l → Small n m → Small n (l ++ m)
small_append n [] m hl hm i = hm i
small_append n (a ∷ l) m hl hm zero = hl 0
small_append n (a ∷ l) m hl hm (suc i) = small_append n l m (small_tail n a l hl) hm i

pub small_take : (n k : ℕ) (l : List ℕ) → Small n l → Small n (take k l)
small_take n zero l h i = pow_pos n
small_take n (suc k) [] h i = pow_pos n
small_take n (suc k) (a ∷ l) h zero = h 0
small_take n (suc k) (a ∷ l) h (suc i) = small_take n k l (small_tail n a l h) i

pub small_drop : (n k : ℕ) (l : List ℕ) → Small n l → Small n (drop k l)
small_drop n k l h i = rw (get_or-drop k l i 0) (h (k + i))

-- ---- sums of the values of a function

pub sum_of_same : (k : ℕ) {f g : ℕ → ℕ} → ((i : ℕ) → i < k → f i ≡ g i) → sum_of k f ≡ sum_of k g
unfolding sum_of
sum_of_same zero h = refl
sum_of_same (suc k) h = ap₂ ◌⊕◌ (sum_of_same k (λ i l. h i (omega arith))) (h k (omega arith))

-- ---- the joined value

pub join_nil : join [] ≡ 0
unfolding join
join_nil = refl

pub join_cons : (a : ℕ) (l : List ℕ) → join (a ∷ l) ≡ a ⊕ join l
unfolding join
join_cons a l = refl

pub join_small : (n : ℕ) (l : List ℕ) → Small n l → join l < 2 ^ n
unfolding join
join_small n [] h = pow_pos n
join_small n (a ∷ l) h = ⊕-lt n (small_head n a l h) (join_small n l (small_tail n a l h))

pub join_append : (l m : List ℕ) → join (l ++ m) ≡ join l ⊕ join m
unfolding join
join_append [] m = sym (zero_⊕ (join m))
join_append (a ∷ l) m = ap (λ (x : ℕ). a ⊕ x) (join_append l m) ∙ sym (⊕-assoc a (join l) (join m))

pub join_add_lists : (l m : List ℕ) → length l ≡ length m → join (add_lists l m) ≡ join l ⊕ join m
unfolding join add_lists
join_add_lists [] [] e = sym (⊕-zero 0)
join_add_lists [] (b ∷ m) e = absurd (omega arith)
join_add_lists (a ∷ l) [] e = absurd (omega arith)
join_add_lists (a ∷ l) (b ∷ m) e =
    ap (λ (x : ℕ). (a ⊕ b) ⊕ x) (join_add_lists l m (omega arith)) ∙ ⊕-exchange a b (join l) (join m)

pub join_zeros : (n : ℕ) → join (replicate n 0) ≡ 0
unfolding join
join_zeros zero = refl
join_zeros (suc n) = ap (λ (x : ℕ). 0 ⊕ x) (join_zeros n) ∙ zero_⊕ 0

-- share 0 is the value plus the masks, the others are the masks: joined, the value
pub join_split : (v : ℕ) (masks : List ℕ) → join (v ⊕ join masks ∷ masks) ≡ v
join_split v masks = join_cons (v ⊕ join masks) masks ∙ simp xor

-- shares are those that the joined value and the shares after the first give
pub split_join : (a : ℕ) (masks : List ℕ) → a ∷ masks ≡ join (a ∷ masks) ⊕ join masks ∷ masks
split_join a masks =
    let e : a ≡ (a ⊕ join masks) ⊕ join masks = simp xor in
    ap (λ (y : ℕ). y ∷ masks) (e ∙ ap (λ (y : ℕ). y ⊕ join masks) (sym (join_cons a masks)))

-- and no other value and masks give them
pub split_once : (v w : ℕ) (masks others : List ℕ) → v ⊕ join masks ∷ masks ≡ w ⊕ join others ∷ others → (v ≡ w) × (masks ≡ others)
split_once v w masks others e = (sym (join_split v masks) ∙ ap join e ∙ join_split w others, cc e)

-- ---- shares that change

-- one share set: its old value goes and the new one comes
pub join_set : (l : List ℕ) (i v : ℕ) → i < length l → join (set l i v) ≡ join l ⊕ (get_or l i 0 ⊕ v)
unfolding join
join_set [] i v h = absurd (not-suc-le-zero h)
join_set (a ∷ l) zero v h = replaced a v (join l)
  where
    replaced : (a v j : ℕ) → v ⊕ j ≡ (a ⊕ j) ⊕ (a ⊕ v)
    replaced a v j = simp xor
join_set (a ∷ l) (suc i) v h = ap (λ (x : ℕ). a ⊕ x) (join_set l i v (le_of_suc-le-suc h)) ∙ sym (⊕-assoc a (join l) (get_or l i 0 ⊕ v))

-- x added to one share
pub join_add_at : (l : List ℕ) (i x : ℕ) → i < length l → join (set l i (get_or l i 0 ⊕ x)) ≡ join l ⊕ x
join_add_at l i x h = join_set l i (get_or l i 0 ⊕ x) h ∙ ap (λ (y : ℕ). join l ⊕ y) (⊕-cancel (get_or l i 0) x)

-- x added to one share and y to another
pub join_add_two : (l : List ℕ) (i j x y : ℕ) → i < length l → j < length l → j ≢ i
    → join (set (set l i (get_or l i 0 ⊕ x)) j (get_or l j 0 ⊕ y)) ≡ join l ⊕ (x ⊕ y)
join_add_two l i j x y hi hj ne =
    ap (λ (v : ℕ). join (set (set l i (get_or l i 0 ⊕ x)) j (v ⊕ y))) (sym (get_or-set_other l i j (get_or l i 0 ⊕ x) 0 ne))
    ∙ join_add_at (set l i (get_or l i 0 ⊕ x)) j y (lt-length-set l i (get_or l i 0 ⊕ x) hj)
    ∙ ap (λ (v : ℕ). v ⊕ y) (join_add_at l i x hi)
    ∙ ⊕-assoc (join l) x y

-- ---- additive functions

pub additive_below : (n : ℕ) (f : ℕ → ℕ) → Additive f → AdditiveBelow n f
additive_below n f h a b ha hb = h a b

pub additive_below_zero : (n : ℕ) (f : ℕ → ℕ) → AdditiveBelow n f → f 0 ≡ 0
additive_below_zero n f h =
    sym (⊕-cancel (f 0) (f 0)) ∙ ap (λ (x : ℕ). f 0 ⊕ x) (sym (h 0 0 (pow_pos n) (pow_pos n)) ∙ ap f (⊕-zero 0)) ∙ ⊕-self (f 0)

pub additive_zero : (f : ℕ → ℕ) → Additive f → f 0 ≡ 0
additive_zero f h = additive_below_zero 0 f (additive_below 0 f h)

-- an additive function is computed share by share
pub join_map_below : (n : ℕ) (f : ℕ → ℕ) → AdditiveBelow n f → (l : List ℕ) → Small n l → join (map f l) ≡ f (join l)
unfolding join
join_map_below n f h [] s = sym (additive_below_zero n f h)
join_map_below n f h (a ∷ l) s =
    ap (λ (x : ℕ). f a ⊕ x) (join_map_below n f h l (small_tail n a l s))
    ∙ sym (h a (join l) (small_head n a l s) (join_small n l (small_tail n a l s)))

pub join_map : (f : ℕ → ℕ) → Additive f → (l : List ℕ) → join (map f l) ≡ f (join l)
unfolding join
join_map f h [] = sym (additive_zero f h)
join_map f h (a ∷ l) = ap (λ (x : ℕ). f a ⊕ x) (join_map f h l) ∙ sym (h a (join l))
