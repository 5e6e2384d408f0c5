-- The laws of splitting: the shape, what a split joins to, and that two secrets split are coupled at each share.
use mathlib.Core.Path.{◌≡◌, refl, sym, ap, ◌∙◌}
use mathlib.Core.Logic.{◌≢◌}
use mathlib.Core.List.{List, [], ◌∷◌, ◌++◌}
use Prim.Native.Nat.{ℕ, zero, suc, ◌+◌, ◌-◌, ◌*◌, ◌^◌, ◌<◌}
use native.Mathlib.Nat.{suc-mul, add_comm}
use native.Mathlib.Omega.{arith}
use lib.ListN.{length, get_or, replicate, replicate-append-replicate, get_or-eq_default}
use lib.Pow.{pow_pos}
use Rattle.xor.specs.Xor.{◌⊕◌}
use Rattle.xor.specs.Sum.{join, Small}
use Rattle.xor.proofs.Xor.{⊕-lt, ⊕-zero, xor}
use Rattle.xor.proofs.Sum.{small_head, small_tail, small_cons, join_nil, join_cons, join_small, join_split}
use Rattle.steps.specs.Program.{Run, return, ◌>>=◌, random, first, later, trace}
use Rattle.steps.specs.Shape.{draw_of, touches_of, bits_of, Shaped, shaped_return, shaped_draw}
use Rattle.steps.specs.Coupling.{Coupled, coupled_return, coupled_draw}
use Rattle.steps.specs.Sharing.{Sharing, Close, CloseAll, close_nil, close_cons}
use Rattle.steps.specs.Split.{masks, split, split_all}
use Rattle.steps.proofs.Program.{bind_bind}
use Rattle.steps.proofs.Shape.{shaped_bind, shaped_map}
use Rattle.steps.proofs.Coupling.{coupled_bind, coupled_self}

-- ---- the shape, and what a split joins to

-- k elements below 2 ^ n
record Masks (n k : ℕ) (l : List ℕ) : Type 0 where
  long : length l ≡ k
  small : Small n l

shaped_masks : (n k : ℕ) → Shaped (Masks n k) (replicate k (draw_of n)) (masks n k)
unfolding masks random ◌>>=◌
shaped_masks n zero = shaped_return (record { long = refl; small = λ i. pow_pos n })
shaped_masks n (suc k) =
    shaped_draw λ r h.
    shaped_map (λ (l : List ℕ). r ∷ l) (shaped_masks n k) (λ l m. record { long = ap suc m.long; small = small_cons n r l h m.small })

pub shaped_split : (n s x : ℕ) → 0 < s → x < 2 ^ n → Shaped (Sharing n s x) (replicate (s - 1) (draw_of n)) (split n s x)
unfolding split
shaped_split n s x k h =
    shaped_map (λ (l : List ℕ). x ⊕ join l ∷ l) (shaped_masks n (s - 1)) (λ l m. record {
      small = small_cons n (x ⊕ join l) l (⊕-lt n h (join_small n l m.small)) m.small;
      past = λ i g. get_or-eq_default (x ⊕ join l ∷ l) 0 {n = i} (omega (arith, m.long));
      joins = join_split x l;
    })

-- a tape that begins with the masks: they are read first, and what is made of the shares goes on from there
masks_trace : {A : Type 0} (n : ℕ) (l tape : List ℕ) (f : List ℕ → Run A) → trace (masks n (length l) >>= f) (l ++ tape) ≡ trace (f l) tape
unfolding masks random ◌>>=◌ trace first later
masks_trace n [] tape f = refl
masks_trace n (r ∷ l) tape f =
    ap (λ m. trace m (l ++ tape)) (bind_bind (masks n (length l)) (λ m. return (r ∷ m)) f) ∙ masks_trace n l tape (λ m. f (r ∷ m))

pub split_trace : {A : Type 0} (n s x : ℕ) (l tape : List ℕ) (f : List ℕ → Run A) → length l ≡ s - 1
    → trace (split n s x >>= f) (l ++ tape) ≡ trace (f (x ⊕ join l ∷ l)) tape
unfolding split ◌>>=◌
split_trace n s x l tape f e =
    ap (λ m. trace m (l ++ tape)) (bind_bind (masks n (s - 1)) (λ l. return (x ⊕ join l ∷ l)) f)
    ∙ rw (← e) (masks_trace n l tape (λ l. f (x ⊕ join l ∷ l)))

-- ---- two secrets

-- masks that are the same on both sides
record Same (n : ℕ) (a b : List ℕ) : Type 0 where
  same : a ≡ b
  small : Small n a

same_masks : (n u k : ℕ) → Coupled u (Same n) (masks n k) (masks n k)
same_masks n u k = coupled_self u (shaped_masks n k) (λ l m. record { same = refl; small = m.small })

-- masks of which number p differs, by d
record Moved (n p d : ℕ) (a b : List ℕ) : Type 0 where
  close : Close n p a b
  moved : join b ≡ join a ⊕ d

-- a new first share that differs
close_head : {n v w : ℕ} {a b : List ℕ} → v < 2 ^ n → w < 2 ^ n → Same n a b → Close n 0 (v ∷ a) (w ∷ b)
close_head {n} {v} {w} {a} {b} h k e =
    record {
      same_length = ap (λ (l : List ℕ). suc (length l)) e.same;
      agree = at;
      small = small_cons n v a h e.small;
      small' = small_cons n w b k (rw e.same at e.small);
    }
  where
    at : (i : ℕ) → i ≢ 0 → get_or (v ∷ a) i 0 ≡ get_or (w ∷ b) i 0
    at zero f = absurd (f refl)
    at (suc i) f = ap (λ (l : List ℕ). get_or l i 0) e.same

-- a new first share that is the same
close_tail : {n p v w : ℕ} {a b : List ℕ} → v ≡ w → v < 2 ^ n → Close n p a b → Close n (suc p) (v ∷ a) (w ∷ b)
close_tail {n} {p} {v} {w} {a} {b} e h c =
    record {
      same_length = ap suc c.same_length;
      agree = at;
      small = small_cons n v a h c.small;
      small' = small_cons n w b (rw e at h) c.small';
    }
  where
    at : (i : ℕ) → i ≢ suc p → get_or (v ∷ a) i 0 ≡ get_or (w ∷ b) i 0
    at zero f = e
    at (suc i) f = c.agree i (λ q. f (ap suc q))

-- mask p is drawn shifted by d, the others are not
moved_masks : (n u k p d : ℕ) → d < 2 ^ n → p < k → Coupled u (Moved n p d) (masks n k) (masks n k)
unfolding masks random ◌>>=◌
moved_masks n u zero p d h l = absurd (omega arith)
moved_masks n u (suc k) zero d h l =
    coupled_draw d h λ r g.
    coupled_bind (same_masks n u k) λ a b e.
    coupled_return (record {
      close = close_head g (⊕-lt n g h) e;
      moved = rw (join_cons (r ⊕ d) b, join_cons r a, ← e.same) (simp xor);
    })
moved_masks n u (suc k) (suc p) d h l =
    coupled_draw 0 (pow_pos n) λ r g.
    coupled_bind (moved_masks n u k p d h (omega arith)) λ a b e.
    coupled_return (record {
      close = close_tail (sym (⊕-zero r)) g e.close;
      moved = rw (join_cons (r ⊕ 0) b, join_cons r a, e.moved) (simp xor);
    })

-- Two secrets, split, are coupled at any share u: if u is 0 the same masks serve, else mask u - 1 takes up the difference.
pub coupled_split : (n s x y u : ℕ) → x < 2 ^ n → y < 2 ^ n → u < s → Coupled u (Close n u) (split n s x) (split n s y)
unfolding split
coupled_split n s x y zero hx hy l =
    coupled_bind (same_masks n zero (s - 1)) λ a b e.
    coupled_return (close_head (⊕-lt n hx (join_small n a e.small)) (⊕-lt n hy (join_small n b (rw e.same at e.small))) e)
coupled_split n s x y (suc p) hx hy l =
    coupled_bind (moved_masks n (suc p) (s - 1) p (x ⊕ y) (⊕-lt n hx hy) (omega arith)) λ a b e.
    let same : x ⊕ join a ≡ y ⊕ join b = rw e.moved (simp xor) in
    coupled_return (close_tail same (⊕-lt n hx (join_small n a e.close.small)) e.close)

-- ---- several secrets of n bits, split one after the other

-- sharing k is one of secret k; past the last it is an empty sharing of 0
pub shaped_split_all : (n s : ℕ) (xs : List ℕ) → 0 < s → Small n xs
    → Shaped (λ l. (k : ℕ) → Sharing n s (get_or xs k 0) (get_or l k [])) (replicate (length xs * (s - 1)) (draw_of n)) (split_all n s xs)
unfolding split_all
shaped_split_all n s [] l h =
    let e : 0 * (s - 1) ≡ 0 = omega arith in
    rw e (shaped_return (λ k. record { small = λ i. pow_pos n; past = λ i g. refl; joins = join_nil }))
shaped_split_all n s (x ∷ xs) l h =
    let e : suc (length xs) * (s - 1) ≡ (s - 1) + length xs * (s - 1) = suc-mul (length xs) (s - 1) ∙ add_comm (length xs * (s - 1)) (s - 1) in
    rw (e, ← replicate-append-replicate (s - 1) (length xs * (s - 1)) (draw_of n))
    (shaped_bind (shaped_split n s x l (small_head n x xs h))
    (λ a ha. shaped_map (λ m. a ∷ m) (shaped_split_all n s xs l (small_tail n x xs h)) (λ m hm. sharings a m ha hm)))
  where
    sharings : (a : List ℕ) (m : List (List ℕ)) → Sharing n s x a → ((k : ℕ) → Sharing n s (get_or xs k 0) (get_or m k []))
        → (k : ℕ) → Sharing n s (get_or (x ∷ xs) k 0) (get_or (a ∷ m) k [])
    sharings a m ha hm zero = ha
    sharings a m ha hm (suc k) = hm k

pub coupled_split_all : (n s u : ℕ) (xs ys : List ℕ) → u < s → length xs ≡ length ys → Small n xs → Small n ys
    → Coupled u (CloseAll n u) (split_all n s xs) (split_all n s ys)
unfolding split_all
coupled_split_all n s u [] [] l e hx hy = coupled_return close_nil
coupled_split_all n s u [] (y ∷ ys) l e hx hy = absurd (omega arith)
coupled_split_all n s u (x ∷ xs) [] l e hx hy = absurd (omega arith)
coupled_split_all n s u (x ∷ xs) (y ∷ ys) l e hx hy =
    coupled_bind (coupled_split n s x y u (small_head n x xs hx) (small_head n y ys hy) l) λ a b c.
    coupled_bind (coupled_split_all n s u xs ys l (omega arith) (small_tail n x xs hx) (small_tail n y ys hy)) λ k m d.
    coupled_return (close_cons c d)

-- ---- the draws of splitting, and no step

pub draws_bits : (n k : ℕ) → bits_of (replicate k (draw_of n)) ≡ replicate k n
unfolding bits_of
draws_bits n zero = refl
draws_bits n (suc k) = ap (λ (l : List ℕ). n ∷ l) (draws_bits n k)

pub draws_touches : (n k : ℕ) → touches_of (replicate k (draw_of n)) ≡ []
unfolding touches_of
draws_touches n zero = refl
draws_touches n (suc k) = draws_touches n k
