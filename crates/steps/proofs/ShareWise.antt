-- The laws of linear maps on sharings: computed share by share they are computed on what the shares join to, and they keep agreement but for share u.
use mathlib.Core.Path.{◌≡◌, refl, sym, ap, ap₂, ◌∙◌, subst}
use mathlib.Core.List.{List, [], ◌∷◌, map}
use Prim.Native.Nat.{ℕ, zero, suc, max, ◌^◌, ◌≤◌, ◌<◌}
use native.Mathlib.Omega.{arith}
use lib.ListN.{length, replicate, length-map, get_or-map}
use lib.Pow.{pow_pos}
use Rattle.xor.specs.Xor.{◌⊕◌}
use Rattle.xor.specs.Sum.{join, Small}
use Rattle.xor.proofs.Xor.{⊕-zero, ⊕-self, ⊕-lt, ⊕-exchange}
use Rattle.xor.proofs.Sum.{small_tail, small_cons, join_nil, join_cons, join_small, join_zeros, additive_below_zero, join_map_below}
use Rattle.steps.specs.Sharing.{share, Sharing, Close}
use Rattle.steps.proofs.Sharing.{share_zeros, small_zeros, close_self}
use Rattle.steps.specs.Linear.{Linear, LinearPair}
use Rattle.steps.specs.Sharing.{share_wise, alone, held}

-- ---- one sharing

module _ {m n : ℕ} {f : ℕ → ℕ} (linear : Linear m n f) where
  pub share_map : (a : List ℕ) (i : ℕ) → share (map f a) i ≡ f (share a i)
  share_map a i = rw (additive_below_zero m f linear.additive) at (get_or-map f a i 0)

  pub sharing_map : {s x : ℕ} {a : List ℕ} → Sharing m s x a → Sharing n s (f x) (map f a)
  sharing_map {a = a} h =
      record {
        small = λ i. rw (share_map a i) (linear.small _ (h.small i));
        past = λ i l. share_map a i ∙ ap f (h.past i l) ∙ additive_below_zero m f linear.additive;
        joins = join_map_below m f linear.additive a h.small ∙ ap f h.joins;
      }

  pub close_map : {u : ℕ} {a b : List ℕ} → Close m u a b → Close n u (map f a) (map f b)
  close_map {a = a} {b} c =
      record {
        same_length = length-map a f ∙ c.same_length ∙ sym (length-map b f);
        agree = λ i g. share_map a i ∙ ap f (c.agree i g) ∙ sym (share_map b i);
        small = λ i. rw (share_map a i) (linear.small _ (c.small i));
        small' = λ i. rw (share_map b i) (linear.small _ (c.small' i));
      }

-- ---- two sharings

-- the length is that of the longer list
pub length_share_wise : (f : ℕ → ℕ → ℕ) (a b : List ℕ) → length (share_wise f a b) ≡ max (length a) (length b)
unfolding share_wise
length_share_wise f [] [] = refl
length_share_wise f [] (y ∷ b) = let h = length_share_wise f [] b in omega arith
length_share_wise f (x ∷ a) [] = let h = length_share_wise f a [] in omega arith
length_share_wise f (x ∷ a) (y ∷ b) = let h = length_share_wise f a b in omega arith

share_wise_at : (f : ℕ → ℕ → ℕ) → f 0 0 ≡ 0 → (a b : List ℕ) (i : ℕ) → share (share_wise f a b) i ≡ f (share a i) (share b i)
unfolding share_wise
share_wise_at f e [] [] i = sym e
share_wise_at f e [] (y ∷ b) zero = refl
share_wise_at f e [] (y ∷ b) (suc i) = share_wise_at f e [] b i
share_wise_at f e (x ∷ a) [] zero = refl
share_wise_at f e (x ∷ a) [] (suc i) = share_wise_at f e a [] i
share_wise_at f e (x ∷ a) (y ∷ b) zero = refl
share_wise_at f e (x ∷ a) (y ∷ b) (suc i) = share_wise_at f e a b i

module _ {l m n : ℕ} {f : ℕ → ℕ → ℕ} (linear : LinearPair l m n f) where
  pub linear_zero : f 0 0 ≡ 0
  linear_zero =
      sym (ap₂ f (⊕-zero 0) (⊕-zero 0)) ∙ linear.additive 0 0 0 0 (pow_pos l) (pow_pos l) (pow_pos m) (pow_pos m) ∙ ⊕-self (f 0 0)

  pub share_share_wise : (a b : List ℕ) (i : ℕ) → share (share_wise f a b) i ≡ f (share a i) (share b i)
  share_share_wise = share_wise_at f linear_zero

  added : (x y v w : ℕ) → x < 2 ^ l → y < 2 ^ l → v < 2 ^ m → w < 2 ^ m → {j : ℕ} → j ≡ f y w → f x v ⊕ j ≡ f (x ⊕ y) (v ⊕ w)
  added x y v w hx hy hv hw e = rw e (sym (linear.additive x y v w hx hy hv hw))

  join_share_wise : (a b : List ℕ) → Small l a → Small m b → join (share_wise f a b) ≡ f (join a) (join b)
  unfolding share_wise join
  join_share_wise [] [] ha hb = sym linear_zero
  join_share_wise [] (y ∷ b) ha hb =
      let hb' = small_tail m y b hb in
      added 0 0 y (join b) (pow_pos l) (pow_pos l) (hb 0) (join_small m b hb') (join_share_wise [] b ha hb')
      ∙ ap (λ (v : ℕ). f v (y ⊕ join b)) (⊕-zero 0)
  join_share_wise (x ∷ a) [] ha hb =
      let ha' = small_tail l x a ha in
      added x (join a) 0 0 (ha 0) (join_small l a ha') (pow_pos m) (pow_pos m) (join_share_wise a [] ha' hb)
      ∙ ap (λ (v : ℕ). f (x ⊕ join a) v) (⊕-zero 0)
  join_share_wise (x ∷ a) (y ∷ b) ha hb =
      let ha' = small_tail l x a ha in
      let hb' = small_tail m y b hb in
      added x (join a) y (join b) (ha 0) (join_small l a ha') (hb 0) (join_small m b hb') (join_share_wise a b ha' hb')

  pub sharing_share_wise : {s x y : ℕ} {a b : List ℕ} → Sharing l s x a → Sharing m s y b → Sharing n s (f x y) (share_wise f a b)
  sharing_share_wise {a = a} {b} h k =
      record {
        small = λ i. rw (share_share_wise a b i) (linear.small _ _ (h.small i) (k.small i));
        past = λ i g. share_share_wise a b i ∙ ap₂ f (h.past i g) (k.past i g) ∙ linear_zero;
        joins = join_share_wise a b h.small k.small ∙ ap₂ f h.joins k.joins;
      }

  pub close_share_wise : {u : ℕ} {a a' b b' : List ℕ} → Close l u a a' → Close m u b b' → Close n u (share_wise f a b) (share_wise f a' b')
  close_share_wise {a = a} {a'} {b} {b'} h k =
      record {
        same_length = length_share_wise f a b ∙ ap₂ max h.same_length k.same_length ∙ sym (length_share_wise f a' b');
        agree = λ i g. share_share_wise a b i ∙ ap₂ f (h.agree i g) (k.agree i g) ∙ sym (share_share_wise a' b' i);
        small = λ i. rw (share_share_wise a b i) (linear.small _ _ (h.small i) (k.small i));
        small' = λ i. rw (share_share_wise a' b' i) (linear.small _ _ (h.small' i) (k.small' i));
      }

-- sums of shares
pub sum_linear : (n : ℕ) → LinearPair n n n ◌⊕◌
sum_linear n = record { additive = λ x y v w hx hy hv hw. ⊕-exchange x y v w; small = λ x v hx hv. ⊕-lt n hx hv }

-- ---- a sharing in nine places

pub share_held : (a : List ℕ) (i : ℕ) → share (held a) i ≡ share a i
unfolding held
share_held a i = share_wise_at ◌⊕◌ (⊕-zero 0) a (replicate 9 0) i ∙ ap (λ (x : ℕ). share a i ⊕ x) (share_zeros 9 i) ∙ ⊕-zero (share a i)

pub length_held : (a : List ℕ) → length a ≤ 9 → length (held a) ≡ 9
unfolding held
length_held a l = let h = length_share_wise ◌⊕◌ a (replicate 9 0) in omega arith

pub sharing_held : {n s x : ℕ} {a : List ℕ} → Sharing n s x a → Sharing n s x (held a)
unfolding held
sharing_held {n} {s} {x} {a} h =
    subst (λ (y : ℕ). Sharing n s y (share_wise ◌⊕◌ a (replicate 9 0))) (⊕-zero x)
    (sharing_share_wise (sum_linear n) h (record { small = small_zeros n 9; past = λ i l. share_zeros 9 i; joins = join_zeros 9 }))

pub close_held : {n u : ℕ} {a b : List ℕ} → Close n u a b → Close n u (held a) (held b)
unfolding held
close_held {n} {u} c = close_share_wise (sum_linear n) c (close_self n u (replicate 9 0) (small_zeros n 9))

-- ---- a number that is all in share 0

alone_small : (n : ℕ) {c : ℕ} → c < 2 ^ n → Small n (alone c)
unfolding alone
alone_small n {c} h = small_cons n c [] h (λ i. pow_pos n)

pub sharing_alone : {n s c : ℕ} → 0 < s → c < 2 ^ n → Sharing n s c (alone c)
unfolding alone
sharing_alone {n} {s} {c} k h =
    record { small = alone_small n h; past = at; joins = join_cons c [] ∙ ap (λ (x : ℕ). c ⊕ x) join_nil ∙ ⊕-zero c }
  where
    at : (i : ℕ) → s ≤ i → share (c ∷ []) i ≡ 0
    at zero l = absurd (omega arith)
    at (suc i) l = refl

pub close_alone : (n u : ℕ) {c : ℕ} → c < 2 ^ n → Close n u (alone c) (alone c)
close_alone n u {c} h = close_self n u (alone c) (alone_small n h)
