-- Sharings made share by share: what they join to, their shape, and that they are coupled.
use mathlib.Core.Path.{◌≡◌, refl, sym, ap, ap₂, ◌∙◌, subst}
use mathlib.Core.List.{List}
use Prim.Native.Nat.{ℕ, zero, suc, ◌+◌, ◌-◌, ◌*◌, ◌^◌, ◌≤◌, ◌<◌}
use native.Mathlib.Nat.{zero-mul, suc-mul}
use native.Mathlib.Omega.{arith}
use lib.ListN.{length, replicate}
use lib.Pow.{pow_pos}
use Rattle.xor.specs.Xor.{◌⊕◌}
use Rattle.xor.specs.Sum.{AdditiveBelow}
use Rattle.xor.proofs.Xor.{⊕-assoc, ⊕-zero, ⊕-lt}
use Rattle.steps.specs.Program.{Run, one, for}
use Rattle.field.specs.Mul.{mul, Ring}
use Rattle.field.specs.Power as Power
use Rattle.field.proofs.Power.{square_add, square_small}
use Rattle.field.proofs.Ring.{mul_small}
use Rattle.steps.specs.Shape.{Shape, bits_of, Counting, Uniform, for_shape, Shaped}
use Rattle.steps.specs.Coupling.{Coupled, coupled_return}
use Rattle.steps.specs.Sharing.{share, Sharing, Filled, CloseAt, Close, CloseAll, close_nil, close_cons}
use Rattle.steps.proofs.Shape.{shaped_for, shaped_weaken, shaped_note, uniform_append}
use Rattle.steps.proofs.Coupling.{coupled_bind, coupled_for}
use Rattle.steps.proofs.Sharing.{loop_sum, for_sum, for_sum_turn, for_sum_end, for_sum_same, for_sum_add, for_sum_map, join_for}
use Rattle.steps.proofs.Sharing.{filled_none, filled_sharing, shaped_store, close_self, small_zeros, coupled_store, close_at, coupled_note}
use Rattle.product.specs.ByShare.{by_share, constant, square, squares, times, square_shape}

-- ---- sums

-- a sum of zeros
pub for_sum_none : (i s : ℕ) (f : ℕ → ℕ) → ((j : ℕ) → i ≤ j → f j ≡ 0) → for_sum i s f ≡ 0
for_sum_none i s f h =
    for_sum_same i s f (λ j. 0) (λ j l k. h j l) ∙ for_sum_map 0 (λ v. 0) (λ a b k l. sym (⊕-zero 0)) i s (λ j. 0) (λ j. pow_pos 0)

-- a sum without its first term
pub for_sum_head : (k : ℕ) (f : ℕ → ℕ) → for_sum 0 (suc k) f ≡ f 0 ⊕ for_sum 0 k (λ r. f (r + 1))
unfolding for_sum loop_sum
for_sum_head k f =
    let e : suc k - 1 ≡ k - 0 = omega arith in
    for_sum_turn 0 (suc k) f (omega arith) ∙ ap (λ (v : ℕ). f 0 ⊕ v) (ap (loop_sum f 1) e ∙ shift 0 (k - 0))
  where
    shift : (i k : ℕ) → loop_sum f (i + 1) k ≡ loop_sum (λ r. f (r + 1)) i k
    shift i zero = refl
    shift i (suc k) = ap (λ (v : ℕ). f (i + 1) ⊕ v) (shift (i + 1) k)

-- ---- elements, one for each share

-- f 0 to f (s - 1) are elements of n bits that add up to v
pub record Adds (n s : ℕ) (f : ℕ → ℕ) (v : ℕ) : Type 0 where
  pub small : (i : ℕ) → f i < 2 ^ n
  pub sum : for_sum 0 s f ≡ v

-- the shares of a sharing
pub adds_share : {n s x : ℕ} {a : List ℕ} → Sharing n s x a → Adds n s (share a) x
adds_share {s = s} {a = a} h = record { small = h.small; sum = sym (join_for s a h.past) ∙ h.joins }

-- an additive function of each
pub adds_map : {n s v : ℕ} {f : ℕ → ℕ} (h : ℕ → ℕ) → AdditiveBelow n h → ((w : ℕ) → w < 2 ^ n → h w < 2 ^ n)
    → Adds n s f v → Adds n s (λ i. h (f i)) (h v)
adds_map {n} {s} {v} {f} h additive closed a =
    record { small = λ i. closed (f i) (a.small i); sum = for_sum_map n h additive 0 s f a.small ∙ ap h a.sum }

adds_zero : (n s : ℕ) → Adds n s (λ i. 0) 0
adds_zero n s =
    record { small = λ i. pow_pos n; sum = for_sum_none 0 s (λ i. 0) (λ i l. refl) }

-- two added
pub adds_add : {n s v w : ℕ} {f g : ℕ → ℕ} → Adds n s f v → Adds n s g w → Adds n s (λ i. f i ⊕ g i) (v ⊕ w)
adds_add {n} {s} {f = f} {g = g} a b =
    record { small = λ i. ⊕-lt n (a.small i) (b.small i); sum = for_sum_add 0 s f g ∙ ap₂ ◌⊕◌ a.sum b.sum }

-- k of them added
pub adds_sum : {n s : ℕ} (k : ℕ) (f : ℕ → ℕ → ℕ) (v : ℕ → ℕ) → ((r : ℕ) → r < k → Adds n s (f r) (v r))
    → Adds n s (λ i. for_sum 0 k (λ r. f r i)) (for_sum 0 k v)
unfolding for_sum loop_sum
adds_sum {n} {s} k f v h = go 0 (k - 0) (λ r l. h r (omega arith))
  where
    go : (j m : ℕ) → ((r : ℕ) → r < j + m → Adds n s (f r) (v r)) → Adds n s (λ i. loop_sum (λ r. f r i) j m) (loop_sum v j m)
    go j zero h = adds_zero n s
    go j (suc m) h = adds_add (h j (omega arith)) (go (j + 1) m (λ r l. h r (omega arith)))

-- ---- a constant

-- it goes to share 0 only
pub constant_first : (i c : ℕ) → i ≡ 0 → c ≡ constant i c
unfolding constant
constant_first i c e = rw e

pub constant_other : (i c : ℕ) → (i ≡ 0 → ⊥) → 0 ≡ constant i c
unfolding constant
constant_other zero c h = absurd (h refl)
constant_other (suc i) c h = refl

pub constant_small : (n i c : ℕ) → c < 2 ^ n → constant i c < 2 ^ n
unfolding constant
constant_small n zero c h = h
constant_small n (suc i) c h = pow_pos n

pub adds_constant : (n s c : ℕ) → 0 < s → c < 2 ^ n → Adds n s (λ i. constant i c) c
unfolding constant
adds_constant n s c l h = record {
  small = λ i. constant_small n i c h;
  sum = for_sum_turn 0 s (λ i. constant i c) l ∙ ap (λ (v : ℕ). c ⊕ v) (for_sum_none 1 s (λ i. constant i c) later) ∙ ⊕-zero c;
}
  where
    later : (i : ℕ) → 1 ≤ i → constant i c ≡ 0
    later zero m = absurd (omega arith)
    later (suc i) m = refl

-- ---- the shape

-- a loop that adds f 0, f 1 and so on to u
pub shaped_add_up : (k u : ℕ) (f : ℕ → ℕ) (σ : ℕ → Shape) {turn : ℕ → ℕ → Run ℕ}
    → ((r w : ℕ) → Shaped (λ v. v ≡ w ⊕ f r) (σ r) (turn r w))
    → Shaped (λ v. v ≡ u ⊕ for_sum 0 k f) (for_shape 0 k σ) (for 0 k turn u)
shaped_add_up k u f σ h =
    shaped_weaken
    (shaped_for (λ r w. w ⊕ for_sum r k f ≡ u ⊕ for_sum 0 k f) σ 0 k (omega arith)
    (λ r w m l e. shaped_weaken (h r w) (λ v p. ap (λ (x : ℕ). x ⊕ for_sum (r + 1) k f) p ∙ ⊕-assoc w (f r) (for_sum (r + 1) k f)
    ∙ ap (λ (x : ℕ). w ⊕ x) (sym (for_sum_turn r k f l)) ∙ e))
    u refl)
    (λ v e. sym (ap (λ (x : ℕ). v ⊕ x) (for_sum_end k k f (omega arith)) ∙ ⊕-zero v) ∙ e)

-- what is made share by share is a sharing, in nine places, of what the shares add up to
pub shaped_by_share : {n s v : ℕ} {g : ℕ → ℕ} {σ : ℕ → Shape} {f : ℕ → Run ℕ} → s ≤ 9 → Adds n s g v
    → ((i : ℕ) → Shaped (λ w. w ≡ g i) (σ i) (f i))
    → Shaped (λ c. (length c ≡ 9) × Sharing n s v c) (for_shape 0 s σ) (by_share s f)
unfolding by_share
shaped_by_share {n} {s} {v} {g} {σ} nine a h =
    shaped_weaken
    (shaped_for (Filled g) σ 0 s (omega arith) (λ i c k l p. shaped_store (omega arith) (h i) p) (replicate 9 0) (filled_none g))
    (λ c p. (p.places, subst (λ (w : ℕ). Sharing n s w c) a.sum (filled_sharing n s g c (λ j l. a.small j) p)))

-- ---- the coupling

pub coupled_by_share : {n u : ℕ} (s : ℕ) {f f' : ℕ → Run ℕ} → ((i : ℕ) → Coupled u (CloseAt n u i) (f i) (f' i))
    → Coupled u (Close n u) (by_share s f) (by_share s f')
unfolding by_share
coupled_by_share {n} {u} s h =
    coupled_for u (λ i. Close n u) 0 s (omega arith) (λ i c c' k l p. coupled_store i (h i) p)
    (replicate 9 0) (replicate 9 0) (close_self n u (replicate 9 0) (small_zeros n 9))

-- ---- elements of one share

-- the same element on both sides
pub close_same : {n u i v : ℕ} → v < 2 ^ n → CloseAt n u i v v
close_same h = record { agree = λ f. refl; small = h; small' = h }

pub close_add : {n u i v v' w w' : ℕ} → CloseAt n u i v v' → CloseAt n u i w w' → CloseAt n u i (v ⊕ w) (v' ⊕ w')
close_add {n} p q = record {
  agree = λ f. ap₂ ◌⊕◌ (p.agree f) (q.agree f);
  small = ⊕-lt n p.small q.small;
  small' = ⊕-lt n p.small' q.small';
}

pub close_mul : {n u i v v' w w' : ℕ} → Ring n → CloseAt n u i v v' → CloseAt n u i w w' → CloseAt n u i (mul n v w) (mul n v' w')
close_mul {n} {v = v} {v' = v'} {w = w} {w' = w'} ring p q = record {
  agree = λ f. ap₂ (mul n) (p.agree f) (q.agree f);
  small = mul_small ring v w p.small;
  small' = mul_small ring v' w' p.small';
}

-- ---- squares

module _ {n : ℕ} (ring : Ring n) (s : ℕ) where
  pub shaped_square : s ≤ 9 → {v : ℕ} {a : List ℕ} → Sharing n s v a → Shaped (Sharing n s (Power.square n v)) (square_shape s) (square n s a)
  unfolding square square_shape Power.square
  shaped_square nine {v} {a} g =
      shaped_weaken
      (shaped_by_share nine (adds_map (Power.square n) (square_add ring) (square_small ring) (adds_share g))
      (λ i. shaped_note (one i) (mul n (share a i) (share a i)) refl))
      (λ c p. p.1)

  module _ (u : ℕ) where
    pub coupled_square : {a a' : List ℕ} → Close n u a a' → Coupled u (Close n u) (square n s a) (square n s a')
    unfolding square
    coupled_square h = coupled_by_share s (λ i. coupled_note i (close_mul ring (close_at h i) (close_at h i)))

    pub coupled_squares : (k : ℕ) {a a' : List ℕ} → Close n u a a' → Coupled u (CloseAll n u) (squares n s k a) (squares n s k a')
    unfolding squares
    coupled_squares zero h = coupled_return (close_cons h close_nil)
    coupled_squares (suc k) h =
        coupled_bind (coupled_square h) λ b b' hb. coupled_bind (coupled_squares k hb) λ l l' hl. coupled_return (close_cons h hl)

-- ---- one shape, several times

pub counts_times : {f : Shape → ℕ} → Counting f → {v : ℕ} (k : ℕ) {σ : Shape} → f σ ≡ v → f (times k σ) ≡ k * v
unfolding times
counts_times c {v} zero h = c.none ∙ sym (zero-mul v)
counts_times c {v} (suc k) {σ} h = c.both σ (times k σ) ∙ ap₂ (λ (x y : ℕ). x + y) h (counts_times c k h) ∙ omega (arith, suc-mul k v)

pub uniform_times : (n k : ℕ) (σ : Shape) → Uniform n σ → Uniform n (times k σ)
unfolding times bits_of
uniform_times n zero σ h = refl
uniform_times n (suc k) σ h = uniform_append n σ (times k σ) h (uniform_times n k σ h)
