-- The laws of sharings: their sums by the numbers of the shares, and sharings that are made share by share.
use mathlib.Core.Path.{◌≡◌, refl, sym, ap, ap₂, ◌∙◌}
use mathlib.Core.Logic.{◌≢◌}
use mathlib.Core.List.{List, [], ◌∷◌, ◌++◌}
use Prim.Native.Nat.{ℕ, zero, suc, ◌+◌, ◌-◌, ◌^◌, ◌≤◌, ◌<◌}
use native.Mathlib.Nat.{sub-zero}
use native.Mathlib.Numerals.{add-one}
use native.Mathlib.Decide.{ℕ_discrete, dec_lt}
use native.Mathlib.Omega.{arith}
use lib.ListN.{length, get_or, set, replicate, length-set, get_or-eq_default}
use lib.Pow.{pow_pos}
use lib.Seq.{get_or-set_same, get_or-set_other, set_out}
use Rattle.xor.specs.Xor.{◌⊕◌}
use Rattle.xor.specs.Sum.{join, Small, AdditiveBelow}
use Rattle.xor.proofs.Xor.{⊕-zero, ⊕-lt, ⊕-exchange}
use Rattle.xor.proofs.Sum.{small_head, small_tail, small_cons, join_nil, join_cons, additive_below_zero}
use Rattle.steps.specs.Program.{Run, return, one, ◌>>=◌, note}
use Rattle.steps.specs.Shape.{Shape, Shaped}
use Rattle.steps.specs.Coupling.{Coupled, coupled_return, coupled_step}
use Rattle.steps.specs.Fill.{tabulate}
use Rattle.steps.specs.Sharing.{share, Sharing, Filled, CloseAt, Close, CloseAll, close_nil, close_cons}
use Rattle.steps.proofs.Fill.{length_tabulate, get_d_tabulate}
use Rattle.steps.proofs.Shape.{shaped_map}
use Rattle.steps.proofs.Coupling.{coupled_bind, seen_one}

-- ---- sums by the number of the share

-- f i ⊕ f (i + 1) and so on, k terms
unfoldable pub loop_sum : (ℕ → ℕ) → ℕ → ℕ → ℕ
loop_sum f i zero = 0
loop_sum f i (suc k) = f i ⊕ loop_sum f (i + 1) k

-- the sum of f j for each j from i up to s, s not included
unfoldable pub for_sum : ℕ → ℕ → (ℕ → ℕ) → ℕ
for_sum i s f = loop_sum f i (s - i)

pub for_sum_turn : (i s : ℕ) (f : ℕ → ℕ) → i < s → for_sum i s f ≡ f i ⊕ for_sum (i + 1) s f
unfolding for_sum loop_sum
for_sum_turn i s f h = let e : s - i ≡ suc (s - (i + 1)) = omega arith in rw e

pub for_sum_end : (i s : ℕ) (f : ℕ → ℕ) → s ≤ i → for_sum i s f ≡ 0
unfolding for_sum loop_sum
for_sum_end i s f h = let e : s - i ≡ 0 = omega arith in rw e

loop_sum_lt : (n : ℕ) (f : ℕ → ℕ) → ((j : ℕ) → f j < 2 ^ n) → (i k : ℕ) → loop_sum f i k < 2 ^ n
unfolding loop_sum
loop_sum_lt n f h i zero = pow_pos n
loop_sum_lt n f h i (suc k) = ⊕-lt n (h i) (loop_sum_lt n f h (i + 1) k)

pub for_sum_same : (i s : ℕ) (f g : ℕ → ℕ) → ((j : ℕ) → i ≤ j → j < s → f j ≡ g j) → for_sum i s f ≡ for_sum i s g
unfolding for_sum loop_sum
for_sum_same i s f g h = go i (s - i) (λ j l k. h j (omega arith) (omega arith))
  where
    go : (i k : ℕ) → ((j : ℕ) → i ≤ j → j < i + k → f j ≡ g j) → loop_sum f i k ≡ loop_sum g i k
    go i zero h = refl
    go i (suc k) h = ap₂ (λ (x y : ℕ). x ⊕ y) (h i (omega arith) (omega arith)) (go (i + 1) k (λ j l m. h j (omega arith) (omega arith)))

-- two sums, added term by term
pub for_sum_add : (i s : ℕ) (f g : ℕ → ℕ) → for_sum i s (λ j. f j ⊕ g j) ≡ for_sum i s f ⊕ for_sum i s g
unfolding for_sum loop_sum
for_sum_add i s f g = go i (s - i)
  where
    go : (i k : ℕ) → loop_sum (λ j. f j ⊕ g j) i k ≡ loop_sum f i k ⊕ loop_sum g i k
    go i zero = sym (⊕-zero 0)
    go i (suc k) = ap (λ (x : ℕ). f i ⊕ g i ⊕ x) (go (i + 1) k) ∙ ⊕-exchange (f i) (g i) (loop_sum f (i + 1) k) (loop_sum g (i + 1) k)

-- an additive function of each term
pub for_sum_map : (n : ℕ) (h : ℕ → ℕ) → AdditiveBelow n h → (i s : ℕ) (f : ℕ → ℕ) → ((j : ℕ) → f j < 2 ^ n)
    → for_sum i s (λ j. h (f j)) ≡ h (for_sum i s f)
unfolding for_sum loop_sum
for_sum_map n h a i s f l = go i (s - i)
  where
    go : (i k : ℕ) → loop_sum (λ j. h (f j)) i k ≡ h (loop_sum f i k)
    go i zero = sym (additive_below_zero n h a)
    go i (suc k) = ap (λ (x : ℕ). h (f i) ⊕ x) (go (i + 1) k) ∙ sym (a (f i) (loop_sum f (i + 1) k) (l i) (loop_sum_lt n f l (i + 1) k))

-- ---- what a sharing joins to

join_loop : (k : ℕ) (a : List ℕ) → ((i : ℕ) → k ≤ i → share a i ≡ 0) → join a ≡ loop_sum (λ j. share a j) 0 k
unfolding loop_sum
join_loop k [] h = join_nil ∙ sym (zeros 0 k)
  where
    zeros : (i k : ℕ) → loop_sum (λ j. 0) i k ≡ 0
    zeros i zero = refl
    zeros i (suc k) = ap (λ (x : ℕ). 0 ⊕ x) (zeros (i + 1) k) ∙ ⊕-zero 0
join_loop zero (x ∷ a) h =
    join_cons x a ∙ ap₂ (λ (y z : ℕ). y ⊕ z) (h 0 (omega arith)) (join_loop zero a (λ i l. h (suc i) (omega arith))) ∙ ⊕-zero 0
join_loop (suc k) (x ∷ a) h =
    join_cons x a ∙ ap (λ (y : ℕ). x ⊕ y) (join_loop k a (λ i l. h (suc i) (omega arith)) ∙ sym (shift 0 k))
  where
    shift : (i k : ℕ) → loop_sum (λ j. get_or (x ∷ a) j 0) (i + 1) k ≡ loop_sum (λ j. share a j) i k
    shift i zero = refl
    shift i (suc k) = ap₂ (λ (y z : ℕ). get_or (x ∷ a) y 0 ⊕ z) (add-one i) (shift (i + 1) k)

-- a list that is 0 from place s on joins to the sum of its first s places
pub join_for : (s : ℕ) (a : List ℕ) → ((i : ℕ) → s ≤ i → share a i ≡ 0) → join a ≡ for_sum 0 s (λ j. share a j)
unfolding for_sum
join_for s a h = rw (sub-zero s) (join_loop s a h)

-- a list of zeros
pub share_zeros : (k j : ℕ) → share (replicate k 0) j ≡ 0
share_zeros zero j = refl
share_zeros (suc k) zero = refl
share_zeros (suc k) (suc j) = share_zeros k j

-- zeros past the end of a list change no share
pub share_padded : (a : List ℕ) (k i : ℕ) → share (a ++ replicate k 0) i ≡ share a i
share_padded [] k i = share_zeros k i
share_padded (x ∷ a) k zero = refl
share_padded (x ∷ a) k (suc i) = share_padded a k i

pub small_zeros : (n k : ℕ) → Small n (replicate k 0)
small_zeros n k i = rw (share_zeros k i) (pow_pos n)

-- ---- a list of s places

-- past them there is nothing
pub tabulated_past : (s : ℕ) (f : ℕ → ℕ) (i : ℕ) → s ≤ i → share (tabulate s f) i ≡ 0
tabulated_past s f i h = get_or-eq_default (tabulate s f) 0 {n = i} (omega (arith, length_tabulate s f))

pub small_tabulate : (n s : ℕ) (f : ℕ → ℕ) → ((i : ℕ) → f i < 2 ^ n) → Small n (tabulate s f)
small_tabulate n s f h i = elim (dec_lt i s) [
  | yes k ↦ rw (get_d_tabulate s f i 0 k) (h i)
  | no k ↦ rw (tabulated_past s f i (omega arith)) (pow_pos n)
]

-- a sharing of s shares joins to the same without its other places
pub without_past : (s : ℕ) (a : List ℕ) → ((i : ℕ) → s ≤ i → share a i ≡ 0) → join (tabulate s (share a)) ≡ join a
without_past s a h =
    join_for s (tabulate s (share a)) (tabulated_past s (share a))
    ∙ for_sum_same 0 s (λ j. share (tabulate s (share a)) j) (λ j. share a j) (λ j z k. get_d_tabulate s (share a) j 0 k)
    ∙ sym (join_for s a h)

-- ---- a sharing made share by share

-- nothing is filled yet
pub filled_none : (g : ℕ → ℕ) → Filled g 0 (replicate 9 0)
filled_none g = record { places = refl; filled = λ j l. absurd (omega arith); past = λ j l. share_zeros 9 j }

-- share i is put in its place
pub filled_set : {g : ℕ → ℕ} {i v : ℕ} {c : List ℕ} → i < 9 → v ≡ g i → Filled g i c → Filled g (i + 1) (set c i v)
filled_set {g} {i} {v} {c} l e h =
    record {
      places = length-set c i v ∙ h.places;
      filled = λ j k. at j k (ℕ_discrete j i);
      past = λ j k. get_or-set_other c i j v 0 (λ p. omega arith) ∙ h.past j (omega arith);
    }
  where
    at : (j : ℕ) → j < i + 1 → Dec (j ≡ i) → get_or (set c i v) j 0 ≡ g j
    at j k (yes p) = rw p (get_or-set_same c i v 0 (omega (arith, h.places)) ∙ e)
    at j k (no p) = get_or-set_other c i j v 0 p ∙ h.filled j (omega arith)

-- all s shares are filled
pub filled_sharing : (n s : ℕ) (g : ℕ → ℕ) (c : List ℕ) → ((j : ℕ) → j < s → g j < 2 ^ n) → Filled g s c → Sharing n s (for_sum 0 s g) c
filled_sharing n s g c l h =
    record {
      small = λ i. at i (dec_lt i s);
      past = h.past;
      joins = join_for s c h.past ∙ for_sum_same 0 s (λ j. share c j) g (λ j k m. h.filled j m);
    }
  where
    at : (i : ℕ) → Dec (i < s) → share c i < 2 ^ n
    at i (yes k) = rw (h.filled i k) (l i k)
    at i (no k) = rw (h.past i (omega arith)) (pow_pos n)

-- the turn of a loop that records for share i and puts the result in its place
pub shaped_store : {g : ℕ → ℕ} {i : ℕ} {σ : Shape} {m : Run ℕ} {c : List ℕ} → i < 9 → Shaped (λ v. v ≡ g i) σ m → Filled g i c
    → Shaped (Filled g (i + 1)) σ (m >>= (λ v. return (set c i v)))
shaped_store {i = i} {c = c} l s h = shaped_map (λ v. set c i v) s (λ v e. filled_set l e h)

-- ---- sharings that agree but for share u

pub set_small : (n : ℕ) (l : List ℕ) (i v : ℕ) → Small n l → v < 2 ^ n → Small n (set l i v)
set_small n [] i v h k j = h j
set_small n (x ∷ l) zero v h k j = small_cons n v l k (small_tail n x l h) j
set_small n (x ∷ l) (suc i) v h k j = small_cons n x (set l i v) (small_head n x l h) (set_small n l i v (small_tail n x l h) k) j

-- one share is set in both, to the same element unless it is share u
pub close_set : {n u : ℕ} {a b : List ℕ} → Close n u a b → (i : ℕ) {v w : ℕ} → CloseAt n u i v w → Close n u (set a i v) (set b i w)
close_set {n} {u} {a} {b} c i {v} {w} e =
    record {
      same_length = length-set a i v ∙ c.same_length ∙ sym (length-set b i w);
      agree = λ j f. at j f (ℕ_discrete j i);
      small = set_small n a i v c.small e.small;
      small' = set_small n b i w c.small' e.small';
    }
  where
    here : (f : i ≢ u) → Dec (i < length a) → get_or (set a i v) i 0 ≡ get_or (set b i w) i 0
    here f (yes l) = get_or-set_same a i v 0 l ∙ e.agree f ∙ sym (get_or-set_same b i w 0 (omega (arith, c.same_length)))
    here f (no l) =
        rw (set_out a i v (omega arith), set_out b i w (omega (arith, c.same_length))) (c.agree i f)

    at : (j : ℕ) → j ≢ u → Dec (j ≡ i) → get_or (set a i v) j 0 ≡ get_or (set b i w) j 0
    at j f (yes p) = rw p (here (λ q. f (p ∙ q)) (dec_lt i (length a)))
    at j f (no p) = get_or-set_other a i j v 0 p ∙ c.agree j f ∙ sym (get_or-set_other b i j w 0 p)

-- share i of either
pub close_at : {n u : ℕ} {a b : List ℕ} → Close n u a b → (i : ℕ) → CloseAt n u i (share a i) (share b i)
close_at c i = record { agree = c.agree i; small = c.small i; small' = c.small' i }

-- a sharing and itself
pub close_self : (n u : ℕ) (a : List ℕ) → Small n a → Close n u a a
close_self n u a h = record { same_length = refl; agree = λ i f. refl; small = h; small' = h }

-- sharing k of two lists of sharings
pub close_nth : {n u : ℕ} {l m : List (List ℕ)} → CloseAll n u l m → (k : ℕ) → Close n u (get_or l k []) (get_or m k [])
close_nth {n} {u} close_nil k = close_self n u [] (λ i. pow_pos n)
close_nth (close_cons c h) zero = c
close_nth (close_cons c h) (suc k) = close_nth h k

pub close_append : {n u : ℕ} {l m k j : List (List ℕ)} → CloseAll n u l m → CloseAll n u k j → CloseAll n u (l ++ k) (m ++ j)
close_append close_nil h = h
close_append (close_cons c g) h = close_cons c (close_append g h)

-- one step of share i
pub coupled_note : {n u : ℕ} (i : ℕ) {v w : ℕ} → CloseAt n u i v w → Coupled u (CloseAt n u i) (note (one i) v) (note (one i) w)
unfolding note
coupled_note i e = coupled_step (seen_one e.agree) (coupled_return e)

-- the turn of a loop that records for share i and puts the result in its place
pub coupled_store : {n u : ℕ} (i : ℕ) {m m' : Run ℕ} {c c' : List ℕ} → Coupled u (CloseAt n u i) m m' → Close n u c c'
    → Coupled u (Close n u) (m >>= (λ v. return (set c i v))) (m' >>= (λ v. return (set c' i v)))
coupled_store i h c = coupled_bind h (λ v w e. coupled_return (close_set c i e))
