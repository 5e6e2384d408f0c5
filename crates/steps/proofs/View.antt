-- The laws of sharings in bytes: their shares, and sharings that are made share by share.
use mathlib.Core.Path.{◌≡◌, refl, sym, ap, ap₂, ◌∙◌}
use mathlib.Core.List.{List, map}
use Prim.Native.Nat.{ℕ, zero, suc, ◌+◌, ◌-◌, ◌*◌, ◌≤◌, ◌<◌}
use native.Mathlib.Decide.{dec_lt, ℕ_discrete}
use native.Mathlib.Omega.{arith}
use lib.ListN.{length, get_or, replicate, length-map, get_or-eq_default}
use lib.Seq.{ext_get_or}
use Rattle.xor.specs.Xor.{◌⊕◌}
use Rattle.xor.proofs.Xor.{⊕-zero}
use Rattle.xor.proofs.Sum.{additive_below_zero}
use Rattle.steps.specs.Fill.{tabulate, fill, padded}
use Rattle.steps.specs.Sharing.{share, Filled}
use Rattle.steps.proofs.Fill.{length_tabulate, get_d_tabulate, tabulate_same, length_fill, get_or_fill, get_or_fill_past}
use Rattle.steps.proofs.Sharing.{share_zeros, share_padded}
use Rattle.steps.specs.Bytes.{from_bytes}
use Rattle.steps.specs.Linear.{Linear, LinearPair}
use Rattle.steps.specs.Sharing.{share_wise, alone, held}
use Rattle.steps.proofs.ShareWise.{share_map, length_share_wise, share_share_wise, linear_zero, sum_linear, share_held, length_held}
use Rattle.steps.specs.ShareBytes.{share_at, shares_of, sharing, Changed, ZeroPast, KeptPast}
use Rattle.steps.proofs.Number.{number_same}
use Rattle.steps.proofs.Past.{changed_others, kept_same, kept_then, changed_kept}

-- ---- shares given by a function, held in nine places

module _ (s : ℕ) (nine : s ≤ 9) where
  pub length_given : (f : ℕ → ℕ) → length (held (tabulate s f)) ≡ 9
  length_given f = length_held (tabulate s f) (omega (arith, length_tabulate s f))

  pub share_given : (f : ℕ → ℕ) (i : ℕ) → i < s → share (held (tabulate s f)) i ≡ f i
  share_given f i h = share_held (tabulate s f) i ∙ get_d_tabulate s f i 0 h

  pub share_past : (f : ℕ → ℕ) (i : ℕ) → s ≤ i → share (held (tabulate s f)) i ≡ 0
  share_past f i h = share_held (tabulate s f) i ∙ get_or-eq_default (tabulate s f) 0 {n = i} (omega (arith, length_tabulate s f))

  -- a list of nine places whose shares are these, and 0 past them
  pub is_given : (f : ℕ → ℕ) (a : List ℕ) → length a ≡ 9 → ((i : ℕ) → i < s → share a i ≡ f i) → ((i : ℕ) → s ≤ i → share a i ≡ 0)
      → a ≡ held (tabulate s f)
  is_given f a n h k = ext_get_or 0 a (held (tabulate s f)) (n ∙ sym (length_given f)) (λ i l. go i (dec_lt i s))
    where
      go : (i : ℕ) → Dec (i < s) → share a i ≡ share (held (tabulate s f)) i
      go i (yes l) = h i l ∙ sym (share_given f i l)
      go i (no l) = k i (omega arith) ∙ sym (share_past f i (omega arith))

  pub filled_given : {f : ℕ → ℕ} {a : List ℕ} → Filled f s a → a ≡ held (tabulate s f)
  filled_given {f} {a} h = is_given f a h.places h.filled h.past

  pub fill_given : (f : ℕ → ℕ) → fill s f (replicate 9 0) ≡ held (tabulate s f)
  fill_given f =
      is_given f (fill s f (replicate 9 0)) (length_fill s f (replicate 9 0) nine) (λ i h. get_or_fill s f (replicate 9 0) i 0 h)
      (λ i h. get_or_fill_past s f (replicate 9 0) i 0 h ∙ share_zeros 9 i)

  -- a linear map of each share
  pub map_given : {m n : ℕ} {g : ℕ → ℕ} → Linear m n g → (f : ℕ → ℕ) → map g (held (tabulate s f)) ≡ held (tabulate s (λ i. g (f i)))
  map_given {m} {n} {g} linear f =
      let a = held (tabulate s f) in
      is_given (λ i. g (f i)) (map g a) (length-map a g ∙ length_given f) (λ i h. share_map linear a i ∙ ap g (share_given f i h))
      (λ i h. share_map linear a i ∙ ap g (share_past f i h) ∙ additive_below_zero m g linear.additive)

  pub wise_given : {l m n : ℕ} {g : ℕ → ℕ → ℕ} → LinearPair l m n g → (f h : ℕ → ℕ)
      → share_wise g (held (tabulate s f)) (held (tabulate s h)) ≡ held (tabulate s (λ i. g (f i) (h i)))
  wise_given {g = g} linear f h =
      let a = held (tabulate s f) in
      let b = held (tabulate s h) in
      is_given (λ i. g (f i) (h i)) (share_wise g a b)
      (length_share_wise g a b ∙ omega (arith, length_given f, length_given h))
      (λ i l. share_share_wise linear a b i ∙ ap₂ g (share_given f i l) (share_given h i l))
      (λ i l. share_share_wise linear a b i ∙ ap₂ g (share_past f i l) (share_past h i l) ∙ linear_zero linear)

-- ---- a loop over the shares

-- the shares before number i are those of f, the others and the bytes past all s shares are still those of l₀
pub record Turned (w s : ℕ) (f : ℕ → ℕ) (i : ℕ) (l₀ l : List ℕ) : Type 0 where
  pub passed : (j : ℕ) → j < i → share_at w l j ≡ f j
  pub ahead : (j : ℕ) → i ≤ j → share_at w l j ≡ share_at w l₀ j
  pub past : KeptPast w s l₀ l

pub turned_none : {w s : ℕ} {f : ℕ → ℕ} {l : List ℕ} → Turned w s f 0 l l
turned_none = record { passed = λ j h. absurd (omega arith); ahead = λ j h. refl; past = kept_same }

pub turned_more : {w s i x : ℕ} {f : ℕ → ℕ} {l₀ l l' : List ℕ} → Turned w s f i l₀ l → i < s → Changed w i x l l' → x ≡ f i
    → Turned w s f (i + 1) l₀ l'
turned_more {w} {s} {i} {x} {f} {l₀} {l} {l'} h b c e =
    record {
      passed = λ j k. go j k (ℕ_discrete j i);
      ahead = λ j k. changed_others c j (λ p. omega arith) ∙ h.ahead j (omega arith);
      past = kept_then h.past (changed_kept b c);
    }
  where
    go : (j : ℕ) → j < i + 1 → Dec (j ≡ i) → share_at w l' j ≡ f j
    go j k (yes p) = rw p (c.here ∙ e)
    go j k (no p) = changed_others c j p ∙ h.passed j (omega arith)

pub turned_all : {w s i : ℕ} {f : ℕ → ℕ} {l₀ l : List ℕ} → Turned w s f i l₀ l → s ≤ i → sharing w s l ≡ held (tabulate s f)
unfolding sharing shares_of
turned_all {w} {s} {i} {f} {l₀} {l} h k = ap held (tabulate_same s (share_at w l) f (λ j g. h.passed j (omega arith)))

-- ---- share 0 alone

pub changed_alone : {w : ℕ} {l l' : List ℕ} (s c : ℕ) → 0 < s → s ≤ 9 → Changed w 0 (share_at w l 0 ⊕ c) l l'
    → sharing w s l' ≡ share_wise ◌⊕◌ (sharing w s l) (alone c)
unfolding sharing shares_of alone
changed_alone {w} {l} {l'} s c some nine h =
    sym (is_given s nine (share_at w l') (share_wise ◌⊕◌ a (alone c))
    (length_share_wise ◌⊕◌ a (alone c) ∙ omega (arith, length_given s nine (share_at w l))) first past)
  where
    a : List ℕ
    a = held (tabulate s (share_at w l))

    at : (i : ℕ) → share (share_wise ◌⊕◌ a (alone c)) i ≡ share a i ⊕ share (alone c) i
    at i = share_share_wise (sum_linear 0) a (alone c) i

    first : (i : ℕ) → i < s → share (share_wise ◌⊕◌ a (alone c)) i ≡ share_at w l' i
    first zero k = at 0 ∙ ap (λ (x : ℕ). x ⊕ c) (share_given s nine (share_at w l) 0 k) ∙ sym h.here
    first (suc i) k =
        at (suc i) ∙ ⊕-zero (share a (suc i)) ∙ share_given s nine (share_at w l) (suc i) k ∙ sym (changed_others h (suc i) (λ e. omega arith))

    past : (i : ℕ) → s ≤ i → share (share_wise ◌⊕◌ a (alone c)) i ≡ 0
    past zero k = absurd (omega arith)
    past (suc i) k = at (suc i) ∙ ⊕-zero (share a (suc i)) ∙ share_past s nine (share_at w l) (suc i) k

-- ---- the shares of a sharing in bytes

pub share_sharing : (w s : ℕ) (l : List ℕ) (i : ℕ) → s ≤ 9 → i < s → share (sharing w s l) i ≡ share_at w l i
unfolding sharing shares_of
share_sharing w s l i nine h = share_given s nine (share_at w l) i h

-- shares that lie in the same bytes
same_bytes : (w s : ℕ) (l m : List ℕ) → ((p : ℕ) → get_or l p 0 ≡ get_or m p 0) → sharing w s l ≡ sharing w s m
unfolding sharing shares_of share_at
same_bytes w s l m h =
    ap held (tabulate_same s (share_at w l) (share_at w m) (λ i k. ap from_bytes (number_same (w * i) w m l (λ j g. h (w * i + j)))))

-- bytes in an array that has room for more
pub sharing_padded : (w s n : ℕ) (l : List ℕ) → sharing w s (padded n l) ≡ sharing w s l
sharing_padded w s n l = same_bytes w s (padded n l) l (share_padded l (n - length l))

pub zero_padded : (w s n : ℕ) (l : List ℕ) → length l ≤ w * s → ZeroPast w s (padded n l)
zero_padded w s n l h = record { zeros = λ j f. share_padded l (n - length l) j ∙ get_or-eq_default l 0 {n = j} (omega arith) }
