-- The laws of strings in shares: made share by share, a linear layer is made of what the shares join to, and keeps agreement but for share u; and so
-- does a string whose bytes are replaced.
use mathlib.Core.Path.{◌≡◌, refl, sym, ap, ap₂, ◌∙◌}
use mathlib.Core.Logic.{◌≢◌}
use mathlib.Core.List.{List, []}
use Prim.Native.Nat.{ℕ, zero, suc, ◌+◌, ◌-◌, ◌*◌, ◌/◌, ◌%◌, ◌≤◌, ◌<◌}
use native.Mathlib.Nat.{le_trans, mul-le-mul_right, le-add_right, suc-mul}
use native.Mathlib.Decide.{dec_lt}
use native.Mathlib.Omega.{arith}
use borrow.Author.Tests.{le-leb, lt-leb, lt-ltb, le-ltb}
use lib.Arith.{digits_lt, digits_div, digits_mod}
use lib.ListN.{length, get_or, set, replicate, length-replicate, length-set, get_or-eq_default}
use lib.Pow.{pow_pos}
use lib.Seq.{get_or-set_same, get_or-set_other}
use Rattle.xor.specs.Xor.{◌⊕◌}
use Rattle.xor.specs.Sum.{join, Small}
use Rattle.xor.proofs.Xor.{⊕-zero, ⊕-self}
use Rattle.xor.proofs.Sum.{join_small}
use Rattle.steps.specs.Fill.{tabulate}
use Rattle.steps.proofs.Fill.{get_d_tabulate, tabulate_same, length_fill, get_or_fill, get_or_fill_past}
use Rattle.steps.proofs.Sharing.{share_zeros, small_tabulate, set_small}
use Rattle.rijndael.specs.Strings.{byte_at, share_byte, Layer, make, place_of, make_shares, add_byte, Shared, put_at, put_places, put_shares}
use Rattle.rijndael.specs.LinearLayers.{Bytes, LinearLayer, Alike}

-- ---- places

-- the places of a share lie after those of the shares before it
pub places_le : {s i : ℕ} (m k : ℕ) → s ≤ i → s * m ≤ i * m + k
places_le {s} {i} m k l = le_trans (mul-le-mul_right m l) (le-add_right (i * m) k)

-- byte k of share i, where i is not one of the nine
pub past_nine : (m : ℕ) (a : List ℕ) → length a ≡ 9 * m → (i k : ℕ) → 9 ≤ i → share_byte m a i k ≡ 0
past_nine m a e i k l = get_or-eq_default a 0 {n = i * m + k} (rw e (places_le m k l))

-- a sharing of a string is one of every string with the same bytes
pub shared_same : {m s : ℕ} {x y a : List ℕ} → ((k : ℕ) → k < m → byte_at x k ≡ byte_at y k) → Shared m s x a → Shared m s y a
shared_same e h = record { places = h.places; small = h.small; past = h.past; joins = λ k l. h.joins k l ∙ e k l }

-- ---- a linear layer

module _ {l m n : ℕ} {f : Layer} (linear : LinearLayer l m n f) where
  layer_zero : (j : ℕ) → j < n → f (λ k. 0) (λ k. 0) j ≡ 0
  layer_zero j h =
      let z : ℕ → ℕ = λ k. 0 in
      let b : Bytes z = λ k. pow_pos 8 in
      linear.local z (add_byte z z) z (add_byte z z) (λ k q. sym (⊕-zero 0)) (λ k q. sym (⊕-zero 0)) j h
      ∙ linear.additive z z z z b b b b j ∙ ⊕-self (f z z j)

  -- a layer of the sums is the sum of the layers
  join_layer : (c : ℕ) (A B : ℕ → ℕ → ℕ) → ((i : ℕ) → Bytes (A i)) → ((i : ℕ) → Bytes (B i)) → (j : ℕ) → j < n
      → join (tabulate c (λ i. f (A i) (B i) j)) ≡ f (λ k. join (tabulate c (λ i. A i k))) (λ k. join (tabulate c (λ i. B i k))) j
  unfolding tabulate join
  join_layer zero A B h_a h_b j h = sym (layer_zero j h)
  join_layer (suc c) A B h_a h_b j h =
      let small : (A : ℕ → ℕ → ℕ) → ((i : ℕ) → Bytes (A i)) → Bytes (λ k. join (tabulate c (λ i. A (suc i) k))) =
      λ A h_a k. join_small 8 (tabulate c (λ i. A (suc i) k)) (small_tabulate 8 c (λ i. A (suc i) k) (λ i. h_a (suc i) k)) in
      ap (λ (v : ℕ). f (A 0) (B 0) j ⊕ v) (join_layer c (λ i. A (suc i)) (λ i. B (suc i)) (λ i. h_a (suc i)) (λ i. h_b (suc i)) j h)
      ∙ sym (linear.additive (A 0) (λ k. join (tabulate c (λ i. A (suc i) k))) (B 0) (λ k. join (tabulate c (λ i. B (suc i) k)))
      (h_a 0) (small A h_a) (h_b 0) (small B h_b) j)

  module _ (s : ℕ) (nine : s ≤ 9) where
    length_make : (a b : List ℕ) → length (make_shares s l m n f a b) ≡ 9 * n
    unfolding make_shares
    length_make a b =
        let zeros : length (replicate {A = ℕ} (9 * n) 0) ≡ 9 * n = length-replicate {A = ℕ} (9 * n) 0 in
        length_fill (s * n) _ (replicate (9 * n) 0) (rw zeros (mul-le-mul_right n nine)) ∙ zeros

    -- byte j of share i, of one of the s shares and of another
    share_byte_make : (a b : List ℕ) (i j : ℕ) → i < s → j < n → share_byte n (make_shares s l m n f a b) i j ≡ f (share_byte l a i) (share_byte m b i) j
    unfolding make_shares
    share_byte_make a b i j p q =
        get_or_fill (s * n) (place_of l m n f a b) (replicate (9 * n) 0) (i * n + j) 0 (digits_lt p q)
        ∙ ap₂ (λ (i j : ℕ). f (share_byte l a i) (share_byte m b i) j) (digits_div i q) (digits_mod i q)

    share_byte_past : (a b : List ℕ) (i j : ℕ) → s ≤ i → share_byte n (make_shares s l m n f a b) i j ≡ 0
    unfolding make_shares
    share_byte_past a b i j p =
        get_or_fill_past (s * n) (place_of l m n f a b) (replicate (9 * n) 0) (i * n + j) 0 (places_le n j p)
        ∙ share_zeros (9 * n) (i * n + j)

    make_small : (a b : List ℕ) → Small 8 a → Small 8 b → Small 8 (make_shares s l m n f a b)
    unfolding make_shares
    make_small a b ha hb p = elim (dec_lt p (s * n)) [
      | yes h ↦ rw (get_or_fill (s * n) (place_of l m n f a b) (replicate (9 * n) 0) p 0 h)
          (linear.small _ _ (λ k. ha _) (λ k. hb _) (p % n))
      | no h ↦ rw (get_or_fill_past (s * n) (place_of l m n f a b) (replicate (9 * n) 0) p 0 (omega arith), share_zeros (9 * n) p)
          (pow_pos 8)
    ]

    -- THE LAYER OF THE SHARES is a sharing of the layer.
    pub shared_make : {x y a b : List ℕ} → Shared l s x a → Shared m s y b → Shared n s (make n f x y) (make_shares s l m n f a b)
    unfolding make
    shared_make {x} {y} {a} {b} ha hb =
        record { places = length_make a b; small = make_small a b ha.small hb.small; past = λ i j p q. share_byte_past a b i j p; joins = joins }
      where
        all : (i j : ℕ) → j < n → share_byte n (make_shares s l m n f a b) i j ≡ f (share_byte l a i) (share_byte m b i) j
        all i j q = elim (dec_lt i s) [
          | yes p ↦ share_byte_make a b i j p q
          | no p ↦ let past : s ≤ i = omega arith in
              share_byte_past a b i j past ∙ sym (layer_zero j q)
              ∙ sym (linear.local (share_byte l a i) (λ k. 0) (share_byte m b i) (λ k. 0) (λ k h. ha.past i k past h) (λ k h. hb.past i k past h) j q)
        ]

        joins : (j : ℕ) → j < n → join (tabulate 9 (λ i. share_byte n (make_shares s l m n f a b) i j)) ≡ byte_at (tabulate n (f (byte_at x) (byte_at y))) j
        joins j q =
            ap join (tabulate_same 9 _ _ (λ i k. all i j q))
            ∙ join_layer 9 (share_byte l a) (share_byte m b) (λ i k. ha.small _) (λ i k. hb.small _) j q
            ∙ linear.local _ (byte_at x) _ (byte_at y) ha.joins hb.joins j q
            ∙ sym (get_d_tabulate n (f (byte_at x) (byte_at y)) j 0 q)

    pub alike_make : {u : ℕ} {a a' b b' : List ℕ} → Alike l u a a' → Alike m u b b'
        → Alike n u (make_shares s l m n f a b) (make_shares s l m n f a' b')
    alike_make {u} {a} {a'} {b} {b'} ha hb =
        record {
          places = length_make a b;
          places' = length_make a' b';
          small = make_small a b ha.small hb.small;
          small' = make_small a' b' ha.small' hb.small';
          agree = agree;
        }
      where
        agree : (i j : ℕ) → i ≢ u → j < n → share_byte n (make_shares s l m n f a b) i j ≡ share_byte n (make_shares s l m n f a' b') i j
        agree i j g q = elim (dec_lt i s) [
          | yes p ↦ share_byte_make a b i j p q
              ∙ linear.local (share_byte l a i) (share_byte l a' i) (share_byte m b i) (share_byte m b' i) (λ k h. ha.agree i k g h) (λ k h. hb.agree i k g h) j q
              ∙ sym (share_byte_make a' b' i j p q)
          | no p ↦ share_byte_past a b i j (omega arith) ∙ sym (share_byte_past a' b' i j (omega arith))
        ]

-- ---- the string of no bytes, as the second string of a layer of one

pub shared_none : (s : ℕ) → Shared 0 s [] []
shared_none s = record { places = refl; small = λ i. pow_pos 8; past = λ i k l h. absurd (omega arith); joins = λ k h. absurd (omega arith) }

pub alike_none : (u : ℕ) → Alike 0 u [] []
alike_none u =
    record { places = refl; places' = refl; small = λ i. pow_pos 8; small' = λ i. pow_pos 8; agree = λ i k g h. refl }

-- ---- bytes replaced

module _ (at n : ℕ) (x y : ℕ → ℕ) where
  pub put_here : (k : ℕ) → k < n → put_at at n x y (at + k) ≡ y k
  unfolding put_at
  put_here k h = let e : at + k - at ≡ k = omega arith in rw (le-leb at (at + k) (omega arith), lt-ltb (at + k) (at + n) (omega arith), e)

  pub put_before : (k : ℕ) → k < at → put_at at n x y k ≡ x k
  unfolding put_at
  put_before k h = rw (lt-leb at k h)

  pub put_after : (k : ℕ) → at + n ≤ k → put_at at n x y k ≡ x k
  unfolding put_at
  put_after k h = rw (le-leb at k (omega arith), le-ltb k (at + n) h)

module _ (at : ℕ) (v : ℕ → ℕ) (l : List ℕ) where
  length_places : (n : ℕ) → length (put_places at n v l) ≡ length l
  unfolding put_places
  length_places zero = refl
  length_places (suc n) = length-set (put_places at n v l) (at + n) (v n) ∙ length_places n

  place_other : (n p : ℕ) → ((k : ℕ) → k < n → p ≢ at + k) → get_or (put_places at n v l) p 0 ≡ get_or l p 0
  unfolding put_places
  place_other zero p h = refl
  place_other (suc n) p h =
      get_or-set_other (put_places at n v l) (at + n) p (v n) 0 (h n (omega arith)) ∙ place_other n p (λ k q. h k (omega arith))

  place_put : (n k : ℕ) → k < n → at + n ≤ length l → get_or (put_places at n v l) (at + k) 0 ≡ v k
  unfolding put_places
  place_put zero k q h = absurd (omega arith)
  place_put (suc n) k q h = elim (dec_lt k n) [
    | yes p ↦ get_or-set_other (put_places at n v l) (at + n) (at + k) (v n) 0 (λ e. omega arith) ∙ place_put n k p (omega arith)
    | no p ↦ let e : k ≡ n = omega arith in
        ap (λ (j : ℕ). get_or (set (put_places at n v l) (at + n) (v n)) (at + j) 0) e
        ∙ get_or-set_same (put_places at n v l) (at + n) (v n) 0 (omega (arith, length_places n))
        ∙ ap v (sym e)
  ]

  places_small : Small 8 l → Bytes v → (n : ℕ) → Small 8 (put_places at n v l)
  unfolding put_places
  places_small hl hv zero = hl
  places_small hl hv (suc n) = set_small 8 (put_places at n v l) (at + n) (v n) (places_small hl hv n) (hv n)

-- a place is of one share and byte only
same_share_byte : (m i j k l : ℕ) → k < m → l < m → i * m + k ≡ j * m + l → (i ≡ j) × (k ≡ l)
same_share_byte m i j k l h q e = (
  sym (digits_div i h) ∙ ap (λ (p : ℕ). p / m) e ∙ digits_div j q,
  sym (digits_mod i h) ∙ ap (λ (p : ℕ). p % m) e ∙ digits_mod j q,
)

module _ (m at n : ℕ) (fits : at + n ≤ m) (a b : List ℕ) where
  length_put : (s : ℕ) → length (put_shares s m at n a b) ≡ length a
  unfolding put_shares
  length_put zero = refl
  length_put (suc s) = length_places (s * m + at) (share_byte n b s) (put_shares s m at n a b) n ∙ length_put s

  put_small : Small 8 a → Small 8 b → (s : ℕ) → Small 8 (put_shares s m at n a b)
  unfolding put_shares
  put_small ha hb zero = ha
  put_small ha hb (suc s) = places_small (s * m + at) (share_byte n b s) (put_shares s m at n a b) (put_small ha hb s) (λ k. hb _) n

  -- a byte that is not replaced
  put_other : (s i k : ℕ) → k < m → (i < s → (j : ℕ) → j < n → k ≢ at + j) → share_byte m (put_shares s m at n a b) i k ≡ share_byte m a i k
  unfolding put_shares
  put_other zero i k h g = refl
  put_other (suc s) i k h g =
      place_other (s * m + at) (share_byte n b s) (put_shares s m at n a b) n (i * m + k) apart ∙ put_other s i k h (λ l. g (omega arith))
    where
      apart : (j : ℕ) → j < n → i * m + k ≢ s * m + at + j
      apart j q e =
          let e' : i * m + k ≡ s * m + (at + j) = omega arith in
          let c = same_share_byte m i s k (at + j) h (omega arith) e' in
          g (omega arith) j q c.1

  -- a byte that is
  put_at_lem : length a ≡ 9 * m → (s i k : ℕ) → s ≤ 9 → i < s → k < n → share_byte m (put_shares s m at n a b) i (at + k) ≡ share_byte n b i k
  unfolding put_shares
  put_at_lem long zero i k nine l q = absurd (omega arith)
  put_at_lem long (suc s) i k nine l q = elim (dec_lt i s) [
    | yes p ↦ place_other (s * m + at) (share_byte n b s) (put_shares s m at n a b) n (i * m + (at + k))
        (λ j h e. let e' : i * m + (at + k) ≡ s * m + (at + j) = omega arith in
        let c = same_share_byte m i s (at + k) (at + j) (omega arith) (omega arith) e' in
        absurd (omega (arith, c.0)))
        ∙ put_at_lem long s i k (omega arith) p q
    | no p ↦ let e : i ≡ s = omega arith in
        let room : suc s * m ≤ 9 * m = mul-le-mul_right m nine in
        let size : suc s * m ≡ s * m + m = suc-mul s m in
        let place : i * m + (at + k) ≡ s * m + at + k = ap (λ (j : ℕ). j * m + (at + k)) e ∙ omega arith in
        ap (λ (r : ℕ). get_or (put_places (s * m + at) n (share_byte n b s) (put_shares s m at n a b)) r 0) place
        ∙ place_put (s * m + at) (share_byte n b s) (put_shares s m at n a b) n k q (omega (arith, length_put s))
        ∙ ap (λ (j : ℕ). share_byte n b j k) (sym e)
  ]

-- what is replaced is a byte of b, in each of the nine places where both are 0 past s
pub shared_put : (m at n s : ℕ) → at + n ≤ m → s ≤ 9 → {x y a b : List ℕ} → Shared m s x a → Shared n s y b
    → Shared m s (make m (put_at at n) x y) (put_shares s m at n a b)
unfolding make
shared_put m at n s fits nine {x} {y} {a} {b} ha hb =
    record {
      places = length_put m at n fits a b s ∙ ha.places;
      small = put_small m at n fits a b ha.small hb.small s;
      past = past;
      joins = λ k l. joins k l ∙ sym (get_d_tabulate m (put_at at n (byte_at x) (byte_at y)) k 0 l);
    }
  where
    past : (i k : ℕ) → s ≤ i → k < m → share_byte m (put_shares s m at n a b) i k ≡ 0
    past i k p l = put_other m at n fits a b s i k l (λ q. absurd (omega arith)) ∙ ha.past i k p l

    kept : (k : ℕ) → k < m → ((j : ℕ) → j < n → k ≢ at + j) → join (tabulate 9 (λ i. share_byte m (put_shares s m at n a b) i k)) ≡ byte_at x k
    kept k l g = ap join (tabulate_same 9 _ _ (λ i q. put_other m at n fits a b s i k l (λ p. g))) ∙ ha.joins k l

    here : (i k : ℕ) → k < n → share_byte m (put_shares s m at n a b) i (at + k) ≡ share_byte n b i k
    here i k q = elim (dec_lt i s) [
      | yes p ↦ put_at_lem m at n fits a b ha.places s i k nine p q
      | no p ↦ past i (at + k) (omega arith) (omega arith) ∙ sym (hb.past i k (omega arith) q)
    ]

    joins : (k : ℕ) → k < m → join (tabulate 9 (λ i. share_byte m (put_shares s m at n a b) i k)) ≡ put_at at n (byte_at x) (byte_at y) k
    joins k l = elim (dec_lt k at) [
      | yes p ↦ kept k l (λ j q e. omega arith) ∙ sym (put_before at n (byte_at x) (byte_at y) k p)
      | no p ↦ elim (dec_lt k (at + n)) [
        | yes q ↦ let e : at + (k - at) ≡ k = omega arith in
            ap (λ (r : ℕ). join (tabulate 9 (λ i. share_byte m (put_shares s m at n a b) i r))) (sym e)
            ∙ ap join (tabulate_same 9 _ _ (λ i r. here i (k - at) (omega arith)))
            ∙ hb.joins (k - at) (omega arith)
            ∙ sym (put_here at n (byte_at x) (byte_at y) (k - at) (omega arith))
            ∙ ap (put_at at n (byte_at x) (byte_at y)) e
        | no q ↦ kept k l (λ j r e. omega arith) ∙ sym (put_after at n (byte_at x) (byte_at y) k (omega arith))
      ]
    ]

pub alike_put : (m at n s : ℕ) → at + n ≤ m → s ≤ 9 → {u : ℕ} {a a' : List ℕ} (b b' : List ℕ) → Alike m u a a' → Small 8 b → Small 8 b'
    → ((i k : ℕ) → i ≢ u → k < n → share_byte n b i k ≡ share_byte n b' i k) → Alike m u (put_shares s m at n a b) (put_shares s m at n a' b')
alike_put m at n s fits nine {u} {a} {a'} b b' ha hb hb' same =
    record {
      places = length_put m at n fits a b s ∙ ha.places;
      places' = length_put m at n fits a' b' s ∙ ha.places';
      small = put_small m at n fits a b ha.small hb s;
      small' = put_small m at n fits a' b' ha.small' hb' s;
      agree = agree;
    }
  where
    kept : (i k : ℕ) → i ≢ u → k < m → (i < s → (j : ℕ) → j < n → k ≢ at + j)
        → share_byte m (put_shares s m at n a b) i k ≡ share_byte m (put_shares s m at n a' b') i k
    kept i k f l g = put_other m at n fits a b s i k l g ∙ ha.agree i k f l ∙ sym (put_other m at n fits a' b' s i k l g)

    agree : (i k : ℕ) → i ≢ u → k < m → share_byte m (put_shares s m at n a b) i k ≡ share_byte m (put_shares s m at n a' b') i k
    agree i k f l = elim (dec_lt i s) [
      | yes p ↦ elim (dec_lt k at) [
        | yes q ↦ kept i k f l (λ o j r e. omega arith)
        | no q ↦ elim (dec_lt k (at + n)) [
          | yes r ↦ let e : at + (k - at) ≡ k = omega arith in
              ap (share_byte m (put_shares s m at n a b) i) (sym e)
              ∙ put_at_lem m at n fits a b ha.places s i (k - at) nine p (omega arith)
              ∙ same i (k - at) f (omega arith)
              ∙ sym (put_at_lem m at n fits a' b' ha.places' s i (k - at) nine p (omega arith))
              ∙ ap (share_byte m (put_shares s m at n a' b') i) e
          | no r ↦ kept i k f l (λ o j t e. omega arith)
        ]
      ]
      | no p ↦ kept i k f l (λ o. absurd (omega arith))
    ]
