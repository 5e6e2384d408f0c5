-- The laws of Split and Join: the bytes of each share, that joining what Split writes gives the value, and the calls that they accept.
use mathlib.Core.Path.{◌≡◌, refl, sym, ap, ap₂, ◌∙◌}
use mathlib.Core.Bool.{true, and-eq-true_iff}
use mathlib.Core.List.{List, [], ◌∷◌, ◌++◌}
use Prim.Native.Nat.{ℕ, zero, suc, ◌+◌, ◌-◌, ◌*◌, ◌≤◌, ◌<◌}
use native.Mathlib.Nat.{suc-mul, add_assoc, not-suc-le-zero, mul-le-mul}
use native.Mathlib.Numerals.{add-one}
use native.Mathlib.Omega.{arith}
use borrow.Author.Tests.{eqb-true, eq-eqb, le-leb}
use lib.Dec.{eqb}
use lib.ListN.{length, get_or, length-append, get_or-append}
use lib.Seq.{get_or-append-add}
use Rattle.xor.specs.Xor.{◌⊕◌}
use Rattle.xor.specs.Sum.{join}
use Rattle.xor.proofs.Xor.{⊕-zero, zero_⊕, ⊕-assoc, ⊕-is}
use Rattle.xor.proofs.Sum.{join_nil, join_cons, join_split}
use Rattle.refusal.specs.Outcome.{done}
use Rattle.refusal.specs.Range.{one_to}
use Rattle.steps.specs.Fill.{tabulate}
use Rattle.steps.specs.Operations.{column, masked_byte, split_shares, split_lengths, split_outcome, joined_byte, join_shares, join_lengths, join_outcome}
use Rattle.refusal.proofs.Outcome.{passed}
use Rattle.refusal.proofs.Range.{one_to_range}
use Rattle.steps.proofs.Fill.{length_tabulate, get_d_tabulate, tabulate_same, tabulate_get_or}

-- up to nine shares of up to 16 bytes
pub few_bytes : {s n : ℕ} → s ≤ 9 → n ≤ 16 → s * n ≤ 144
few_bytes hs hn = mul-le-mul hs hn

-- k strings of n bytes are k - 1 of them and one
pub times_turn : (k n : ℕ) → 0 < k → k * n ≡ (k - 1) * n + n
times_turn zero n h = absurd (not-suc-le-zero h)
times_turn (suc k) n h = let e : suc k - 1 ≡ k = omega arith in rw (e, suc-mul)

-- a column of a list that has another before it
pub column_append : (a l : List ℕ) (n j k : ℕ) → column (a ++ l) n (length a + j) k ≡ column l n j k
unfolding column
column_append a l n j zero = refl
column_append a l n j (suc k) =
    ap₂ (λ (x : ℕ) (c : List ℕ). x ∷ c) (get_or-append-add a l j 0) (rw add_assoc (column_append a l n (j + n) k))

-- a column's sum from its first byte on, and of no byte
pub column_turn : (l : List ℕ) (n at k : ℕ) → 0 < k → join (column l n at k) ≡ get_or l at 0 ⊕ join (column l n (at + n) (k - 1))
unfolding column
column_turn l n at zero h = absurd (not-suc-le-zero h)
column_turn l n at (suc k) h = let e : suc k - 1 ≡ k = omega arith in rw e (join_cons (get_or l at 0) (column l n (at + n) k))

pub column_end : (l : List ℕ) (n at k : ℕ) → k ≤ 0 → join (column l n at k) ≡ 0
unfolding column
column_end l n at zero h = join_nil
column_end l n at (suc k) h = absurd (omega arith)

-- the sum of a column, and of the column that has one byte more
pub column_none : (l : List ℕ) (n at : ℕ) → join (column l n at 0) ≡ 0
unfolding column
column_none l n at = join_nil

pub column_more : (l : List ℕ) (n at k : ℕ) → join (column l n at (k + 1)) ≡ join (column l n at k) ⊕ get_or l (at + k * n) 0
unfolding column
column_more l n at k = rw (add-one k) (go at k)
  where
    go : (at k : ℕ) → join (column l n at (suc k)) ≡ join (column l n at k) ⊕ get_or l (at + k * n) 0
    go at zero =
        let here : at + 0 * n ≡ at = omega arith in
        rw (here, join_cons (get_or l at 0) [], join_nil) (⊕-zero (get_or l at 0) ∙ sym (zero_⊕ (get_or l at 0)))
    go at (suc k) =
        let next : at + n + k * n ≡ at + suc k * n = rw (suc-mul k n) (omega arith) in
        join_cons (get_or l at 0) (column l n (at + n) (suc k))
        ∙ ap (λ (x : ℕ). get_or l at 0 ⊕ x) (go (at + n) k)
        ∙ sym (⊕-assoc (get_or l at 0) (join (column l n (at + n) k)) (get_or l (at + n + k * n) 0))
        ∙ ap₂ ◌⊕◌ (sym (join_cons (get_or l at 0) (column l n (at + n) k))) (ap (λ (p : ℕ). get_or l p 0) next)

-- what a loop over a column is proved by
pub ruleset columns = (⊕-is, column_none, column_more)

-- ---- what Split writes

module _ (s : ℕ) (value masks : List ℕ) where
  -- share 0
  first : List ℕ
  first = tabulate (length value) (masked_byte value (s - 1) masks)

  length_first : length first ≡ length value
  unfolding first
  length_first = length_tabulate (length value) (masked_byte value (s - 1) masks)

  -- byte j of share 0 is that of the value plus that of every mask
  pub split_first : (j : ℕ) → j < length value
      → get_or (split_shares s value masks) j 0 ≡ get_or value j 0 ⊕ join (column masks (length value) j (s - 1))
  unfolding split_shares masked_byte first
  split_first j h =
      get_or-append first _ 0 j (omega (arith, length_first))
      ∙ get_d_tabulate (length value) (masked_byte value (s - 1) masks) j 0 h

  pub length_split : 0 < s → length masks ≡ (s - 1) * length value → length (split_shares s value masks) ≡ s * length value
  unfolding split_shares first
  length_split h e = omega (arith, length-append first masks, length_first, times_turn s (length value) h)

-- the column of the shares of byte j: that of share 0, and then those of the masks
split_column : (k : ℕ) (value masks : List ℕ) (j : ℕ) → j < length value
    → column (split_shares (suc k) value masks) (length value) j (suc k)
    ≡ get_or value j 0 ⊕ join (column masks (length value) j k) ∷ column masks (length value) j k
unfolding column split_shares first
split_column k value masks j h =
    let e : suc k - 1 ≡ k = omega arith in
    let next : j + length value ≡ length (first (suc k) value masks) + j = omega (arith, length_first (suc k) value masks) in
    ap₂ (λ (x : ℕ) (l : List ℕ). x ∷ l) (split_first (suc k) value masks j h ∙ ap (λ (i : ℕ). get_or value j 0 ⊕ join (column masks (length value) j i)) e)
    (rw next (column_append (first (suc k) value masks) masks (length value) j k))

-- joining what Split writes gives the value, whatever the masks are
pub join_of_split : (s : ℕ) (value masks : List ℕ) → 0 < s → join_shares (length value) s (split_shares s value masks) ≡ value
unfolding join_shares joined_byte
join_of_split zero value masks h = absurd (not-suc-le-zero h)
join_of_split (suc k) value masks h =
    tabulate_same (length value) (joined_byte (length value) (suc k) (split_shares (suc k) value masks)) (λ j. get_or value j 0)
    (λ j l. ap join (split_column k value masks j l) ∙ join_split (get_or value j 0) (column masks (length value) j k))
    ∙ tabulate_get_or value 0

-- ---- the tests

-- the lengths that Split takes, and that these are all
pub split_lengths_lem : (n s masks out : ℕ) → split_lengths n s masks out ≡ true → (one_to 16 n ≡ true) × (masks ≡ (s - 1) * n) × (out ≡ s * n)
unfolding split_lengths
split_lengths_lem n s masks out e =
    let value = (and-eq-true_iff (one_to 16 n) _).0 e in
    let rest = (and-eq-true_iff (eqb masks ((s - 1) * n)) _).0 value.1 in
    (value.0, eqb-true _ _ rest.0, eqb-true _ _ rest.1)

-- so what the shares are written to is as long as the value and the masks
pub split_fits : {n s masks out : ℕ} → one_to 9 s ≡ true → split_lengths n s masks out ≡ true
    → (1 ≤ s) × (n ≤ 16) × ((s - 1) * n ≡ masks) × (n + masks ≡ out)
split_fits {n} {s} {masks} {out} count e =
    let h = split_lengths_lem n s masks out e in
    let some = (one_to_range 9 s count).0 in
    (some, (one_to_range 16 n h.0).1, sym h.1, omega (arith, h.1, h.2, times_turn s n some))

split_lengths_right : (n s masks out : ℕ) → one_to 16 n ≡ true → masks ≡ (s - 1) * n → out ≡ s * n → split_lengths n s masks out ≡ true
unfolding split_lengths
split_lengths_right n s masks out h em eo = rw (h, eq-eqb masks ((s - 1) * n) em, eq-eqb out (s * n) eo) refl

-- those that Join takes, and that these are all
pub join_lengths_lem : (shares s out : ℕ) → join_lengths shares s out ≡ true → (one_to 16 out ≡ true) × (shares ≡ s * out)
unfolding join_lengths
join_lengths_lem shares s out e =
    let both = (and-eq-true_iff (one_to 16 out) _).0 e in
    (both.0, eqb-true _ _ both.1)

join_lengths_right : (shares s out : ℕ) → one_to 16 out ≡ true → shares ≡ s * out → join_lengths shares s out ≡ true
unfolding join_lengths
join_lengths_right shares s out h e = rw (h, eq-eqb shares (s * out) e) refl

-- where Split succeeds, its arguments pass the tests
pub split_succeeds : (n s masks out : ℕ) → split_outcome n s masks out ≡ done []
    → (one_to 9 s ≡ true) × (one_to 16 n ≡ true) × (masks ≡ (s - 1) * n) × (out ≡ s * n)
unfolding split_outcome
split_succeeds n s masks out e =
    let count = passed _ _ _ _ e in
    let lengths = split_lengths_lem n s masks out (passed _ _ _ _ count.1).0 in
    (count.0, lengths.0, lengths.1, lengths.2)

-- what Split writes where it succeeds, Join takes
pub join_takes_split : (s : ℕ) (value masks : List ℕ) (out : ℕ)
    → split_outcome (length value) s (length masks) out ≡ done []
    → join_outcome (length (split_shares s value masks)) s (length value) ≡ done []
unfolding join_outcome
join_takes_split s value masks out e =
    let h = split_succeeds (length value) s (length masks) out e in
    let total = length_split s value masks (one_to_range 9 s h.0).0 h.2 in
    rw (h.0, join_lengths_right (length (split_shares s value masks)) s (length value) h.1 total)

-- ---- arguments of the right lengths are accepted

pub in_range : (most x : ℕ) → 0 < x → x ≤ most → one_to most x ≡ true
unfolding one_to
in_range most x some few = rw (le-leb 1 x some, le-leb x most few) refl

-- by Split, for a value of n bytes,
pub split_accepts : (n s masks out : ℕ) → 0 < s → s ≤ 9 → 0 < n → n ≤ 16 → masks ≡ (s - 1) * n → out ≡ s * n
    → split_outcome n s masks out ≡ done []
unfolding split_outcome
split_accepts n s masks out some nine long few em eo =
    rw (in_range 9 s some nine, split_lengths_right n s masks out (in_range 16 n long few) em eo)

-- and by Join
pub join_accepts : (shares s out : ℕ) → 0 < s → s ≤ 9 → 0 < out → out ≤ 16 → shares ≡ s * out → join_outcome shares s out ≡ done []
unfolding join_outcome
join_accepts shares s out some nine long few e = rw (in_range 9 s some nine, join_lengths_right shares s out (in_range 16 out long few) e)

-- ---- a value of w bytes, split

module _ (w s : ℕ) (some : 0 < s) (value masks : List ℕ) (bytes : length value ≡ w) (masked : length masks ≡ (s - 1) * w) where
  -- how many bytes Split writes,
  pub split_length : length (split_shares s value masks) ≡ s * w
  split_length = length_split s value masks some (rw bytes masked) ∙ ap (λ (k : ℕ). s * k) bytes

  -- that it accepts the call,
  pub split_accepted : s ≤ 9 → 0 < w → w ≤ 16 → split_outcome (length value) s (length masks) (length (split_shares s value masks)) ≡ done []
  split_accepted nine long short =
      rw bytes (split_accepts w s (length masks) (length (split_shares s value masks)) some nine long short masked split_length)

  -- and that Join gives the value again
  pub split_joined : join_shares w s (split_shares s value masks) ≡ value
  split_joined = ap (λ (k : ℕ). join_shares k s (split_shares s value masks)) (sym bytes) ∙ join_of_split s value masks some

-- ---- values of one byte

-- byte 0 of each of k strings of one byte: the strings themselves
column_from : (l : List ℕ) (j k : ℕ) → column l 1 j k ≡ tabulate k (λ i. get_or l (j + i) 0)
unfolding column tabulate
column_from l j zero = refl
column_from l j (suc k) =
    let here : j ≡ j + 0 = omega arith in
    let next : (i : ℕ) → j + 1 + i ≡ j + suc i = λ i. omega arith in
    ap₂ (λ (x : ℕ) (m : List ℕ). x ∷ m) (ap (λ (i : ℕ). get_or l i 0) here)
    (column_from l (j + 1) k
    ∙ tabulate_same k (λ i. get_or l (j + 1 + i) 0) (λ i. get_or l (j + suc i) 0) (λ i h. ap (λ (a : ℕ). get_or l a 0) (next i)))

column_whole : (l : List ℕ) (k : ℕ) → length l ≡ k → column l 1 0 k ≡ l
column_whole l k e =
    let here : (i : ℕ) → 0 + i ≡ i = λ i. omega arith in
    column_from l 0 k
    ∙ tabulate_same k (λ i. get_or l (0 + i) 0) (λ i. get_or l i 0) (λ i h. ap (λ (a : ℕ). get_or l a 0) (here i))
    ∙ ap (λ (n : ℕ). tabulate n (λ i. get_or l i 0)) (sym e)
    ∙ tabulate_get_or l 0

-- Join adds the elements
pub join_elements : (s : ℕ) (shares : List ℕ) → length shares ≡ s → join_shares 1 s shares ≡ join shares ∷ []
unfolding join_shares joined_byte tabulate
join_elements s shares e = ap (λ (l : List ℕ). join l ∷ []) (column_whole shares s e)

-- Split gives the element plus all masks, and the masks
pub split_elements : (s x : ℕ) (masks : List ℕ) → length masks ≡ s - 1 → split_shares s (x ∷ []) masks ≡ x ⊕ join masks ∷ masks
unfolding split_shares masked_byte tabulate
split_elements s x masks e = ap (λ (l : List ℕ). x ⊕ join l ∷ masks) (column_whole masks (s - 1) e)
