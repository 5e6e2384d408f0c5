-- Shares as bytes, as Split and Join have them, and as the numbers that a masked call computes with.
use mathlib.Core.Path.{◌≡◌, refl, sym, ap, ap₂, ◌∙◌}
use mathlib.Core.List.{List, [], ◌∷◌}
use Prim.Native.Nat.{ℕ, zero, suc, ◌+◌, ◌-◌, ◌*◌, ◌^◌, ◌<◌}
use native.Mathlib.Nat.{zero-add, mul-zero, mul-suc}
use native.Mathlib.Omega.{arith}
use lib.ListN.{length, get_or, length-append}
use Rattle.xor.specs.Xor.{◌⊕◌}
use Rattle.xor.specs.Sum.{join, Small, add_lists}
use Rattle.xor.proofs.Xor.{⊕-lt}
use Rattle.xor.proofs.Sum.{small_append, join_cons, join_nil, join_small}
use Rattle.steps.specs.Fill.{tabulate}
use Rattle.steps.specs.Operations.{column, masked_byte, split_shares, joined_byte, join_shares}
use Rattle.steps.proofs.Fill.{length_tabulate, tabulate_same}
use Rattle.steps.specs.Sharing.{Sharing}
use Rattle.steps.proofs.Sharing.{tabulated_past, small_tabulate}
use Rattle.steps.proofs.Number.{number_lt}
use Rattle.steps.specs.Bytes.{from_bytes, to_bytes}
use Rattle.steps.proofs.Bytes.{length_to_bytes, to_bytes_small, from_bytes_add, to_from_bytes}
use Rattle.steps.specs.ShareBytes.{bytes_at, share_at, shares_of, bytes_of}

-- the s shares that lie in bytes are a sharing of what they join to
pub shares_sharing : (w s : ℕ) (l : List ℕ) → Small 8 l → Sharing (8 * w) s (join (shares_of w s l)) (shares_of w s l)
unfolding shares_of share_at
shares_sharing w s l h =
    record {
      small = small_tabulate (8 * w) s (share_at w l) (λ i. number_lt (w * i) l h w);
      past = tabulated_past s (share_at w l);
      joins = refl;
    }

-- ---- bytes that are below 256

-- byte j of each of k strings, and their sum
small_column : (l : List ℕ) → Small 8 l → (n j k : ℕ) → Small 8 (column l n j k)
unfolding column
small_column l h n j zero i = omega arith
small_column l h n j (suc k) zero = h j
small_column l h n j (suc k) (suc i) = small_column l h n (j + n) k i

column_lt : (l : List ℕ) → Small 8 l → (n j k : ℕ) → join (column l n j k) < 2 ^ 8
column_lt l h n j k = join_small 8 (column l n j k) (small_column l h n j k)

-- what Split writes
pub small_split : (s : ℕ) (value masks : List ℕ) → Small 8 value → Small 8 masks → Small 8 (split_shares s value masks)
unfolding split_shares masked_byte
small_split s value masks hv hm =
    small_append 8 (tabulate (length value) (masked_byte value (s - 1) masks)) masks
    (small_tabulate 8 (length value) (masked_byte value (s - 1) masks)
    (λ j. ⊕-lt 8 (hv j) (column_lt masks hm (length value) j (s - 1)))) hm

-- ---- the bytes of shares

pub bytes_of_small : (w : ℕ) (shares : List ℕ) → Small 8 (bytes_of w shares)
unfolding bytes_of
bytes_of_small w [] i = omega arith
bytes_of_small w (x ∷ shares) i = small_append 8 (to_bytes w x) (bytes_of w shares) (to_bytes_small w x) (bytes_of_small w shares) i

pub bytes_of_length : (w : ℕ) (shares : List ℕ) → length (bytes_of w shares) ≡ w * length shares
unfolding bytes_of
bytes_of_length w [] = sym (mul-zero w)
bytes_of_length w (x ∷ shares) =
    omega (arith, length-append (to_bytes w x) (bytes_of w shares), length_to_bytes w x, bytes_of_length w shares, mul-suc w (length shares))

-- ---- bytes added place by place

tabulate_add : (w : ℕ) (f g : ℕ → ℕ) → add_lists (tabulate w f) (tabulate w g) ≡ tabulate w (λ j. f j ⊕ g j)
unfolding tabulate add_lists
tabulate_add zero f g = refl
tabulate_add (suc w) f g = ap (λ (l : List ℕ). f 0 ⊕ g 0 ∷ l) (tabulate_add w (λ i. f (suc i)) (λ i. g (suc i)))

number_add : (w : ℕ) (f g : ℕ → ℕ) → ((j : ℕ) → f j < 2 ^ 8) → ((j : ℕ) → g j < 2 ^ 8)
    → from_bytes (tabulate w (λ j. f j ⊕ g j)) ≡ from_bytes (tabulate w f) ⊕ from_bytes (tabulate w g)
number_add w f g hf hg =
    ap from_bytes (sym (tabulate_add w f g))
    ∙ from_bytes_add (tabulate w f) (tabulate w g) (length_tabulate w f ∙ sym (length_tabulate w g))
    (small_tabulate 8 w f hf) (small_tabulate 8 w g hg)

number_zero : (w : ℕ) → from_bytes (tabulate w (λ j. 0)) ≡ 0
unfolding tabulate from_bytes
number_zero zero = refl
number_zero (suc w) = rw (number_zero w) (omega arith)

-- s strings of w bytes from `at` on, added byte by byte, are the sum of their numbers
columns_join : (w : ℕ) (l : List ℕ) → Small 8 l → (s at : ℕ)
    → from_bytes (tabulate w (λ j. join (column l w (at + j) s))) ≡ join (tabulate s (λ i. from_bytes (bytes_at (at + w * i) w l)))
unfolding column tabulate bytes_at
columns_join w l h zero at =
    ap from_bytes (tabulate_same w (λ j. join []) (λ j. 0) (λ j k. join_nil)) ∙ number_zero w ∙ sym join_nil
columns_join w l h (suc s) at =
    let f : ℕ → ℕ = λ j. get_or l (at + j) 0 in
    let g : ℕ → ℕ = λ j. join (column l w (at + j + w) s) in
    let swap : (j : ℕ) → at + j + w ≡ at + w + j = λ j. omega arith in
    let here : at ≡ at + w * 0 = omega (arith, mul-zero w) in
    let next : (i : ℕ) → at + w + w * i ≡ at + w * suc i = λ i. omega (arith, mul-suc w i) in
    ap from_bytes (tabulate_same w (λ j. join (column l w (at + j) (suc s))) (λ j. f j ⊕ g j)
    (λ j k. join_cons (get_or l (at + j) 0) (column l w (at + j + w) s)))
    ∙ number_add w f g (λ j. h (at + j)) (λ j. column_lt l h w (at + j + w) s)
    ∙ ap₂ (λ (x y : ℕ). x ⊕ y) (ap (λ (p : ℕ). from_bytes (bytes_at p w l)) here)
    (ap from_bytes (tabulate_same w g (λ j. join (column l w (at + w + j) s)) (λ j k. ap (λ (p : ℕ). join (column l w p s)) (swap j)))
    ∙ columns_join w l h s (at + w)
    ∙ ap join (tabulate_same s (λ i. from_bytes (bytes_at (at + w + w * i) w l)) (λ i. from_bytes (bytes_at (at + w * suc i) w l))
    (λ i k. ap (λ (p : ℕ). from_bytes (bytes_at p w l)) (next i))))
    ∙ sym (join_cons (from_bytes (bytes_at (at + w * 0) w l)) (tabulate s (λ i. from_bytes (bytes_at (at + w * suc i) w l))))

-- ---- Join and Split

-- what Join writes, as a number, is what the shares join to
pub join_number : (w s : ℕ) (l : List ℕ) → Small 8 l → from_bytes (join_shares w s l) ≡ join (shares_of w s l)
unfolding join_shares joined_byte shares_of share_at
join_number w s l h =
    ap from_bytes (tabulate_same w (λ j. join (column l w j s)) (λ j. join (column l w (0 + j) s))
    (λ j k. ap (λ (p : ℕ). join (column l w p s)) (sym (zero-add j))))
    ∙ columns_join w l h s 0
    ∙ ap join (tabulate_same s (λ i. from_bytes (bytes_at (0 + w * i) w l)) (λ i. from_bytes (bytes_at (w * i) w l))
    (λ i k. ap (λ (p : ℕ). from_bytes (bytes_at p w l)) (zero-add (w * i))))

-- so it writes the bytes of this number
pub join_writes : (w s : ℕ) (l : List ℕ) → Small 8 l → join_shares w s l ≡ to_bytes w (join (shares_of w s l))
unfolding join_shares joined_byte
join_writes w s l h =
    let f : ℕ → ℕ = λ j. join (column l w j s) in
    sym (to_from_bytes (tabulate w f) (small_tabulate 8 w f (λ j. column_lt l h w j s)))
    ∙ ap₂ to_bytes (length_tabulate w f) (join_number w s l h)
