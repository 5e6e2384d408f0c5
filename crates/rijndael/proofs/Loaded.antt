-- Strings in shares and bytes that lie one after the other: the shares that a call is given, those that it writes, and those that masks settle.
use mathlib.Core.Path.{◌≡◌, refl, sym, ap, ap₂, ◌∙◌}
use mathlib.Core.Logic.{◌≢◌}
use mathlib.Core.List.{List, [], ◌∷◌, ◌++◌, map}
use Prim.Native.Nat.{ℕ, zero, suc, ◌+◌, ◌*◌, ◌/◌, ◌%◌, ◌^◌, ◌≤◌, ◌<◌}
use native.Mathlib.Nat.{zero-mul, suc-mul, mul_comm}
use native.Mathlib.Decide.{dec_lt}
use native.Mathlib.Omega.{arith}
use lib.Arith.{digits_lt}
use lib.ListN.{length, get_or-eq_default, get_or-append}
use lib.Seq.{get_or-append-add}
use Rattle.xor.specs.Xor.{◌⊕◌}
use Rattle.xor.specs.Sum.{join, Small}
use Rattle.xor.proofs.Xor.{⊕-zero, ⊕-shr, ⊕-mod}
use Rattle.xor.proofs.Sum.{additive_below_zero}
use Rattle.steps.specs.Fill.{tabulate}
use Rattle.steps.specs.Linear.{Linear}
use Rattle.steps.specs.Bytes.{to_bytes}
use Rattle.steps.specs.ShareBytes.{bytes_of}
use Rattle.steps.specs.Operations.{column, joined_byte, join_shares}
use Rattle.steps.specs.Sharing.{share, Sharing, Close}
use Rattle.steps.proofs.Fill.{length_tabulate, get_d_tabulate, tabulate_same}
use Rattle.steps.proofs.Bytes.{length_to_bytes, to_bytes_small}
use Rattle.steps.proofs.ShareBytes.{bytes_of_small}
use Rattle.steps.proofs.Sharing.{small_tabulate, without_past}
use Rattle.steps.proofs.ShareWise.{share_map, sharing_map, close_map}
use Rattle.rijndael.specs.Strings.{byte_at, share_byte, loaded, Shared}
use Rattle.rijndael.specs.LinearLayers.{Alike}
use Rattle.rijndael.proofs.Strings.{places_le, past_nine}

module _ (m : ℕ) (a : List ℕ) where
  length_loaded : length (loaded m a) ≡ 9 * m
  unfolding loaded
  length_loaded = length_tabulate (9 * m) (byte_at a)

  share_byte_loaded : (i k : ℕ) → i < 9 → k < m → share_byte m (loaded m a) i k ≡ share_byte m a i k
  unfolding loaded
  share_byte_loaded i k p q = get_d_tabulate (9 * m) (byte_at a) (i * m + k) 0 (digits_lt p q)

  loaded_small : Small 8 a → Small 8 (loaded m a)
  unfolding loaded
  loaded_small h = small_tabulate 8 (9 * m) (byte_at a) h

-- a sum of which only the first s terms count
join_first : (s : ℕ) → s ≤ 9 → (g : ℕ → ℕ) → ((i : ℕ) → s ≤ i → i < 9 → g i ≡ 0) → join (tabulate 9 g) ≡ join (tabulate s g)
join_first s nine g h =
    sym (without_past s (tabulate 9 g) past)
    ∙ ap join (tabulate_same s (share (tabulate 9 g)) g (λ i l. get_d_tabulate 9 g i 0 (omega arith)))
  where
    past : (i : ℕ) → s ≤ i → share (tabulate 9 g) i ≡ 0
    past i l = elim (dec_lt i 9) [
      | yes p ↦ get_d_tabulate 9 g i 0 p ∙ h i l p
      | no p ↦ get_or-eq_default (tabulate 9 g) 0 {n = i} (omega (arith, length_tabulate 9 g))
    ]

-- ---- the shares that lie in bytes, and what Join makes of them

-- byte k of each of s shares
column_is : (m : ℕ) (l : List ℕ) (s k : ℕ) → column l m k s ≡ tabulate s (λ i. share_byte m l i k)
unfolding column tabulate
column_is m l zero k = refl
column_is m l (suc s) k =
    let first : 0 * m + k ≡ k = omega (arith, zero-mul m) in
    let next : (i : ℕ) → i * m + (k + m) ≡ suc i * m + k = λ i. omega (arith, suc-mul i m) in
    ap₂ (λ (v : ℕ) (r : List ℕ). v ∷ r) (ap (byte_at l) (sym first))
    (column_is m l s (k + m) ∙ tabulate_same s _ _ (λ i q. ap (byte_at l) (next i)))

joined_byte_lem : (m s : ℕ) (l : List ℕ) (k : ℕ) → k < m → byte_at (join_shares m s l) k ≡ join (tabulate s (λ i. share_byte m l i k))
unfolding join_shares joined_byte
joined_byte_lem m s l k h = get_d_tabulate m (λ j. join (column l m j s)) k 0 h ∙ ap join (column_is m l s k)

-- s shares of m bytes are a sharing of what Join makes of them
pub shared_loaded : (m s : ℕ) (a : List ℕ) → s ≤ 9 → length a ≡ m * s → Small 8 a → Shared m s (join_shares m s a) (loaded m a)
shared_loaded m s a nine long h =
    record { places = length_loaded m a; small = loaded_small m a h; past = past; joins = joins }
  where
    none : (i k : ℕ) → s ≤ i → share_byte m a i k ≡ 0
    none i k p = get_or-eq_default a 0 {n = i * m + k} (rw (long, mul_comm m s) (places_le m k p))

    past : (i k : ℕ) → s ≤ i → k < m → share_byte m (loaded m a) i k ≡ 0
    past i k p q = elim (dec_lt i 9) [
      | yes n ↦ share_byte_loaded m a i k n q ∙ none i k p
      | no n ↦ past_nine m (loaded m a) (length_loaded m a) i k (omega arith)
    ]

    joins : (k : ℕ) → k < m → join (tabulate 9 (λ i. share_byte m (loaded m a) i k)) ≡ byte_at (join_shares m s a) k
    joins k q =
        ap join (tabulate_same 9 _ (λ i. share_byte m a i k) (λ i n. share_byte_loaded m a i k n q))
        ∙ join_first s nine (λ i. share_byte m a i k) (λ i p n. none i k p)
        ∙ sym (joined_byte_lem m s a k q)

-- what Join makes of the s shares of a sharing of x
pub join_stored : (m s : ℕ) (x c : List ℕ) → s ≤ 9 → Shared m s x c → join_shares m s (tabulate (m * s) (byte_at c)) ≡ tabulate m (byte_at x)
unfolding join_shares joined_byte
join_stored m s x c nine h = tabulate_same m _ (byte_at x) at
  where
    stored : List ℕ
    stored = tabulate (m * s) (byte_at c)

    same : (k : ℕ) → k < m → (i : ℕ) → i < s → share_byte m stored i k ≡ share_byte m c i k
    same k q i p = get_d_tabulate (m * s) (byte_at c) (i * m + k) 0 (rw (mul_comm m s) (digits_lt p q))

    at : (k : ℕ) → k < m → join (column stored m k s) ≡ byte_at x k
    at k q =
        ap join (column_is m stored s k ∙ tabulate_same s _ (λ i. share_byte m c i k) (same k q))
        ∙ sym (join_first s nine (λ i. share_byte m c i k) (λ i p n. h.past i k p q)) ∙ h.joins k q

-- ---- the bytes of numbers

-- byte k of a number of w bytes
byte_of : ℕ → ℕ → ℕ → ℕ
byte_of w k x = byte_at (to_bytes w x) k

module _ (w : ℕ) where
  byte_add : (k x y : ℕ) → byte_of w k (x ⊕ y) ≡ byte_of w k x ⊕ byte_of w k y
  unfolding byte_of to_bytes
  byte_add k x y = go w k
    where
      go : (w k : ℕ) → byte_at (to_bytes w (x ⊕ y)) k ≡ byte_at (to_bytes w x) k ⊕ byte_at (to_bytes w y) k
      go zero k = sym (⊕-zero 0)
      go (suc w) zero = ap (λ (v : ℕ). v % 256) (⊕-shr x y (8 * w)) ∙ ⊕-mod (x / 2 ^ (8 * w)) (y / 2 ^ (8 * w)) 8
      go (suc w) (suc k) = go w k

  byte_linear : (k : ℕ) → Linear (8 * w) 8 (byte_of w k)
  unfolding byte_of
  byte_linear k = record { additive = λ x y hx hy. byte_add k x y; small = λ x h. to_bytes_small w x k }

  byte_zero : (k : ℕ) → byte_of w k 0 ≡ 0
  byte_zero k = additive_below_zero (8 * w) (byte_of w k) (byte_linear k).additive

  -- byte k of share i of the bytes of shares
  bytes_at_lem : (a : List ℕ) (i k : ℕ) → k < w → share_byte w (bytes_of w a) i k ≡ byte_of w k (share a i)
  unfolding bytes_of byte_of
  bytes_at_lem [] i k h = sym (byte_zero k)
  bytes_at_lem (x ∷ a) zero k h =
      let e : 0 * w + k ≡ k = omega (arith, zero-mul w) in
      ap (byte_at (to_bytes w x ++ bytes_of w a)) e ∙ get_or-append (to_bytes w x) (bytes_of w a) 0 k (omega (arith, length_to_bytes w x))
  bytes_at_lem (x ∷ a) (suc i) k h =
      let e : suc i * w + k ≡ length (to_bytes w x) + (i * w + k) = omega (arith, suc-mul i w, length_to_bytes w x) in
      ap (byte_at (to_bytes w x ++ bytes_of w a)) e ∙ get_or-append-add (to_bytes w x) (bytes_of w a) (i * w + k) 0 ∙ bytes_at_lem a i k h

  taken : (a : List ℕ) (i k : ℕ) → i < 9 → k < w → share_byte w (loaded w (bytes_of w a)) i k ≡ share (map (byte_of w k) a) i
  taken a i k p q = share_byte_loaded w (bytes_of w a) i k p q ∙ bytes_at_lem a i k q ∙ sym (share_map (byte_linear k) a i)

  -- the bytes of a sharing of x are a sharing of the bytes of x
  pub shared_bytes : {s x : ℕ} {a : List ℕ} → s ≤ 9 → Sharing (8 * w) s x a → Shared w s (to_bytes w x) (loaded w (bytes_of w a))
  unfolding byte_of
  shared_bytes {s} {x} {a} nine h =
      record { places = length_loaded w (bytes_of w a); small = loaded_small w (bytes_of w a) (bytes_of_small w a); past = past; joins = joins }
    where
      past : (i k : ℕ) → s ≤ i → k < w → share_byte w (loaded w (bytes_of w a)) i k ≡ 0
      past i k p q = elim (dec_lt i 9) [
        | yes n ↦ taken a i k n q ∙ (sharing_map (byte_linear k) h).past i p
        | no n ↦ past_nine w (loaded w (bytes_of w a)) (length_loaded w (bytes_of w a)) i k (omega arith)
      ]

      joins : (k : ℕ) → k < w → join (tabulate 9 (λ i. share_byte w (loaded w (bytes_of w a)) i k)) ≡ byte_at (to_bytes w x) k
      joins k q =
          let g = sharing_map (byte_linear k) h in
          ap join (tabulate_same 9 _ (share (map (byte_of w k) a)) (λ i n. taken a i k n q))
          ∙ without_past 9 (map (byte_of w k) a) (λ i l. g.past i (omega arith)) ∙ g.joins

  pub alike_bytes : {u : ℕ} {a b : List ℕ} → Close (8 * w) u a b → Alike w u (loaded w (bytes_of w a)) (loaded w (bytes_of w b))
  alike_bytes {u} {a} {b} c = record {
    places = length_loaded w (bytes_of w a);
    places' = length_loaded w (bytes_of w b);
    small = loaded_small w (bytes_of w a) (bytes_of_small w a);
    small' = loaded_small w (bytes_of w b) (bytes_of_small w b);
    agree = agree;
  }
    where
      agree : (i k : ℕ) → i ≢ u → k < w → share_byte w (loaded w (bytes_of w a)) i k ≡ share_byte w (loaded w (bytes_of w b)) i k
      agree i k f q = elim (dec_lt i 9) [
        | yes n ↦ taken a i k n q ∙ (close_map (byte_linear k) c).agree i f ∙ sym (taken b i k n q)
        | no n ↦ past_nine w (loaded w (bytes_of w a)) (length_loaded w (bytes_of w a)) i k (omega arith)
            ∙ sym (past_nine w (loaded w (bytes_of w b)) (length_loaded w (bytes_of w b)) i k (omega arith))
      ]
