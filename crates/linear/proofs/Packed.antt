-- Bits in a buffer of bytes: a bit that is set, and a row that is added.
use mathlib.Core.List.{List, ◌++◌}
use mathlib.Core.Path.{◌≡◌, refl, sym, ap, ap₂, ◌∙◌}
use mathlib.Core.Logic.{◌⊎◌, inl, inr}
use Prim.Native.Nat.{ℕ, suc, ◌+◌, ◌-◌, ◌*◌, ◌/◌, ◌%◌, ◌^◌, ◌≤◌, ◌<◌}
use native.Mathlib.Decide.{ℕ_discrete, dec_lt}
use native.Mathlib.Nat.{mod-lt, mod-eq_of_lt, zero-mul, one-mul, mul_assoc, mul-add-div_right, mul-add-mod_self_right, div-add-mod', lt_of_lt_of_le}
use native.Mathlib.Omega.{arith}
use lib.ListN.{drop, get_or, get_or-append, length, length-append, length-drop, length-replicate, length-set, length-take, replicate, set, take}
use lib.Pow.{pow_pos, pow_mono, shl_lt}
use borrow.Rule.Slice.PartMut.{put_mid}
use lib.Seq.{get_or-set_same, get_or-set_other}
use Rattle.std.proofs.Common.{get_or-drop, get_or-take}
use Rattle.xor.specs.Sum.{Small}
use Rattle.xor.specs.Xor.{◌⊕◌}
use Rattle.xor.proofs.Xor.{⊕-lt, ⊕-zero, ⊕-cancel, bit_cases}
use Rattle.linear.specs.Bits.{bit, bits}
pub use Rattle.linear.specs.Laws.{cell_elements, zero_bits, zeros_at}
use Rattle.linear.specs.Packed.{Added, bit_cell, bits_of, sum_bytes}
use Rattle.linear.specs.Buffer.{bytes, cell, Overwritten, Written}
use Rattle.linear.specs.Elimination.{Cleared, Eliminated, Pivot, RowAdded}
use Rattle.linear.specs.Row.{Agree, plus, times}
use Rattle.linear.proofs.Bits.{bit_lt, bit_sum, bit_zero, bit_here, bit_elsewhere, bit_laws}
use Rattle.linear.proofs.Buffer.{overwritten_next, overwritten_none, overwritten_values, part_written, row_room}
use Rattle.linear.proofs.Steps.{step_cleared, step_pivot_added}

-- ---- one byte

-- a byte b with bit i set to v
unfoldable pub byte_with : ℕ → ℕ → ℕ → ℕ
byte_with i v b = b ⊕ (b / 2 ^ i % 2 ⊕ v) * 2 ^ i % 256

module _ (i v b : ℕ) (hi : i < 8) (hv : v < 2) where
  change_lt : bit i b ⊕ v < 2
  change_lt = ⊕-lt 1 (bit_lt i b) hv

  with_is : byte_with i v b ≡ b ⊕ (bit i b ⊕ v) * 2 ^ i
  unfolding byte_with bit
  with_is =
      let small : (bit i b ⊕ v) * 2 ^ i < 2 ^ 8 = lt_of_lt_of_le (shl_lt 1 i change_lt) (pow_mono {j = 8} (omega arith)) in
      ap (λ (x : ℕ). b ⊕ x) (mod-eq_of_lt small)

  with_here : bit i (byte_with i v b) ≡ v
  with_here =
      ap (bit i) with_is ∙ bit_sum i b ((bit i b ⊕ v) * 2 ^ i) ∙ ap (λ (x : ℕ). bit i b ⊕ x) (bit_here i (bit i b ⊕ v) change_lt) ∙ ⊕-cancel (bit i b) v

  with_other : (j : ℕ) → (j ≡ i → ⊥) → bit j (byte_with i v b) ≡ bit j b
  with_other j n =
      ap (bit j) with_is ∙ bit_sum j b ((bit i b ⊕ v) * 2 ^ i) ∙ ap (λ (x : ℕ). bit j b ⊕ x) (bit_elsewhere i j (bit i b ⊕ v) change_lt n) ∙ ⊕-zero (bit j b)

  with_small : (n : ℕ) → i < n → b < 2 ^ n → byte_with i v b < 2 ^ n
  with_small n h g = rw with_is (⊕-lt n g (lt_of_lt_of_le (shl_lt 1 i change_lt) (pow_mono (omega arith))))

-- ---- a bit of a buffer

module _ (n : ℕ) (np : 0 < n) (a c : ℕ) where
  start_byte : (a * n + c) / n ≡ a + c / n
  start_byte = mul-add-div_right np a c

  start_bit : (a * n + c) % n ≡ c % n
  start_bit = mul-add-mod_self_right a n c

  -- bit c from byte a on
  pub bits_from : (l : List ℕ) → bits_of n l (a * n + c) ≡ bit (c % n) (get_or l (a + c / n) 0)
  bits_from l = ap₂ (λ (x y : ℕ). bit x (get_or l y 0)) start_bit start_byte

  module _ (l : List ℕ) (v : ℕ) (n8 : n ≤ 8) (room : a + c / n < length l) (hv : v < 2) where
    abbrev changed : List ℕ
    changed = set l (a + c / n) (byte_with (c % n) v (get_or l (a + c / n) 0))

    bit_place : c % n < n
    bit_place = mod-lt c np

    here : bits_of n changed (a * n + c) ≡ v
    here =
        bits_from changed ∙ ap (bit (c % n)) (get_or-set_same l (a + c / n) _ 0 room)
        ∙ with_here (c % n) v (get_or l (a + c / n) 0) (omega (arith, bit_place)) hv

    other : (j : ℕ) → (j ≡ a * n + c → ⊥) → bits_of n changed j ≡ bits_of n l j
    other j ne = elim (ℕ_discrete (j / n) (a + c / n)) [
      | yes e ↦
          let differs : j % n ≡ c % n → ⊥ =
          λ q. ne (sym (div-add-mod' j n) ∙ ap₂ (λ (x y : ℕ). x * n + y) (e ∙ sym start_byte) (q ∙ sym start_bit) ∙ div-add-mod' (a * n + c) n) in
          ap (λ (x : ℕ). bit (j % n) (get_or changed x 0)) e
          ∙ ap (bit (j % n)) (get_or-set_same l (a + c / n) _ 0 room)
          ∙ with_other (c % n) v (get_or l (a + c / n) 0) (omega (arith, bit_place)) hv (j % n) differs
          ∙ ap (λ (x : ℕ). bit (j % n) (get_or l x 0)) (sym e)
      | no g ↦ ap (bit (j % n)) (get_or-set_other l (a + c / n) (j / n) _ 0 g)
    ]

    -- bit c is set to v
    pub bit_written : Written (bits_of n l) (bits_of n changed) (a * n + c) 1 (λ j. v)
    bit_written = record {
      new = λ j h. let e : a * n + c + j ≡ a * n + c = omega arith in ap (bits_of n changed) e ∙ here;
      low = λ j h. other j (λ e. omega arith);
      high = λ j h. other j (λ e. omega arith);
    }

    pub small_written : Small n l → Small n changed
    small_written s k = elim (ℕ_discrete k (a + c / n)) [
      | yes e ↦ rw (e, get_or-set_same l (a + c / n) (byte_with (c % n) v (get_or l (a + c / n) 0)) 0 room)
          (with_small (c % n) v (get_or l (a + c / n) 0) (omega (arith, bit_place)) hv n bit_place (s (a + c / n)))
      | no g ↦ rw (get_or-set_other l (a + c / n) k (byte_with (c % n) v (get_or l (a + c / n) 0)) 0 g) (s k)
    ]

-- one bit that is written, and the others
pub written_here : {f₀ f : ℕ → ℕ} {a k v : ℕ} → Written f₀ f a 1 (λ j. v) → a ≡ k → f k ≡ v
written_here {f = f} {a = a} {k = k} u e = let q : k ≡ a + 0 = omega arith in ap f q ∙ u.new 0 (omega arith)

pub written_elsewhere : {f₀ f : ℕ → ℕ} {a k v : ℕ} → Written f₀ f a 1 (λ j. v) → a ≡ k → (j : ℕ) → (j ≡ k → ⊥) → f j ≡ f₀ j
written_elsewhere {a = a} u e j n = elim (dec_lt j a) [ yes l ↦ u.low j l | no g ↦ u.high j (omega arith) ]

-- ---- a row

-- bytes that are written one after the other, in a list that stays as long as it was
pub record Begun (l : List ℕ) (k : ℕ) (v : ℕ → ℕ) (m : List ℕ) : Type 0 where
  pub long : length m ≡ length l
  pub written : Overwritten l m 0 k v

pub begun_none : (l : List ℕ) (v : ℕ → ℕ) → Begun l 0 v l
begun_none l v = record { long = refl; written = overwritten_none l 0 v }

pub begun_next : {l : List ℕ} {k : ℕ} {v : ℕ → ℕ} {m : List ℕ} → Begun l k v m → (x : ℕ) → k < length l → x ≡ v k → Begun l (k + 1) v (set m k x)
begun_next {k = k} {m = m} u x h e = record { long = length-set m k x ∙ u.long; written = overwritten_next m u.written (omega (arith, u.long)) x e }

-- the d bytes from a on are lent, and as many bytes from b on of another buffer are added to them
pub part_added : (a b d e : ℕ) (l m p : List ℕ) {k : ℕ} → a + k ≤ length l → d ≡ k → e ≡ k → length p ≡ length (take d (drop a l))
    → Added (take d (drop a l)) (take e (drop b m)) p → Overwritten l (put_mid a d l p) a k (λ j. bytes l (a + j) ⊕ bytes m (b + j))
part_added a b d e l m p {k} room dk ek n ag =
    let whole : length (take d (drop a l)) ≡ k = simp (length-take, length-drop) (omega (arith, room, dk)) in
    rw dk (part_written a k l p room (n ∙ whole) (record {
      at = λ j h.
          ag.at j (omega (arith, whole))
          ∙ ap₂ ◌⊕◌ (get_or-take d (drop a l) j 0 (omega (arith, dk)) ∙ get_or-drop a l j 0) (get_or-take e (drop b m) j 0 (omega (arith, ek)) ∙ get_or-drop b m j 0);
    }))

-- so many more bytes are added
pub more_added : (l₀ l m : List ℕ) {f : ℕ → ℕ} (k e : ℕ) → Overwritten l₀ l 0 k (sum_bytes l₀ m) → Written (bytes l) f k e (λ j. bytes l (k + j) ⊕ bytes m (k + j))
    → Written (bytes l₀) f 0 (k + e) (sum_bytes l₀ m)
more_added l₀ l m {f} k e u w = record {
  new = λ j h. elim (dec_lt j k) [
    | yes g ↦ w.low (0 + j) (omega arith) ∙ u.new j g
    | no g ↦
        let i : ℕ = j - k in
        let at : k + i ≡ j = omega arith in
        let from : 0 + j ≡ k + i = omega arith in
        ap f from ∙ w.new i (omega arith) ∙ ap (λ (x : ℕ). bytes l x ⊕ bytes m x) at ∙ ap (λ (x : ℕ). x ⊕ bytes m j) (u.high j (omega arith))
  ];
  low = λ j h. absurd (omega arith);
  high = λ j h. w.high j (omega arith) ∙ u.high j (omega arith);
}

-- the sum of the bits of l from byte a on and those of a row from byte b on
abbrev pub sum_bits : List ℕ → List ℕ → ℕ → ℕ → ℕ → ℕ
sum_bits l row a b = plus bits (λ k. bits_of 8 l (a * 8 + k)) (λ k. bits_of 8 row (b * 8 + k))

-- bytes that are added, from byte b on to those from byte a on, are bits that are added
pub bytes_added : (l₀ l row : List ℕ) (a b k : ℕ) → Overwritten l₀ l a k (λ j. bytes l₀ (a + j) ⊕ bytes row (b + j))
    → Written (bits_of 8 l₀) (bits_of 8 l) (a * 8) (k * 8) (sum_bits l₀ row a b)
bytes_added l₀ l row a b k u = record {
  new = λ c h.
      bits_from 8 (omega arith) a c l ∙ ap (bit (c % 8)) (u.new (c / 8) (omega arith)) ∙ bit_sum (c % 8) (bytes l₀ (a + c / 8)) (bytes row (b + c / 8))
      ∙ sym (ap₂ ◌⊕◌ (bits_from 8 (omega arith) a c l₀) (bits_from 8 (omega arith) b c row));
  low = λ j h. ap (bit (j % 8)) (u.low (j / 8) (omega arith));
  high = λ j h. ap (bit (j % 8)) (u.high (j / 8) (omega arith));
}

-- ---- the rows of a matrix, of s bytes each

-- bit k of row i, from the row's first byte on
pub row_bit : (s : ℕ) (l : List ℕ) (i k : ℕ) → bits_of 8 l (i * s * 8 + k) ≡ bit_cell s l i k
row_bit s l i k = ap (λ (x : ℕ). bits_of 8 l (x + k)) (mul_assoc i s 8)

-- bytes that are added to row i are bits that are added to it
pub row_added : (s : ℕ) (l₀ l row : List ℕ) (i b : ℕ) → Overwritten l₀ l (i * s) s (λ j. bytes l₀ (i * s + j) ⊕ bytes row (b + j))
    → Written (bits_of 8 l₀) (bits_of 8 l) (i * (s * 8)) (s * 8) (plus bits (bit_cell s l₀ i) (λ k. bits_of 8 row (b * 8 + k)))
row_added s l₀ l row i b u = rw (mul_assoc i s 8) at (bytes_added l₀ l row (i * s) b s u)

-- a copy of row i, from byte b on
pub copied_bits : {f₀ : ℕ → ℕ} (s : ℕ) (l row : List ℕ) (i b : ℕ) → Written f₀ (bytes row) b s (cell s l i)
    → Agree (s * 8) (λ k. bits_of 8 row (b * 8 + k)) (times bits 1 (bit_cell s l i))
copied_bits s l row i b u = record {
  at = λ k h.
      bits_from 8 (omega arith) b k row ∙ ap (bit (k % 8)) (u.new (k / 8) (omega arith)) ∙ sym (bits_from 8 (omega arith) (i * s) k l) ∙ row_bit s l i k
      ∙ sym (one-mul (bit_cell s l i k));
}

-- s bytes of zeros at the start of a buffer, and from byte 64 on a copy of row i: 0 and 1 times the row
module _ (s : ℕ) (old zeros p l : List ℕ) (i : ℕ) (h : s ≤ 64) (room : 256 ≤ length old) (z : zeros ≡ replicate s 0) (n : length p ≡ s)
    (same : (j : ℕ) → j < s → bytes p j ≡ cell s l i j) where
  abbrev begun : List ℕ
  begun = zeros ++ drop s old

  abbrev copy : List ℕ
  copy = put_mid 64 (64 + s - 64) begun p

  zeros_length : length zeros ≡ s
  zeros_length = ap length z ∙ length-replicate s 0

  begun_length : length begun ≡ length old
  begun_length = length-append zeros (drop s old) ∙ omega (arith, zeros_length, length-drop s old)

  written : Overwritten begun copy 64 s (bytes p)
  written =
      let e : 64 + s - 64 ≡ s = omega arith in
      rw e (part_written 64 s begun p (omega (arith, begun_length)) n (record { at = λ j g. refl }))

  low : (j : ℕ) → j < s → bytes copy j ≡ 0
  low j g =
      written.low j (omega arith) ∙ get_or-append zeros (drop s old) 0 j (omega (arith, zeros_length)) ∙ ap (λ (t : List ℕ). get_or t j 0) z ∙ zeros_at s j

  pub multiples_copied : (f : ℕ) → f < 2 → Agree (s * 8) (λ k. bits_of 8 copy (f * 64 * 8 + k)) (times bits f (bit_cell s l i))
  multiples_copied f hf = go f (bit_cases f hf)
    where
      go : (f : ℕ) → (f ≡ 0) ⊎ (f ≡ 1) → Agree (s * 8) (λ k. bits_of 8 copy (f * 64 * 8 + k)) (times bits f (bit_cell s l i))
      go f (inl e) = record {
        at = λ k g. rw e
            (bits_from 8 (omega arith) 0 k copy ∙ ap (bit (k % 8)) (low (0 + k / 8) (omega arith)) ∙ bit_zero (k % 8) ∙ sym (zero-mul (bit_cell s l i k)));
      }
      go f (inr e) = record {
        at = λ k g. rw e
            (bits_from 8 (omega arith) 64 k copy ∙ ap (bit (k % 8)) (written.new (k / 8) (omega arith) ∙ same (k / 8) (omega arith))
            ∙ sym (bits_from 8 (omega arith) (i * s) k l) ∙ row_bit s l i k ∙ sym (one-mul (bit_cell s l i k)));
      }

-- row i takes up a multiple of row p
pub added_multiple : {f : ℕ → ℕ} (l₀ row l₁ : List ℕ) (s i p b x : ℕ) → Agree (s * 8) (λ k. bits_of 8 row (b * 8 + k)) (times bits x (bit_cell s l₁ p))
    → Written (bits_of 8 l₀) f (i * s * 8) (s * 8) (sum_bits l₀ row (i * s) b)
    → Written (bits_of 8 l₀) f (i * (s * 8)) (s * 8) (plus bits (bit_cell s l₀ i) (times bits x (bit_cell s l₁ p)))
added_multiple l₀ row l₁ s i p b x a u =
    rw (mul_assoc i s 8) at (overwritten_values u (λ k h. ap₂ ◌⊕◌ (row_bit s l₀ i k) (a.at k h)))

-- bit k of row i is within the buffer
pub bit_room : (s : ℕ) {i m L k : ℕ} → i < m → k < s * 8 → m * s ≤ L → i * s + k / 8 < L
bit_room s h g r = omega (arith, row_room s h r)

-- ---- a buffer of zeros

pub zero_small : (n k : ℕ) {l : List ℕ} → l ≡ replicate k 0 → Small n l
zero_small n k {l} e j = let z : get_or l j 0 ≡ 0 = ap (λ (t : List ℕ). get_or t j 0) e ∙ zeros_at k j in rw z (pow_pos n)

-- ---- one column

-- when the pivot's row is added to row r, its bit in column c is not 0 and so is 1: the rows are cleared with no scaling
module _ (m w c r p : ℕ) (M₀ M : ℕ → ℕ → ℕ) (cw : c < w) (h : Eliminated bits m w M₀ M c r) (pv : Pivot m c r p M)
    (N : ℕ → ℕ → ℕ) (a : RowAdded bits m w 1 r p M N) where
  rm : r < m
  rm = omega (arith, pv.after, pv.within)

  x : Eliminated bits m w M₀ N c r × (N r c ≡ 0 → ⊥)
  x = step_pivot_added bit_laws m w c r p M₀ M cw h pv N a

  pub bit_step : (O : ℕ → ℕ → ℕ) → Cleared bits m w c r m N O → Eliminated bits m w M₀ O (suc c) (suc r)
  bit_step O cl = step_cleared bit_laws m w c r M₀ N O cw rm x.0 (one (bit_cases (N r c) ((x.0.elements.at r rm).at c cw))) cl
    where
      one : (N r c ≡ 0) ⊎ (N r c ≡ 1) → N r c ≡ 1
      one (inl e) = absurd (x.1 e)
      one (inr e) = e
