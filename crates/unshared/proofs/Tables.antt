-- The laws of the tables: the eight entries of a block's bytes add up to what its layers make of it, and each entry can be computed from two nibbles.
use mathlib.Core.Path.{◌≡◌, refl, sym, ap, ap₂, ◌∙◌}
use mathlib.Core.List.{List}
use Prim.Native.Nat.{ℕ, zero, suc, ◌+◌, ◌*◌, ◌/◌, ◌%◌, ◌^◌, ◌<◌}
use native.Mathlib.Nat.{mul_assoc, lt_of_lt_of_le}
use native.Mathlib.Numerals.{add-one}
use native.Mathlib.Omega.{arith}
use lib.ListN.{get_or}
use lib.Pow.{pow_pos, pow-add, pow_mono, shl_lt, shr-shr}
use Rattle.xor.specs.Xor.{◌⊕◌}
use Rattle.xor.specs.Sum.{sum_of}
use Rattle.xor.proofs.Xor.{⊕-lt, ⊕-assoc}
use Rattle.xor.proofs.Sum.{sum_of_same, additive_below_zero}
use Rattle.steps.specs.Fill.{tabulate}
use Rattle.steps.proofs.Fill.{get_d_tabulate, tabulate_same}
use Rattle.field.proofs.Tests.{same_below}
use Rattle.steps.specs.Iterate.{turns, iterate}
use Rattle.present.specs.Present.{bit, nibble, substitute, sbox_layer, place, send, permute}
use Rattle.present.specs.Decrypt.{unsubstitute, fetch, unpermute}
use Rattle.steps.specs.Linear.{Linear}
use Rattle.present.proofs.Numbers.{⊕-shl, permute_linear, unpermute_linear}
use Rattle.present.proofs.Layer.{⊕-above, nibble_at, layer_is_sum}
use Rattle.present.proofs.Inverse.{substitute_lt, unsubstitute_lt}
use Rattle.unshared.specs.Table.{on_byte, entry, table_of, encryption_table, decryption_table}
use Rattle.unshared.specs.Lookup.{byte_entry, entries}

-- ---- sums

-- the terms of a sum, two by two
sum_of_pairs : (k : ℕ) (g : ℕ → ℕ) → sum_of (2 * k) g ≡ sum_of k (λ j. g (2 * j) ⊕ g (suc (2 * j)))
unfolding sum_of
sum_of_pairs zero g = refl
sum_of_pairs (suc k) g =
    let e : 2 * suc k ≡ suc (suc (2 * k)) = omega arith in
    rw (e, sum_of_pairs k g) (⊕-assoc (sum_of k (λ j. g (2 * j) ⊕ g (suc (2 * j)))) (g (2 * k)) (g (suc (2 * k))))

sum_fits : (n k : ℕ) (g : ℕ → ℕ) → ((i : ℕ) → i < k → g i < 2 ^ n) → sum_of k g < 2 ^ n
unfolding sum_of
sum_fits n zero g h = pow_pos n
sum_fits n (suc k) g h = ⊕-lt n (sum_fits n k g (λ i l. h i (omega arith))) (h k (omega arith))

-- a linear map takes a sum to the sum of what it makes of the terms
linear_sum : {m n : ℕ} {l : ℕ → ℕ} → Linear m n l → (k : ℕ) (g : ℕ → ℕ) → ((i : ℕ) → i < k → g i < 2 ^ m)
    → l (sum_of k g) ≡ sum_of k (λ i. l (g i))
unfolding sum_of
linear_sum {m} {n} {l} linear zero g h = additive_below_zero m l linear.additive
linear_sum {m} {n} {l} linear (suc k) g h =
    let h' : (i : ℕ) → i < k → g i < 2 ^ m = λ i p. h i (omega arith) in
    linear.additive (sum_of k g) (g k) (sum_fits m k g h') (h k (omega arith)) ∙ ap (λ (a : ℕ). a ⊕ l (g k)) (linear_sum linear k g h')

-- ---- the entries

-- EACH ENTRY of a table is what its rule says.
pub table_entry : (f l : ℕ → ℕ) (i : ℕ) → i < 2048 → get_or (table_of f l) i 0 ≡ entry f l i
unfolding table_of
table_entry f l i h = get_d_tabulate 2048 (entry f l) i 0 h

-- ---- a byte is two nibbles

module _ (f : ℕ → ℕ) (small : (v : ℕ) → f v < 2 ^ 4) where
  byte_is_nibbles : (v j : ℕ) → on_byte f v * 2 ^ (8 * j) ≡ f (v % 16) * 2 ^ (4 * (2 * j)) ⊕ f (v / 16) * 2 ^ (4 * suc (2 * j))
  unfolding on_byte
  byte_is_nibbles v j =
      let d : 4 * (2 * j) ≡ 8 * j = omega arith in
      let e : 4 * suc (2 * j) ≡ 4 + 8 * j = omega arith in
      ap (λ (a : ℕ). a * 2 ^ (8 * j)) (sym (⊕-above (f (v / 16)) 4 (f (v % 16)) (small (v % 16))))
      ∙ ⊕-shl (f (v % 16)) (f (v / 16) * 2 ^ 4) (8 * j)
      ∙ ap₂ ◌⊕◌ (ap (λ (n : ℕ). f (v % 16) * 2 ^ n) (sym d))
      (mul_assoc (f (v / 16)) (2 ^ 4) (2 ^ (8 * j)) ∙ ap (λ (n : ℕ). f (v / 16) * n) (sym (pow-add 2 4 (8 * j)) ∙ ap (λ (n : ℕ). 2 ^ n) (sym e)))

  nibble_fits : (v k : ℕ) → k < 16 → f v * 2 ^ (4 * k) < 2 ^ 64
  nibble_fits v k h = lt_of_lt_of_le (shl_lt 4 (4 * k) (small v)) (pow_mono {j = 64} (omega arith))

  module _ (l : ℕ → ℕ) (linear : Linear 64 64 l) where
    -- an entry, by its two nibbles
    pub entry_is_nibbles : (i : ℕ) → i < 2048
        → entry f l i ≡ l (f (i % 256 % 16) * 2 ^ (4 * (2 * (i / 256)))) ⊕ l (f (i % 256 / 16) * 2 ^ (4 * suc (2 * (i / 256))))
    unfolding entry
    entry_is_nibbles i h =
        ap l (byte_is_nibbles (i % 256) (i / 256))
        ∙ linear.additive _ _ (nibble_fits (i % 256 % 16) (2 * (i / 256)) (omega arith)) (nibble_fits (i % 256 / 16) (suc (2 * (i / 256))) (omega arith))

    -- the entry of byte j of a block
    byte_is : (x j : ℕ) → j < 8 → byte_entry (table_of f l) x j ≡ l (nibble_at f x (2 * j)) ⊕ l (nibble_at f x (suc (2 * j)))
    unfolding byte_entry nibble_at nibble
    byte_is x j h =
        let y = x / 2 ^ (8 * j) in
        let i = 256 * j + y % 256 in
        let place : i / 256 ≡ j = omega arith in
        let lower : i % 256 % 16 ≡ x / 2 ^ (4 * (2 * j)) % 16 =
        let e : 4 * (2 * j) ≡ 8 * j = omega arith in rw e (omega arith) in
        let upper : i % 256 / 16 ≡ x / 2 ^ (4 * suc (2 * j)) % 16 =
        let e : 4 * suc (2 * j) ≡ 8 * j + 4 = omega arith in rw (e, ← shr-shr x (8 * j) 4) (omega arith) in
        table_entry f l i (omega arith)
        ∙ entry_is_nibbles i (omega arith)
        ∙ rw (place, lower, upper)

    -- THE TABLE. The entries of the eight bytes of a block add up to what the layers make of the block.
    pub entries_add_up : (x : ℕ) → x < 2 ^ 64 → entries (table_of f l) x ≡ l (sbox_layer f x)
    unfolding entries nibble_at
    entries_add_up x h =
        sum_of_same 8 (byte_is x) ∙ sym (sum_of_pairs 8 (λ k. l (nibble_at f x k)))
        ∙ sym (linear_sum linear 16 (nibble_at f x) (λ k m. nibble_fits (nibble k x) k m)) ∙ ap l (sym (layer_is_sum f small x h))

-- ---- entries, quickly computed

-- the bits of a nibble, s places apart
unfoldable pub spread : ℕ → ℕ → ℕ
spread s v = v % 2 + v / 2 % 2 * 2 ^ s + v / 4 % 2 * 2 ^ (2 * s) + v / 8 * 2 ^ (3 * s)

-- entry i, where l spreads the bits of the nibble k by s and shifts them by `shift k`
unfoldable pub quick : (ℕ → ℕ) → ℕ → (ℕ → ℕ) → ℕ → ℕ
quick f s shift i =
    spread s (f (i % 256 % 16)) * 2 ^ shift (2 * (i / 256)) ⊕ spread s (f (i % 256 / 16)) * 2 ^ shift (suc (2 * (i / 256)))

-- l spreads and shifts each nibble so
abbrev pub Spreads : (ℕ → ℕ) → ℕ → (ℕ → ℕ) → Type 0
Spreads l s shift = (m : ℕ) → m < 256 → l (m % 16 * 2 ^ (4 * (m / 16))) ≡ spread s (m % 16) * 2 ^ shift (m / 16)

quick_entry : (f l : ℕ → ℕ) (s : ℕ) (shift : ℕ → ℕ) → ((v : ℕ) → f v < 2 ^ 4) → Linear 64 64 l → Spreads l s shift
    → (i : ℕ) → i < 2048 → quick f s shift i ≡ entry f l i
unfolding quick
quick_entry f l s shift small linear spreads i h =
    sym (entry_is_nibbles f small l linear i h
    ∙ ap₂ ◌⊕◌ (at (2 * (i / 256)) (f (i % 256 % 16)) (omega arith) (small (i % 256 % 16)))
    (at (suc (2 * (i / 256))) (f (i % 256 / 16)) (omega arith) (small (i % 256 / 16))))
  where
    at : (k v : ℕ) → k < 16 → v < 16 → l (v * 2 ^ (4 * k)) ≡ spread s v * 2 ^ shift k
    at k v hk hv =
        let m = 16 * k + v in
        let e : m % 16 ≡ v = omega arith in
        let d : m / 16 ≡ k = omega arith in
        rw (e, d) at (spreads m (omega arith))

-- where the nibbles of a block go: 16 places between two bits, and 4 when they go back
abbrev pub back_to : ℕ → ℕ
back_to k = 16 * (k % 4) + k / 4

permute_spreads : Spreads permute 16 (λ k. k)
unfolding spread permute iterate turns send bit place ◌⊕◌
permute_spreads = same_below 256 (λ m. permute (m % 16 * 2 ^ (4 * (m / 16)))) (λ m. spread 16 (m % 16) * 2 ^ (m / 16)) tt

unpermute_spreads : Spreads unpermute 4 back_to
unfolding spread unpermute iterate turns fetch bit place ◌⊕◌
unpermute_spreads = same_below 256 (λ m. unpermute (m % 16 * 2 ^ (4 * (m / 16)))) (λ m. spread 4 (m % 16) * 2 ^ back_to (m / 16)) tt

-- the whole table, quickly computed
pub quick_encryption : tabulate 2048 (quick substitute 16 (λ k. k)) ≡ encryption_table
unfolding table_of
quick_encryption =
    tabulate_same 2048 (quick substitute 16 (λ k. k)) (entry substitute permute)
    (quick_entry substitute permute 16 (λ k. k) substitute_lt permute_linear permute_spreads)

pub quick_decryption : tabulate 2048 (quick unsubstitute 4 back_to) ≡ decryption_table
unfolding table_of
quick_decryption =
    tabulate_same 2048 (quick unsubstitute 4 back_to) (entry unsubstitute unpermute)
    (quick_entry unsubstitute unpermute 4 back_to unsubstitute_lt unpermute_linear unpermute_spreads)

-- the layers by their tables
pub encryption_entries : (x : ℕ) → x < 2 ^ 64 → entries encryption_table x ≡ permute (sbox_layer substitute x)
encryption_entries = entries_add_up substitute substitute_lt permute permute_linear

pub decryption_entries : (x : ℕ) → x < 2 ^ 64 → entries decryption_table x ≡ unpermute (sbox_layer unsubstitute x)
decryption_entries = entries_add_up unsubstitute unsubstitute_lt unpermute unpermute_linear

-- the entries of j bytes, and one more
pub none_added : (t : List ℕ) (x : ℕ) → 0 ≡ sum_of 0 (byte_entry t x)
unfolding sum_of
none_added t x = refl

pub one_more_added : (t : List ℕ) (x j : ℕ) {y i : ℕ} → y ≡ sum_of j (byte_entry t x) → i ≡ 256 * j + x / 2 ^ (8 * j) % 256
    → y ⊕ get_or t i 0 ≡ sum_of (j + 1) (byte_entry t x)
unfolding sum_of byte_entry
one_more_added t x j p q = rw (add-one j) (ap₂ ◌⊕◌ p (ap (λ (n : ℕ). get_or t n 0) q))
