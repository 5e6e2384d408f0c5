-- Decryption undoes encryption, and encryption decryption, for every key length, key and block.
use mathlib.Core.Path.{◌≡◌, refl, sym, ap, ◌∙◌}
use mathlib.Core.List.{List, map}
use Prim.Native.Nat.{ℕ, zero, suc, ◌+◌, ◌-◌, ◌*◌, ◌%◌, ◌^◌, ◌≤◌, ◌<◌}
use native.Mathlib.Omega.{arith}
use lib.ListN.{get_or, get_or-map}
use Rattle.xor.specs.Xor.{◌⊕◌}
use Rattle.xor.proofs.Xor.{⊕-lt, ⊕-cancel}
use Rattle.xor.proofs.Basis.{agree}
use Rattle.steps.specs.Fill.{tabulate}
use Rattle.steps.specs.Iterate.{turns, iterate, iterate_back}
use Rattle.steps.specs.Linear.{Linear}
use Rattle.steps.proofs.Fill.{get_d_tabulate}
use Rattle.steps.proofs.Iterate.{iterate_keeps, back_undoes, undoes_back}
use Rattle.present.specs.Present.{bit, nibble, on_nibble, table, substitute, sbox_layer, place, send, permute}
use Rattle.present.specs.Present.{Size, key_bits, Sound, round_key, rotate, top_nibble, on_top_nibbles, update_key, State, add_round_key, round, encrypt}
use Rattle.present.specs.Decrypt.{inverse_table, unsubstitute, fetch, unpermute, round_key_of, undo_round, decrypt}
use Rattle.present.proofs.Numbers.{replace_linear, permute_linear, unpermute_linear, round_key_linear, rotate_linear, round_number_lt}
use Rattle.present.proofs.Layer.{layer_lt, layer_undone}

-- ---- the S-box

-- functions whose values from 0 on are the same agree
same_values : (n : ℕ) (f g : ℕ → ℕ) → tabulate n f ≡ tabulate n g → (i : ℕ) → i < n → f i ≡ g i
same_values n f g e i h = sym (get_d_tabulate n f i 0 h) ∙ ap (λ (l : List ℕ). get_or l i 0) e ∙ get_d_tabulate n g i 0 h

-- the entries of a table that reduction modulo 16 leaves as they are
small_of : (l : List ℕ) → map (λ v. v % 16) l ≡ l → (v : ℕ) → get_or l v 0 < 2 ^ 4
small_of l e v =
    let h : get_or l v 0 ≡ get_or l v 0 % 16 = ap (λ (m : List ℕ). get_or m v 0) (sym e) ∙ get_or-map (λ v. v % 16) l v 0 in
    omega arith

pub substitute_lt : (v : ℕ) → substitute v < 2 ^ 4
unfolding substitute table
substitute_lt v = small_of table refl v

pub unsubstitute_lt : (v : ℕ) → unsubstitute v < 2 ^ 4
unfolding unsubstitute inverse_table
unsubstitute_lt v = small_of inverse_table refl v

pub unsubstitute_substitute : (v : ℕ) → v < 16 → unsubstitute (substitute v) ≡ v
unfolding substitute table unsubstitute inverse_table tabulate
unsubstitute_substitute = same_values 16 (λ v. unsubstitute (substitute v)) (λ v. v) refl

pub substitute_unsubstitute : (v : ℕ) → v < 16 → substitute (unsubstitute v) ≡ v
unfolding substitute table unsubstitute inverse_table tabulate
substitute_unsubstitute = same_values 16 (λ v. substitute (unsubstitute v)) (λ v. v) refl

-- ---- the permutation

back_at_bits : (i : ℕ) → i < 64 → unpermute (permute (2 ^ i)) ≡ 2 ^ i
unfolding unpermute permute iterate turns send fetch bit place ◌⊕◌ tabulate
back_at_bits = same_values 64 (λ i. unpermute (permute (2 ^ i))) (λ i. 2 ^ i) refl

forth_at_bits : (i : ℕ) → i < 64 → permute (unpermute (2 ^ i)) ≡ 2 ^ i
unfolding unpermute permute iterate turns send fetch bit place ◌⊕◌ tabulate
forth_at_bits = same_values 64 (λ i. permute (unpermute (2 ^ i))) (λ i. 2 ^ i) refl

-- linear maps of blocks, one after the other, that leave each bit as it is
undone_linear : (f g : ℕ → ℕ) → Linear 64 64 f → Linear 64 64 g → ((i : ℕ) → i < 64 → g (f (2 ^ i)) ≡ 2 ^ i)
    → (x : ℕ) → x < 2 ^ 64 → g (f x) ≡ x
undone_linear f g hf hg =
    agree 64 (λ x. g (f x)) (λ x. x)
    (λ x y hx hy. ap g (hf.additive x y hx hy) ∙ hg.additive (f x) (f y) (hf.small x hx) (hf.small y hy)) (λ x y hx hy. refl)

pub unpermute_permute : (x : ℕ) → x < 2 ^ 64 → unpermute (permute x) ≡ x
unpermute_permute = undone_linear permute unpermute permute_linear unpermute_linear back_at_bits

pub permute_unpermute : (x : ℕ) → x < 2 ^ 64 → permute (unpermute x) ≡ x
permute_unpermute = undone_linear unpermute permute unpermute_linear permute_linear forth_at_bits

-- ---- the keys

pub on_nibble_lt : (f : ℕ → ℕ) → ((v : ℕ) → f v < 2 ^ 4) → (n k x : ℕ) → 4 * k + 4 ≤ n → x < 2 ^ n → on_nibble f k x < 2 ^ n
unfolding on_nibble
on_nibble_lt f hf n k x l h = (replace_linear n k l).small x (f (nibble k x)) h (hf (nibble k x))

-- round r of a block alone, with its round key
unfoldable pub block_round : Size → ℕ → ℕ → ℕ → ℕ
block_round z k r x = permute (sbox_layer substitute (round_key_of z k r ⊕ x))

module _ (z : Size) where
  -- the key and the block of a round go each by itself
  rounds_apart : (k x n : ℕ) → turns (round z) 1 n (record { key = k; block = x })
      ≡ record { key = turns (update_key z) 1 n k; block = turns (block_round z k) 1 n x }
  unfolding turns round block_round round_key_of add_round_key iterate
  rounds_apart k x zero = refl
  rounds_apart k x (suc n) =
      let e : n ≡ 1 + n - 1 = omega arith in
      let q : ℕ → ℕ = λ m. turns (update_key z) 1 m k in
      let b = turns (block_round z k) 1 n x in
      ap (round z (1 + n)) (rounds_apart k x n)
      ∙ ap (λ (m : ℕ). record { key = update_key z (1 + n) (q n); block = permute (sbox_layer substitute (round_key z (q m) ⊕ b)) }) e

  -- ENCRYPTION BY ROUND KEYS. The rounds of the block, each with its round key, and the last of them.
  pub encrypt_by_keys : (k x : ℕ) → encrypt z k x ≡ round_key_of z k 32 ⊕ iterate 1 32 (block_round z k) x
  unfolding encrypt iterate round_key_of add_round_key
  encrypt_by_keys k x = ap (λ (a : State ℕ). round_key z a.key ⊕ a.block) (rounds_apart k x 31)

  module _ (sound : Sound z) where
    pub update_lt : (r : ℕ) → r < 2 ^ 5 → (k : ℕ) → k < 2 ^ key_bits z → update_key z r k < 2 ^ key_bits z
    unfolding update_key on_top_nibbles
    update_lt r l k h =
        ⊕-lt (key_bits z)
        (iterate_keeps (λ a. a < 2 ^ key_bits z) (λ j. on_nibble substitute (top_nibble z j)) 0 z.boxes
        (λ j a g m p. on_nibble_lt substitute substitute_lt (key_bits z) (top_nibble z j) a (omega arith) p) (rotate z k)
        ((rotate_linear z sound).small k h))
        (round_number_lt z sound r l)

    module _ (k : ℕ) (hk : k < 2 ^ key_bits z) where
      pub round_key_lt : (r : ℕ) → r ≤ 32 → round_key_of z k r < 2 ^ 64
      unfolding round_key_of
      round_key_lt r h =
          (round_key_linear z sound).small _
          (iterate_keeps (λ a. a < 2 ^ key_bits z) (update_key z) 1 r (λ j a l m p. update_lt j (omega arith) a p) k hk)

      -- ---- the rounds

      abbrev Block : ℕ → Type 0
      Block x = x < 2 ^ 64

      round_lt : (r : ℕ) → r < 32 → (x : ℕ) → Block x → Block (block_round z k r x)
      unfolding block_round
      round_lt r l x h = permute_linear.small _ (layer_lt substitute substitute_lt _ (⊕-lt 64 (round_key_lt r (omega arith)) h))

      pub undo_round_lt : (r : ℕ) → r < 32 → (x : ℕ) → Block x → Block (undo_round z k r x)
      unfolding undo_round
      undo_round_lt r l x h = ⊕-lt 64 (round_key_lt r (omega arith)) (layer_lt unsubstitute unsubstitute_lt _ (unpermute_linear.small x h))

      undo_round_lem : (r : ℕ) → r < 32 → (x : ℕ) → Block x → undo_round z k r (block_round z k r x) ≡ x
      unfolding undo_round block_round
      undo_round_lem r l x h =
          let q = round_key_of z k r in
          let hq : q ⊕ x < 2 ^ 64 = ⊕-lt 64 (round_key_lt r (omega arith)) h in
          ap (λ (y : ℕ). q ⊕ sbox_layer unsubstitute y)
          (unpermute_permute (sbox_layer substitute (q ⊕ x)) (layer_lt substitute substitute_lt (q ⊕ x) hq))
          ∙ ap (λ (y : ℕ). q ⊕ y) (layer_undone substitute unsubstitute substitute_lt unsubstitute_lt unsubstitute_substitute (q ⊕ x) hq)
          ∙ ⊕-cancel q x

      round_undone : (r : ℕ) → r < 32 → (y : ℕ) → Block y → block_round z k r (undo_round z k r y) ≡ y
      unfolding undo_round block_round
      round_undone r l y h =
          let q = round_key_of z k r in
          let hy : unpermute y < 2 ^ 64 = unpermute_linear.small y h in
          ap (λ (x : ℕ). permute (sbox_layer substitute x)) (⊕-cancel q (sbox_layer unsubstitute (unpermute y)))
          ∙ ap permute (layer_undone unsubstitute substitute unsubstitute_lt substitute_lt substitute_unsubstitute (unpermute y) hy)
          ∙ permute_unpermute y h

      pub encrypt_lt : (x : ℕ) → x < 2 ^ 64 → encrypt z k x < 2 ^ 64
      encrypt_lt x h =
          rw (encrypt_by_keys k x)
          (⊕-lt 64 (round_key_lt 32 (omega arith)) (iterate_keeps Block (block_round z k) 1 32 (λ r a l m p. round_lt r m a p) x h))

      pub decrypt_lt : (y : ℕ) → y < 2 ^ 64 → decrypt z k y < 2 ^ 64
      unfolding decrypt iterate_back
      decrypt_lt y h =
          iterate_keeps Block (λ j. undo_round z k (32 - j)) 1 32 (λ r a l m p. undo_round_lt (32 - r) (omega arith) a p) _
          (⊕-lt 64 (round_key_lt 32 (omega arith)) h)

      -- DECRYPTION. It brings the block back.
      pub decrypt_encrypt : (x : ℕ) → x < 2 ^ 64 → decrypt z k (encrypt z k x) ≡ x
      unfolding decrypt
      decrypt_encrypt x h =
          ap (λ (y : ℕ). iterate_back 1 32 (undo_round z k) (round_key_of z k 32 ⊕ y)) (encrypt_by_keys k x)
          ∙ ap (iterate_back 1 32 (undo_round z k)) (⊕-cancel (round_key_of z k 32) _)
          ∙ back_undoes Block (block_round z k) 1 32 (λ r a l m p. round_lt r m a p) (undo_round z k) (λ r a l m p. undo_round_lem r m a p) x h

      -- ENCRYPTION. What was decrypted is encrypted again.
      pub encrypt_decrypt : (y : ℕ) → y < 2 ^ 64 → encrypt z k (decrypt z k y) ≡ y
      unfolding decrypt
      encrypt_decrypt y h =
          let q = round_key_of z k 32 in
          encrypt_by_keys k _
          ∙ ap (λ (x : ℕ). q ⊕ x)
          (undoes_back Block (undo_round z k) (block_round z k) 1 32 (λ r a l m p. undo_round_lt r m a p) (λ r a l m p. round_undone r m a p) (q ⊕ y)
          (⊕-lt 64 (round_key_lt 32 (omega arith)) h))
          ∙ ⊕-cancel q y
