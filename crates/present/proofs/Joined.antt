-- The masked block ends in a sharing of the standard's block, and has its shape: for any number of shares, any sound key length, and any program of
-- the S-box that substitutes.
use mathlib.Core.List.{List, map}
use Prim.Native.Nat.{ℕ, ◌+◌, ◌*◌, ◌^◌, ◌≤◌, ◌<◌}
use native.Mathlib.Omega.{arith}
use Rattle.xor.specs.Xor.{◌⊕◌}
use Rattle.steps.specs.Program.{Run, ◌>>◌}
use Rattle.steps.specs.Shape.{Shape, Shaped, for_shape}
use Rattle.steps.specs.Sharing.{share, Sharing}
use Rattle.steps.proofs.Shape.{shaped_bind, shaped_map}
use Rattle.present.specs.Present.{nibble, replace, on_nibble, substitute, sbox_layer, permute, Size, key_bits, Sound, round_key, rotate, top_nibble}
use Rattle.present.specs.Present.{on_top_nibbles, number_nibble, round_number, update_key, State, add_round_key, round, encrypt}
use Rattle.present.specs.Masked.{Substitutes, masked_add_round_key, masked_permute, masked_rotate, add_round_number}
use Rattle.steps.specs.Sharing.{share_wise, alone, held}
use Rattle.present.specs.Masked.{masked_nibble, masked_sbox_layer, masked_top_nibbles, masked_update, masked_round, masked_encrypt, nibbles_shape}
use Rattle.present.specs.Masked.{shares_shape, update_shape, round_shape, block_shape}
use Rattle.present.proofs.Numbers.{nibble_linear, replace_linear, permute_linear, round_key_linear, rotate_linear, round_number_lt}
use Rattle.steps.proofs.ShareWise.{sharing_map, sharing_share_wise, sharing_held, sharing_alone, sum_linear}
use Rattle.steps.proofs.Iterate.{shaped_iterate}
use Rattle.present.proofs.Recording.{shaped_nibbles, shaped_recorded}

-- ---- the S-box, for any f by which its program substitutes

module _ (f : ℕ → ℕ) (s : ℕ) (σ : Shape) (sbox : List ℕ → Run (List ℕ)) (good : Substitutes f s σ sbox) where
  pub shaped_nibble : (n k : ℕ) → 4 * k + 4 ≤ n → {x : ℕ} {a : List ℕ} → Sharing n s x a
      → Shaped (Sharing n s (on_nibble f k x)) σ (masked_nibble sbox k a)
  unfolding on_nibble masked_nibble
  shaped_nibble n k l {x} {a} h =
      shaped_map (share_wise (replace k) a) (good (nibble k x) (map (nibble k) a) (sharing_map (nibble_linear n k) h))
      (λ v hv. sharing_share_wise (replace_linear n k l) h hv)

  pub shaped_sbox_layer : {x : ℕ} {a : List ℕ} → Sharing 64 s x a
      → Shaped (Sharing 64 s (sbox_layer f x)) (for_shape 0 16 (λ k. σ)) (masked_sbox_layer sbox a)
  unfolding sbox_layer masked_sbox_layer
  shaped_sbox_layer {x} {a} h =
      shaped_iterate (Sharing 64 s) (λ k. σ) 0 16 (omega arith) (λ k y b l m g. shaped_nibble 64 k (omega arith) g) x a h

  pub shaped_top_nibbles : (z : Size) → Sound z → {k : ℕ} {a : List ℕ} → Sharing (key_bits z) s k a
      → Shaped (Sharing (key_bits z) s (on_top_nibbles f z k)) (for_shape 0 z.boxes (λ j. σ)) (masked_top_nibbles sbox z a)
  unfolding on_top_nibbles masked_top_nibbles
  shaped_top_nibbles z sound {k} {a} h =
      shaped_iterate (Sharing (key_bits z) s) (λ j. σ) 0 z.boxes (omega arith)
      (λ j y b l m g. shaped_nibble (key_bits z) (top_nibble z j) (omega arith) g) k a h

-- ---- the linear parts

pub shaped_permute : (s : ℕ) {x : ℕ} {a : List ℕ} → Sharing 64 s x a → Shaped (Sharing 64 s (permute x)) (shares_shape 16 s) (masked_permute s a)
unfolding masked_permute
shaped_permute s {a = a} h = shaped_recorded 16 s (map permute a) (sharing_map permute_linear h)

module _ (s : ℕ) (z : Size) (sound : Sound z) where
  pub shaped_add_round_key : {k x : ℕ} {a b : List ℕ} → Sharing (key_bits z) s k a → Sharing 64 s x b
      → Shaped (Sharing 64 s (add_round_key z k x)) (shares_shape 16 s) (masked_add_round_key z s a b)
  unfolding add_round_key masked_add_round_key
  shaped_add_round_key {a = a} {b} hk hx =
      shaped_recorded 16 s (share_wise ◌⊕◌ (map (round_key z) a) b) (sharing_share_wise (sum_linear 64) (sharing_map (round_key_linear z sound) hk) hx)

  pub shaped_rotate : {k : ℕ} {a : List ℕ} → Sharing (key_bits z) s k a
      → Shaped (Sharing (key_bits z) s (rotate z k)) (shares_shape z.nibbles s) (masked_rotate z s a)
  unfolding masked_rotate
  shaped_rotate {a = a} h = shaped_recorded z.nibbles s (map (rotate z) a) (sharing_map (rotate_linear z sound) h)

  pub shaped_round_number : (r : ℕ) → 0 < s → r < 2 ^ 5 → {k : ℕ} {a : List ℕ} → Sharing (key_bits z) s k a
      → Shaped (Sharing (key_bits z) s (k ⊕ round_number z r)) (nibbles_shape 0 (number_nibble z) (number_nibble z + 2)) (add_round_number z r a)
  unfolding add_round_number ◌>>◌
  shaped_round_number r pos l {a = a} h =
      let b = share_wise ◌⊕◌ a (alone (round_number z r)) in
      shaped_map (λ u. b) (shaped_nibbles 0 _ _ (share b 0) (omega arith))
      (λ u p. sharing_share_wise (sum_linear (key_bits z)) h (sharing_alone pos (round_number_lt z sound r l)))

-- ---- the rounds

-- a key and a block, each with its sharing
pub record Shared (z : Size) (s : ℕ) (x : State ℕ) (a : State (List ℕ)) : Type 0 where
  pub key_shared : Sharing (key_bits z) s x.key a.key
  pub block_shared : Sharing 64 s x.block a.block

module _ (s : ℕ) (σ : Shape) (sbox : List ℕ → Run (List ℕ)) (good : Substitutes substitute s σ sbox) (pos : 0 < s) (z : Size) (sound : Sound z) where
  pub shaped_update : (r : ℕ) → r < 2 ^ 5 → {k : ℕ} {a : List ℕ} → Sharing (key_bits z) s k a
      → Shaped (Sharing (key_bits z) s (update_key z r k)) (update_shape z s σ) (masked_update sbox z s r a)
  unfolding update_key masked_update update_shape
  shaped_update r l h =
      shaped_bind (shaped_rotate s z sound h) λ b hb.
      shaped_bind (shaped_top_nibbles substitute s σ sbox good z sound hb) λ c hc.
      shaped_round_number s z sound r pos l hc

  shaped_round : (r : ℕ) → r < 2 ^ 5 → {x : State ℕ} {a : State (List ℕ)} → Shared z s x a
      → Shaped (Shared z s (round z r x)) (round_shape z s σ) (masked_round sbox z s r a)
  unfolding round masked_round round_shape
  shaped_round r l h =
      shaped_bind (shaped_add_round_key s z sound h.key_shared h.block_shared) λ b hb.
      shaped_bind (shaped_sbox_layer substitute s σ sbox good hb) λ c hc.
      shaped_bind (shaped_permute s hc) λ d hd.
      shaped_map (λ k. record { key = k; block = d }) (shaped_update r l h.key_shared) λ k hk.
      record { key_shared = hk; block_shared = hd }

  -- THE BLOCK. On sharings of a key and a block the masked program ends in a sharing of the block of the standard, and has the shape of the paper.
  pub encrypt_joins : (k x : ℕ) (a b : List ℕ) → Sharing (key_bits z) s k a → Sharing 64 s x b
      → Shaped (Sharing 64 s (encrypt z k x)) (block_shape z s σ) (masked_encrypt sbox z s a b)
  unfolding encrypt masked_encrypt block_shape
  encrypt_joins k x a b hk hx =
      shaped_bind
      (shaped_iterate (Shared z s) (λ r. round_shape z s σ) 1 32 (omega arith) (λ r y c l m h. shaped_round r m h)
      (record { key = k; block = x }) (record { key = held a; block = held b })
      (record { key_shared = sharing_held hk; block_shared = sharing_held hx }))
      (λ c hc. shaped_add_round_key s z sound hc.key_shared hc.block_shared)
