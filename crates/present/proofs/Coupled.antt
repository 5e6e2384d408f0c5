-- Masked blocks of keys and blocks that agree but for share u are coupled but for share u, if the program of the S-box hides share u.
use mathlib.Core.List.{List, map}
use Prim.Native.Nat.{ℕ, ◌+◌, ◌*◌, ◌^◌, ◌≤◌, ◌<◌}
use native.Mathlib.Omega.{arith}
use Rattle.xor.specs.Xor.{◌⊕◌}
use Rattle.steps.specs.Program.{Run, ◌>>◌}
use Rattle.steps.specs.Coupling.{Coupled, coupled_return}
use Rattle.steps.specs.Sharing.{Close}
use Rattle.steps.proofs.Coupling.{coupled_bind, coupled_for}
use Rattle.steps.proofs.Sharing.{close_at}
use Rattle.present.specs.Present.{nibble, Size, key_bits, Sound, top_nibble, round_number, State}
use Rattle.present.specs.Masked.{Hides, masked_add_round_key, masked_permute, masked_rotate, add_round_number, masked_nibble}
use Rattle.steps.specs.Sharing.{share_wise, alone, held}
use Rattle.present.specs.Masked.{masked_sbox_layer, masked_top_nibbles, masked_update, masked_round, masked_encrypt}
use Rattle.present.proofs.Numbers.{nibble_linear, replace_linear, permute_linear, round_key_linear, rotate_linear, round_number_lt}
use Rattle.steps.proofs.ShareWise.{close_map, close_share_wise, close_held, close_alone, sum_linear}
use Rattle.present.proofs.Recording.{coupled_nibbles, coupled_recorded}

-- ---- the S-box

module _ (u : ℕ) (sbox : List ℕ → Run (List ℕ)) (hides : Hides u sbox) where
  pub coupled_nibble : (n k : ℕ) → 4 * k + 4 ≤ n → {a b : List ℕ} → Close n u a b
      → Coupled u (Close n u) (masked_nibble sbox k a) (masked_nibble sbox k b)
  unfolding masked_nibble
  coupled_nibble n k l {a} {b} c =
      coupled_bind (hides (map (nibble k) a) (map (nibble k) b) (close_map (nibble_linear n k) c)) λ v w d.
      coupled_return (close_share_wise (replace_linear n k l) c d)

  pub coupled_sbox_layer : {a b : List ℕ} → Close 64 u a b
      → Coupled u (Close 64 u) (masked_sbox_layer sbox a) (masked_sbox_layer sbox b)
  unfolding masked_sbox_layer
  coupled_sbox_layer {a} {b} c =
      coupled_for u (λ k. Close 64 u) 0 16 (omega arith) (λ k x y l m d. coupled_nibble 64 k (omega arith) d) a b c

  pub coupled_top_nibbles : (z : Size) → Sound z → {a b : List ℕ} → Close (key_bits z) u a b
      → Coupled u (Close (key_bits z) u) (masked_top_nibbles sbox z a) (masked_top_nibbles sbox z b)
  unfolding masked_top_nibbles
  coupled_top_nibbles z sound {a} {b} c =
      coupled_for u (λ j. Close (key_bits z) u) 0 z.boxes (omega arith)
      (λ j x y l m d. coupled_nibble (key_bits z) (top_nibble z j) (omega arith) d) a b c

-- ---- the linear parts

pub coupled_permute : (u s : ℕ) {a b : List ℕ} → Close 64 u a b → Coupled u (Close 64 u) (masked_permute s a) (masked_permute s b)
unfolding masked_permute
coupled_permute u s c = coupled_recorded 16 s (close_map permute_linear c)

module _ (u s : ℕ) (z : Size) (sound : Sound z) where
  pub coupled_add_round_key : {a a' b b' : List ℕ} → Close (key_bits z) u a a' → Close 64 u b b'
      → Coupled u (Close 64 u) (masked_add_round_key z s a b) (masked_add_round_key z s a' b')
  unfolding masked_add_round_key
  coupled_add_round_key c d = coupled_recorded 16 s (close_share_wise (sum_linear 64) (close_map (round_key_linear z sound) c) d)

  pub coupled_rotate : {a b : List ℕ} → Close (key_bits z) u a b
      → Coupled u (Close (key_bits z) u) (masked_rotate z s a) (masked_rotate z s b)
  unfolding masked_rotate
  coupled_rotate c = coupled_recorded z.nibbles s (close_map (rotate_linear z sound) c)

  pub coupled_round_number : (r : ℕ) → r < 2 ^ 5 → {a b : List ℕ} → Close (key_bits z) u a b
      → Coupled u (Close (key_bits z) u) (add_round_number z r a) (add_round_number z r b)
  unfolding add_round_number ◌>>◌
  coupled_round_number r l {a} {b} c =
      let n = key_bits z in
      let d : Close n u (share_wise ◌⊕◌ a (alone (round_number z r))) (share_wise ◌⊕◌ b (alone (round_number z r))) =
      close_share_wise (sum_linear n) c (close_alone n u (round_number_lt z sound r l)) in
      coupled_bind (coupled_nibbles 0 _ _ (close_at d 0) (omega arith)) (λ x y p. coupled_return d)

-- ---- the rounds

-- keys and blocks that agree but for share u
pub record CloseState (z : Size) (u : ℕ) (a b : State (List ℕ)) : Type 0 where
  pub key_close : Close (key_bits z) u a.key b.key
  pub block_close : Close 64 u a.block b.block

module _ (u : ℕ) (sbox : List ℕ → Run (List ℕ)) (hides : Hides u sbox) (s : ℕ) (z : Size) (sound : Sound z) where
  pub coupled_update : (r : ℕ) → r < 2 ^ 5 → {a b : List ℕ} → Close (key_bits z) u a b
      → Coupled u (Close (key_bits z) u) (masked_update sbox z s r a) (masked_update sbox z s r b)
  unfolding masked_update
  coupled_update r l c =
      coupled_bind (coupled_rotate u s z sound c) λ x y d.
      coupled_bind (coupled_top_nibbles u sbox hides z sound d) λ v w e.
      coupled_round_number u s z sound r l e

  coupled_round : (r : ℕ) → r < 2 ^ 5 → {a b : State (List ℕ)} → CloseState z u a b
      → Coupled u (CloseState z u) (masked_round sbox z s r a) (masked_round sbox z s r b)
  unfolding masked_round
  coupled_round r l c =
      coupled_bind (coupled_add_round_key u s z sound c.key_close c.block_close) λ x x' d.
      coupled_bind (coupled_sbox_layer u sbox hides d) λ y y' e.
      coupled_bind (coupled_permute u s e) λ b b' f.
      coupled_bind (coupled_update r l c.key_close) λ k k' g.
      coupled_return (record { key_close = g; block_close = f })

  pub encrypt_coupled : (a a' b b' : List ℕ) → Close (key_bits z) u a a' → Close 64 u b b'
      → Coupled u (Close 64 u) (masked_encrypt sbox z s a b) (masked_encrypt sbox z s a' b')
  unfolding masked_encrypt
  encrypt_coupled a a' b b' c d =
      coupled_bind
      (coupled_for u (λ r. CloseState z u) 1 32 (omega arith) (λ r x y l m e. coupled_round r m e)
      (record { key = held a; block = held b }) (record { key = held a'; block = held b' })
      (record { key_close = close_held c; block_close = close_held d }))
      (λ x y e. coupled_add_round_key u s z sound e.key_close e.block_close)
