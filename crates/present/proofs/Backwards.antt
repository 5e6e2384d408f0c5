-- The key runs back beside the block: undoing the updates one by one gives the round keys of decryption.
use mathlib.Core.Path.{◌≡◌, refl, sym, ap, ap₂, ◌∙◌}
use Prim.Native.Nat.{ℕ, zero, suc, ◌+◌, ◌-◌, ◌*◌, ◌^◌, ◌≤◌, ◌<◌}
use native.Mathlib.Nat.{add-zero}
use native.Mathlib.Omega.{arith}
use lib.Pow.{pow_pos}
use Rattle.xor.specs.Xor.{◌⊕◌}
use Rattle.xor.proofs.Xor.{⊕-lt, ⊕-cancel, ⊕-comm, ⊕-assoc, ⊕-self, ⊕-zero}
use Rattle.steps.specs.Iterate.{turns, iterate, iterate_back}
use Rattle.steps.proofs.Iterate.{back_undoes}
use Rattle.present.specs.Present.{nibble, replace, on_nibble, substitute, sbox_layer, Size, key_bits, Sound, round_key, rotate, top_nibble, on_top_nibbles}
use Rattle.present.specs.Present.{round_number, update_key, State, add_round_key}
use Rattle.present.specs.Decrypt.{unsubstitute, unpermute, unrotate, round_key_of, undo_round, decrypt}
use Rattle.present.proofs.Numbers.{nibble_additive, nibble_lt, replace_is, rotate_linear, unrotate_rotate}
use Rattle.present.proofs.Layer.{top_nibble_lem}
use Rattle.present.proofs.Inverse.{substitute_lt, unsubstitute_substitute, on_nibble_lt, update_lt}

-- a summand that is added twice goes
added_twice : (a n : ℕ) → (a ⊕ n) ⊕ n ≡ a
added_twice a n = ⊕-assoc a n n ∙ ap (λ (b : ℕ). a ⊕ b) (⊕-self n) ∙ ⊕-zero a

-- ---- nibbles

nibble_there : (k v : ℕ) → v < 2 ^ 4 → nibble k (v * 2 ^ (4 * k)) ≡ v
nibble_there k v h = ap (nibble k) (sym (add-zero (v * 2 ^ (4 * k)))) ∙ top_nibble_lem v k 0 h (pow_pos (4 * k))

nibble_replaced : (k x v : ℕ) → v < 2 ^ 4 → nibble k (replace k x v) ≡ v
nibble_replaced k x v h =
    ap (nibble k) (replace_is k x v h) ∙ nibble_additive k x ((nibble k x ⊕ v) * 2 ^ (4 * k))
    ∙ ap (λ (a : ℕ). nibble k x ⊕ a) (nibble_there k (nibble k x ⊕ v) (⊕-lt 4 (nibble_lt k x) h)) ∙ ⊕-cancel (nibble k x) v

replaced_back : (k x v : ℕ) → v < 2 ^ 4 → replace k (replace k x v) (nibble k x) ≡ x
replaced_back k x v h =
    replace_is k (replace k x v) (nibble k x) (nibble_lt k x)
    ∙ ap₂ (λ (a b : ℕ). a ⊕ (b ⊕ nibble k x) * 2 ^ (4 * k)) (replace_is k x v h) (nibble_replaced k x v h)
    ∙ ap (λ (a : ℕ). (x ⊕ (nibble k x ⊕ v) * 2 ^ (4 * k)) ⊕ a * 2 ^ (4 * k)) (⊕-comm v (nibble k x))
    ∙ added_twice x ((nibble k x ⊕ v) * 2 ^ (4 * k))

nibble_undone : (f g : ℕ → ℕ) → ((v : ℕ) → f v < 2 ^ 4) → ((v : ℕ) → v < 16 → g (f v) ≡ v) → (k x : ℕ) → on_nibble g k (on_nibble f k x) ≡ x
unfolding on_nibble
nibble_undone f g hf e k x =
    let v = f (nibble k x) in
    ap (λ (a : ℕ). replace k (replace k x v) (g a)) (nibble_replaced k x v (hf (nibble k x)))
    ∙ ap (replace k (replace k x v)) (e (nibble k x) (nibble_lt k x))
    ∙ replaced_back k x v (hf (nibble k x))

-- ---- the key

-- f on the top nibbles, the lowest of them first
unfoldable pub back_top_nibbles : (ℕ → ℕ) → Size → ℕ → ℕ
back_top_nibbles f z = iterate_back 0 z.boxes (λ j. on_nibble f (top_nibble z j))

-- the key before the update of round r
unfoldable pub undo_update : Size → ℕ → ℕ → ℕ
undo_update z r k = unrotate z (back_top_nibbles unsubstitute z (k ⊕ round_number z r))

-- round r undone, of the key and of the block
unfoldable pub open_round : Size → ℕ → State ℕ → State ℕ
open_round z r a =
    let k = undo_update z r a.key in
    record { key = k; block = add_round_key z k (sbox_layer unsubstitute (unpermute a.block)) }

module _ (z : Size) (sound : Sound z) where
  undo_update_lem : (r k : ℕ) → k < 2 ^ key_bits z → undo_update z r (update_key z r k) ≡ k
  unfolding undo_update update_key on_top_nibbles back_top_nibbles
  undo_update_lem r k h =
      let rotated = (rotate_linear z sound).small k h in
      ap (λ (a : ℕ). unrotate z (back_top_nibbles unsubstitute z a)) (added_twice (on_top_nibbles substitute z (rotate z k)) (round_number z r))
      ∙ ap (unrotate z)
      (back_undoes (λ a. a < 2 ^ key_bits z) (λ j. on_nibble substitute (top_nibble z j)) 0 z.boxes
      (λ j a l m p. on_nibble_lt substitute substitute_lt (key_bits z) (top_nibble z j) a (omega arith) p)
      (λ j. on_nibble unsubstitute (top_nibble z j))
      (λ j a l m p. nibble_undone substitute unsubstitute substitute_lt unsubstitute_substitute (top_nibble z j) a) (rotate z k) rotated)
      ∙ unrotate_rotate z sound k h

  keys_small : (k : ℕ) → k < 2 ^ key_bits z → (n : ℕ) → n ≤ 31 → turns (update_key z) 1 n k < 2 ^ key_bits z
  unfolding turns
  keys_small k h zero l = h
  keys_small k h (suc n) l = update_lt z sound (1 + n) (omega arith) _ (keys_small k h n (omega arith))

  -- a round undone
  round_back : (k : ℕ) → k < 2 ^ key_bits z → (q b : ℕ) → q ≤ 31
      → open_round z (1 + q) (record { key = update_key z (1 + q) (turns (update_key z) 1 q k); block = b })
      ≡ record { key = turns (update_key z) 1 q k; block = undo_round z k (1 + q) b }
  unfolding open_round add_round_key undo_round round_key_of iterate
  round_back k h q b l =
      let x = sbox_layer unsubstitute (unpermute b) in
      let before = turns (update_key z) 1 q k in
      let e : q ≡ 1 + q - 1 = omega arith in
      ap (λ (a : ℕ). record { key = a; block = round_key z a ⊕ x }) (undo_update_lem (1 + q) before (keys_small k h q l))
      ∙ ap (λ (m : ℕ). record { key = before; block = round_key z (turns (update_key z) 1 m k) ⊕ x }) e

  -- after m rounds are undone the key is the one before 31 - m updates, and the block that of decryption
  run_back : (k y m : ℕ) → k < 2 ^ key_bits z → m ≤ 31
      → turns (λ j. open_round z (32 - j)) 1 m (record { key = turns (update_key z) 1 31 k; block = y })
      ≡ record { key = turns (update_key z) 1 (31 - m) k; block = turns (λ j. undo_round z k (32 - j)) 1 m y }
  unfolding turns
  run_back k y zero h l = refl
  run_back k y (suc m) h l =
      let q = 30 - m in
      let b = turns (λ j. undo_round z k (32 - j)) 1 m y in
      let left : 31 - m ≡ suc q = omega arith in
      let less : 31 - suc m ≡ q = omega arith in
      let here : 32 - (1 + m) ≡ 1 + q = omega arith in
      ap (open_round z (32 - (1 + m))) (run_back k y m h (omega arith))
      ∙ ap₂ (λ (n r : ℕ). open_round z r (record { key = turns (update_key z) 1 n k; block = b })) left here
      ∙ round_back k h q b (omega arith)
      ∙ ap₂ (λ (n r : ℕ). record { key = turns (update_key z) 1 n k; block = undo_round z k r b }) (sym less) (sym here)

  -- DECRYPTION WITH THE KEY RUN BACK.
  pub decrypt_runs : (k y : ℕ) → k < 2 ^ key_bits z
      → let l = iterate 1 32 (update_key z) k in
      (iterate_back 1 32 (open_round z) (record { key = l; block = add_round_key z l y })).block ≡ decrypt z k y
  unfolding decrypt iterate_back iterate add_round_key round_key_of
  decrypt_runs k y h = ap (λ (a : State ℕ). a.block) (run_back k (round_key z (turns (update_key z) 1 31 k) ⊕ y) 31 h (omega arith))
