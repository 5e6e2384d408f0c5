-- The masked opening ends in a sharing of the decrypted block, and has its shape; openings of keys and blocks that agree but for share u are coupled but
-- for share u. For any number of shares, any sound key length, and any programs of the S-box and of its inverse that substitute, or hide.
use mathlib.Core.Path.{subst}
use mathlib.Core.List.{List, map}
use Prim.Native.Nat.{ℕ, ◌+◌, ◌-◌, ◌^◌, ◌<◌}
use native.Mathlib.Omega.{arith}
use Rattle.steps.specs.Program.{Run}
use Rattle.steps.specs.Shape.{Shape, Shaped, for_shape}
use Rattle.steps.specs.Coupling.{Coupled, coupled_return}
use Rattle.steps.specs.Sharing.{Sharing, Close}
use Rattle.steps.proofs.Shape.{shaped_bind, shaped_map}
use Rattle.steps.proofs.Coupling.{coupled_bind, coupled_for}
use Rattle.steps.specs.Iterate.{iterate_back}
use Rattle.xor.proofs.Sum.{join_small}
use Rattle.present.specs.Present.{substitute, Size, key_bits, Sound, top_nibble, update_key, State}
use Rattle.present.specs.Decrypt.{unsubstitute, unpermute, unrotate, decrypt}
use Rattle.steps.specs.Sharing.{held}
use Rattle.present.specs.Masked.{Substitutes, Hides, shares_shape, update_shape}
use Rattle.present.specs.Experiment.{Computes, Keeps}
use Rattle.present.specs.Opening.{masked_unpermute, masked_unrotate, masked_back_top_nibbles, masked_undo_update, masked_undo_round, masked_decrypt}
use Rattle.present.specs.Opening.{undo_update_shape, undo_round_shape, opening_shape}
use Rattle.present.proofs.Numbers.{unpermute_linear, unrotate_linear}
use Rattle.steps.proofs.ShareWise.{sharing_map, sharing_held, close_map, close_held}
use Rattle.steps.proofs.Iterate.{shaped_iterate}
use Rattle.present.proofs.Recording.{shaped_recorded, coupled_recorded}
use Rattle.present.proofs.Backwards.{back_top_nibbles, undo_update, open_round, decrypt_runs}
use Rattle.present.proofs.Joined.{shaped_nibble, shaped_sbox_layer, shaped_add_round_key, shaped_round_number, Shared, shaped_update}
use Rattle.present.proofs.Coupled.{coupled_nibble, coupled_sbox_layer, coupled_add_round_key, coupled_round_number, CloseState, coupled_update}

-- ---- what it ends in

pub shaped_unpermute : (s : ℕ) {x : ℕ} {a : List ℕ} → Sharing 64 s x a
    → Shaped (Sharing 64 s (unpermute x)) (shares_shape 16 s) (masked_unpermute s a)
unfolding masked_unpermute
shaped_unpermute s {a = a} h = shaped_recorded 16 s (map unpermute a) (sharing_map unpermute_linear h)

pub shaped_unrotate : (s : ℕ) (z : Size) → Sound z → {k : ℕ} {a : List ℕ} → Sharing (key_bits z) s k a
    → Shaped (Sharing (key_bits z) s (unrotate z k)) (shares_shape z.nibbles s) (masked_unrotate z s a)
unfolding masked_unrotate
shaped_unrotate s z sound {a = a} h = shaped_recorded z.nibbles s (map (unrotate z) a) (sharing_map (unrotate_linear z sound) h)

pub shaped_back_top : (f : ℕ → ℕ) (s : ℕ) (σ : Shape) (inverse : List ℕ → Run (List ℕ)) → Substitutes f s σ inverse → (z : Size) → Sound z
    → {k : ℕ} {a : List ℕ} → Sharing (key_bits z) s k a
    → Shaped (Sharing (key_bits z) s (back_top_nibbles f z k)) (for_shape 0 z.boxes (λ j. σ)) (masked_back_top_nibbles inverse z a)
unfolding back_top_nibbles iterate_back masked_back_top_nibbles
shaped_back_top f s σ inverse good z sound {k} {a} h =
    shaped_iterate (Sharing (key_bits z) s) (λ j. σ) 0 z.boxes (omega arith)
    (λ j y b l m g. shaped_nibble f s σ inverse good (key_bits z) (top_nibble z (0 + z.boxes - 1 - j)) (omega arith) g) k a h

module _ (s : ℕ) (σ : Shape) (sbox inverse : List ℕ → Run (List ℕ)) (good : Substitutes substitute s σ sbox)
    (back : Substitutes unsubstitute s σ inverse) (pos : 0 < s) (z : Size) (sound : Sound z) where
  shaped_undo_update : (r : ℕ) → r < 2 ^ 5 → {k : ℕ} {a : List ℕ} → Sharing (key_bits z) s k a
      → Shaped (Sharing (key_bits z) s (undo_update z r k)) (undo_update_shape z s σ) (masked_undo_update inverse z s r a)
  unfolding undo_update masked_undo_update undo_update_shape
  shaped_undo_update r l h =
      shaped_bind (shaped_round_number s z sound r pos l h) λ b hb.
      shaped_bind (shaped_back_top unsubstitute s σ inverse back z sound hb) λ c hc.
      shaped_unrotate s z sound hc

  shaped_undo_round : (r : ℕ) → r < 2 ^ 5 → {x : State ℕ} {a : State (List ℕ)} → Shared z s x a
      → Shaped (Shared z s (open_round z r x)) (undo_round_shape z s σ) (masked_undo_round inverse z s r a)
  unfolding open_round masked_undo_round undo_round_shape
  shaped_undo_round r l h =
      shaped_bind (shaped_unpermute s h.block_shared) λ b hb.
      shaped_bind (shaped_sbox_layer unsubstitute s σ inverse back hb) λ c hc.
      shaped_bind (shaped_undo_update r l h.key_shared) λ k hk.
      shaped_map (λ d. record { key = k; block = d }) (shaped_add_round_key s z sound hk hc) λ d hd.
      record { key_shared = hk; block_shared = hd }

  -- THE OPENING. On sharings of a key and a block the masked program ends in a sharing of the decrypted block, and has its shape.
  pub decrypt_joins : Computes (decrypt z) z s (opening_shape z s σ) (masked_decrypt inverse sbox z s)
  unfolding iterate_back masked_decrypt opening_shape
  decrypt_joins k y a b hk hy =
      let small : k < 2 ^ key_bits z = subst (λ (v : ℕ). v < 2 ^ key_bits z) hk.joins (join_small (key_bits z) a hk.small) in
      rw (← decrypt_runs z sound k y small)
      (shaped_bind
      (shaped_iterate (Sharing (key_bits z) s) (λ r. update_shape z s σ) {g = update_key z} 1 32 (omega arith)
      (λ r c d l m h. shaped_update s σ sbox good pos z sound r m h) k (held a) (sharing_held hk)) λ l hl.
      shaped_bind (shaped_add_round_key s z sound hl (sharing_held hy)) λ x hx.
      shaped_map (λ (c : State (List ℕ)). c.block)
      (shaped_iterate (Shared z s) (λ r. undo_round_shape z s σ) {g = λ j. open_round z (32 - j)} 1 32 (omega arith)
      (λ r c d i m h. shaped_undo_round (32 - r) (omega arith) h)
      _ (record { key = l; block = x }) (record { key_shared = hl; block_shared = hx }))
      (λ c hc. hc.block_shared))

-- ---- what is hidden

pub coupled_unpermute : (u s : ℕ) {a b : List ℕ} → Close 64 u a b → Coupled u (Close 64 u) (masked_unpermute s a) (masked_unpermute s b)
unfolding masked_unpermute
coupled_unpermute u s c = coupled_recorded 16 s (close_map unpermute_linear c)

pub coupled_unrotate : (u s : ℕ) (z : Size) → Sound z → {a b : List ℕ} → Close (key_bits z) u a b
    → Coupled u (Close (key_bits z) u) (masked_unrotate z s a) (masked_unrotate z s b)
unfolding masked_unrotate
coupled_unrotate u s z sound c = coupled_recorded z.nibbles s (close_map (unrotate_linear z sound) c)

pub coupled_back_top : (u : ℕ) (inverse : List ℕ → Run (List ℕ)) → Hides u inverse → (z : Size) → Sound z → {a b : List ℕ}
    → Close (key_bits z) u a b
    → Coupled u (Close (key_bits z) u) (masked_back_top_nibbles inverse z a) (masked_back_top_nibbles inverse z b)
unfolding masked_back_top_nibbles
coupled_back_top u inverse hides z sound {a} {b} c =
    coupled_for u (λ j. Close (key_bits z) u) 0 z.boxes (omega arith)
    (λ j x y l m d. coupled_nibble u inverse hides (key_bits z) (top_nibble z (0 + z.boxes - 1 - j)) (omega arith) d) a b c

module _ (u : ℕ) (sbox inverse : List ℕ → Run (List ℕ)) (hides : Hides u sbox) (back : Hides u inverse) (s : ℕ) (z : Size) (sound : Sound z) where
  coupled_undo_update : (r : ℕ) → r < 2 ^ 5 → {a b : List ℕ} → Close (key_bits z) u a b
      → Coupled u (Close (key_bits z) u) (masked_undo_update inverse z s r a) (masked_undo_update inverse z s r b)
  unfolding masked_undo_update
  coupled_undo_update r l c =
      coupled_bind (coupled_round_number u s z sound r l c) λ x y d.
      coupled_bind (coupled_back_top u inverse back z sound d) λ v w e.
      coupled_unrotate u s z sound e

  coupled_undo_round : (r : ℕ) → r < 2 ^ 5 → {a b : State (List ℕ)} → CloseState z u a b
      → Coupled u (CloseState z u) (masked_undo_round inverse z s r a) (masked_undo_round inverse z s r b)
  unfolding masked_undo_round
  coupled_undo_round r l c =
      coupled_bind (coupled_unpermute u s c.block_close) λ x x' d.
      coupled_bind (coupled_sbox_layer u inverse back d) λ y y' e.
      coupled_bind (coupled_undo_update r l c.key_close) λ k k' g.
      coupled_bind (coupled_add_round_key u s z sound g e) λ b b' f.
      coupled_return (record { key_close = g; block_close = f })

  pub decrypt_coupled : Keeps u z (masked_decrypt inverse sbox z s)
  unfolding masked_decrypt
  decrypt_coupled a a' b b' c d =
      coupled_bind
      (coupled_for u (λ r. Close (key_bits z) u) 1 32 (omega arith) (λ r x y l m e. coupled_update u sbox hides s z sound r m e)
      (held a) (held a') (close_held c)) λ l l' e.
      coupled_bind (coupled_add_round_key u s z sound e (close_held d)) λ x x' f.
      coupled_bind
      (coupled_for u (λ r. CloseState z u) 1 32 (omega arith) (λ r v w i m g. coupled_undo_round (32 - r) (omega arith) g)
      (record { key = l; block = x }) (record { key = l'; block = x' }) (record { key_close = e; block_close = f })) λ v w g.
      coupled_return g.block_close
