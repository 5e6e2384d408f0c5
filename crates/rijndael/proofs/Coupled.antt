-- Masked blocks of keys and blocks that agree but for share u are coupled but for share u, if the program of the S-box hides share u.
use mathlib.Core.Path.{◌≡◌, refl, sym, ap, ◌∙◌}
use mathlib.Core.Logic.{◌≢◌}
use mathlib.Core.List.{List}
use Prim.Native.Nat.{ℕ, ◌+◌, ◌*◌, ◌≤◌, ◌<◌}
use native.Mathlib.Decide.{ℕ_discrete}
use native.Mathlib.Omega.{arith}
use lib.ListN.{set, replicate, length-replicate, length-set}
use lib.Seq.{get_or-set_same, get_or-set_other}
use Rattle.xor.specs.Xor.{◌⊕◌}
use Rattle.xor.proofs.Xor.{⊕-lt}
use Rattle.steps.specs.Program.{Run, ◌>>=◌, note}
use Rattle.steps.specs.Coupling.{Coupled, coupled_return, coupled_step}
use Rattle.steps.proofs.Coupling.{coupled_bind, coupled_for, seen_one}
use Rattle.steps.proofs.Sharing.{small_zeros, set_small}
use Rattle.rijndael.specs.Strings.{byte_at, share_byte}
use Rattle.rijndael.specs.LinearLayers.{Alike}
use Rattle.rijndael.specs.Rijndael.{Expanding, rcon}
use Rattle.rijndael.specs.Masked.{Hides, masked_shift_rows, masked_mix_columns, masked_add_round_key, masked_rot_word, masked_rcon, masked_new_word}
use Rattle.rijndael.specs.Masked.{masked_sub_byte, masked_sub_bytes, masked_next_key, masked_key_expansion, masked_round, masked_last_round, masked_cipher}
use Rattle.rijndael.specs.Masked.{masked_encrypt}
use Rattle.rijndael.proofs.Strings.{alike_make, alike_none, alike_put}
use Rattle.rijndael.proofs.Layers.{shift_linear, rot_linear, key_linear, word_linear, mix_linear}
use Rattle.rijndael.proofs.Recording.{coupled_recorded}
use Rattle.rijndael.proofs.OneByte.{share_byte_share, close_taken}
use Rattle.rijndael.proofs.Joined.{rcon_small}

module _ (u s : ℕ) (nine : s ≤ 9) where
  -- ---- the linear transformations

  coupled_shift_rows : {a b : List ℕ} → Alike 16 u a b → Coupled u (Alike 16 u) (masked_shift_rows s a) (masked_shift_rows s b)
  unfolding masked_shift_rows
  coupled_shift_rows c = coupled_recorded 16 s (omega arith) (alike_make shift_linear s nine c (alike_none u))

  coupled_mix_columns : {a b : List ℕ} → Alike 16 u a b → Coupled u (Alike 16 u) (masked_mix_columns s a) (masked_mix_columns s b)
  unfolding masked_mix_columns
  coupled_mix_columns c = coupled_recorded 16 s (omega arith) (alike_make mix_linear s nine c (alike_none u))

  coupled_add_round_key : (r : ℕ) → r < 11 → {w w' a b : List ℕ} → Alike 176 u w w' → Alike 16 u a b
      → Coupled u (Alike 16 u) (masked_add_round_key s r w a) (masked_add_round_key s r w' b)
  unfolding masked_add_round_key
  coupled_add_round_key r l c d = coupled_recorded 16 s (omega arith) (alike_make (key_linear r l) s nine d c)

  coupled_rot_word : (r : ℕ) → 1 ≤ r → r < 11 → {a b : List ℕ} → Alike 176 u a b
      → Coupled u (Alike 4 u) (masked_rot_word s r a) (masked_rot_word s r b)
  unfolding masked_rot_word
  coupled_rot_word r p l c = coupled_recorded 4 s (omega arith) (alike_make (rot_linear r p l) s nine c (alike_none u))

  -- ---- the words

  coupled_rcon : (r : ℕ) {a b : List ℕ} → Alike 4 u a b → Coupled u (Alike 4 u) (masked_rcon r a) (masked_rcon r b)
  unfolding masked_rcon note ◌>>=◌
  coupled_rcon r {a} {b} c =
      coupled_step (seen_one first) (coupled_return (record {
        places = length-set a 0 v ∙ c.places;
        places' = length-set b 0 w ∙ c.places';
        small = set_small 8 a 0 v c.small (⊕-lt 8 (c.small 0) (rcon_small r));
        small' = set_small 8 b 0 w c.small' (⊕-lt 8 (c.small' 0) (rcon_small r));
        agree = λ i k f l. at i k f l (ℕ_discrete (i * 4 + k) 0);
      }))
    where
      v : ℕ
      v = byte_at a 0 ⊕ byte_at (rcon r) 0

      w : ℕ
      w = byte_at b 0 ⊕ byte_at (rcon r) 0

      first : 0 ≢ u → v ≡ w
      first f = ap (λ (x : ℕ). x ⊕ byte_at (rcon r) 0) (c.agree 0 0 f (omega arith))

      at : (i k : ℕ) → i ≢ u → k < 4 → Dec (i * 4 + k ≡ 0) → share_byte 4 (set a 0 v) i k ≡ share_byte 4 (set b 0 w) i k
      at i k f l (yes e) =
          let z : i ≡ 0 = omega arith in
          ap (byte_at (set a 0 v)) e ∙ get_or-set_same a 0 v 0 (omega (arith, c.places))
          ∙ first (λ g. f (z ∙ g))
          ∙ sym (ap (byte_at (set b 0 w)) e ∙ get_or-set_same b 0 w 0 (omega (arith, c.places')))
      at i k f l (no e) = get_or-set_other a 0 (i * 4 + k) v 0 e ∙ c.agree i k f l ∙ sym (get_or-set_other b 0 (i * 4 + k) w 0 e)

  record AlikeWords (a b : Expanding) : Type 0 where
    words_alike : Alike 176 u a.words b.words
    temp_alike : Alike 4 u a.temp b.temp

  coupled_new_word : (i : ℕ) → i < 44 → {a b : Expanding} → AlikeWords a b → Coupled u AlikeWords (masked_new_word s i a) (masked_new_word s i b)
  unfolding masked_new_word
  coupled_new_word i l c =
      coupled_bind (coupled_recorded 4 s (omega arith) (alike_make (word_linear i l) s nine c.words_alike c.temp_alike)) λ v w d.
      coupled_return (record {
        words_alike = alike_put 176 (4 * i) 4 s (omega arith) nine v w c.words_alike d.small d.small' d.agree;
        temp_alike = d;
      })

  -- ---- the S-boxes, the key expansion and the rounds

  module _ (sbox : List ℕ → Run (List ℕ)) (hides : Hides u sbox) where
    coupled_byte : (m j : ℕ) → j < m → {a b : List ℕ} → Alike m u a b → Coupled u (Alike m u) (masked_sub_byte sbox m s j a) (masked_sub_byte sbox m s j b)
    unfolding masked_sub_byte
    coupled_byte m j l c =
        coupled_bind (hides _ _ (close_taken m j s l nine c)) λ v w d.
        coupled_return (alike_put m j 1 s (omega arith) nine v w c d.small d.small'
        (λ i k f q. share_byte_share v i k q ∙ d.agree i f ∙ sym (share_byte_share w i k q)))

    coupled_sub_bytes : (m : ℕ) {a b : List ℕ} → Alike m u a b → Coupled u (Alike m u) (masked_sub_bytes sbox m s a) (masked_sub_bytes sbox m s b)
    unfolding masked_sub_bytes
    coupled_sub_bytes m {a} {b} c = coupled_for u (λ j. Alike m u) 0 m (omega arith) (λ j x y k l d. coupled_byte m j l d) a b c

    coupled_next_key : (r : ℕ) → 1 ≤ r → r < 11 → {a b : List ℕ} → Alike 176 u a b
        → Coupled u (Alike 176 u) (masked_next_key sbox s r a) (masked_next_key sbox s r b)
    unfolding masked_next_key
    coupled_next_key r p l {a} {b} c =
        coupled_bind (coupled_rot_word r p l c) λ v v' d.
        coupled_bind (coupled_sub_bytes 4 d) λ w w' e.
        coupled_bind (coupled_rcon r e) λ t t' g.
        coupled_bind
        (coupled_for u (λ t. AlikeWords) 0 4 (omega arith) (λ t x y k m h. coupled_new_word (4 * r + t) (omega arith) h)
        (record { words = a; temp = t }) (record { words = b; temp = t' }) (record { words_alike = c; temp_alike = g })) λ x y h.
        coupled_return h.words_alike

    coupled_key_expansion : {a b : List ℕ} → Alike 16 u a b
        → Coupled u (Alike 176 u) (masked_key_expansion sbox s a) (masked_key_expansion sbox s b)
    unfolding masked_key_expansion
    coupled_key_expansion {a} {b} c =
        coupled_for u (λ r. Alike 176 u) 1 11 (omega arith) (λ r x y p l d. coupled_next_key r p l d) _ _
        (alike_put 176 0 16 s (omega arith) nine a b zeros c.small c.small' c.agree)
      where
        zeros : Alike 176 u (replicate 1584 0) (replicate 1584 0)
        zeros = record {
          places = length-replicate {A = ℕ} 1584 0;
          places' = length-replicate {A = ℕ} 1584 0;
          small = small_zeros 8 1584;
          small' = small_zeros 8 1584;
          agree = λ i k f l. refl;
        }

    pub encrypt_coupled : (a a' b b' : List ℕ) → Alike 16 u a a' → Alike 16 u b b'
        → Coupled u (Alike 16 u) (masked_encrypt sbox s a b) (masked_encrypt sbox s a' b')
    unfolding masked_encrypt masked_cipher masked_round masked_last_round
    encrypt_coupled a a' b b' c d =
        coupled_bind (coupled_key_expansion c) λ keys keys' h.
        coupled_bind (coupled_add_round_key 0 (omega arith) h d) λ x x' e.
        coupled_bind
        (coupled_for u (λ r. Alike 16 u) 1 10 (omega arith) (λ r v v' p l g.
        coupled_bind (coupled_sub_bytes 16 g) λ w w' i.
        coupled_bind (coupled_shift_rows i) λ y y' j.
        coupled_bind (coupled_mix_columns j) λ z z' k.
        coupled_add_round_key r (omega arith) h k) x x' e) λ v v' g.
        coupled_bind (coupled_sub_bytes 16 g) λ w w' i.
        coupled_bind (coupled_shift_rows i) λ y y' j.
        coupled_add_round_key 10 (omega arith) h j
