-- The masked block ends in a sharing of the standard's block, and has its shape: for any number of shares up to nine, and any program of the S-box
-- that substitutes.
use mathlib.Core.Path.{◌≡◌, refl, sym, ap, ap₂, ◌∙◌}
use mathlib.Core.Bool.{cond}
use mathlib.Core.List.{List, [], ◌∷◌}
use Prim.Native.Nat.{ℕ, zero, suc, ◌+◌, ◌-◌, ◌*◌, ◌^◌, ◌≤◌, ◌<◌}
use native.Mathlib.Decide.{ℕ_discrete, dec_lt}
use native.Mathlib.Omega.{arith}
use borrow.Author.Tests.{lt-ltb, le-ltb}
use lib.Dec.{ltb, lit<}
use lib.ListN.{set, replicate, length-replicate, length-set}
use lib.Seq.{get_or-set_same, get_or-set_other}
use Rattle.xor.specs.Xor.{◌⊕◌}
use Rattle.xor.specs.Sum.{join}
use Rattle.xor.proofs.Xor.{⊕-zero, ⊕-lt, xor}
use Rattle.xor.proofs.Sum.{join_zeros}
use Rattle.field.specs.Power.{pow}
use Rattle.field.proofs.Ring.{ring_8}
use Rattle.field.proofs.Power.{pow_small}
use Rattle.steps.specs.Fill.{tabulate}
use Rattle.steps.specs.Program.{Run, one, ◌>>=◌, note}
use Rattle.steps.specs.Shape.{Shape, Shaped, shaped_return, shaped_step, step_of, for_shape}
use Rattle.steps.proofs.Fill.{get_d_tabulate, tabulate_same}
use Rattle.steps.proofs.Sharing.{share_zeros, small_zeros, set_small}
use Rattle.steps.proofs.Shape.{shaped_bind, shaped_map, shaped_for, shaped_weaken}
use Rattle.steps.proofs.Iterate.{shaped_iterate}
use Rattle.rijndael.specs.Strings.{byte_at, share_byte, add_byte, make, make_shares, take_at, put_at, put_shares, Shared, bytes_shape}
use Rattle.rijndael.specs.Rijndael.{rot_byte, word_byte, sub_bytes, shift_rows, mix_columns, add_round_key, rcon}
use Rattle.rijndael.specs.Rijndael.{Expanding, new_word, next_key, key_expansion, round, last_round, cipher, encrypt}
use Rattle.rijndael.specs.Masked.{Substitutes, masked_shift_rows, masked_mix_columns, masked_add_round_key, masked_rot_word, masked_rcon, masked_new_word}
use Rattle.rijndael.specs.Masked.{masked_sub_byte, masked_sub_bytes, masked_next_key, masked_key_expansion, masked_round, masked_last_round, masked_cipher}
use Rattle.rijndael.specs.Masked.{masked_encrypt, next_key_shape, round_shape, last_round_shape, cipher_shape, block_shape}
use Rattle.rijndael.proofs.Strings.{shared_same, shared_make, shared_none, shared_put, put_here, put_before, put_after}
use Rattle.rijndael.proofs.Layers.{shift_linear, rot_linear, key_linear, word_linear, mix_linear}
use Rattle.rijndael.proofs.Recording.{shaped_recorded}
use Rattle.rijndael.proofs.OneByte.{sharing_taken, sharing_one}

-- ---- SubBytes

-- the bytes of x below number j through f, the others as they are
partly : (ℕ → ℕ) → ℕ → ℕ → List ℕ → List ℕ
partly f m j x = tabulate m (λ k. cond (ltb k j) (f (byte_at x k)) (byte_at x k))

module _ (f : ℕ → ℕ) (m : ℕ) (x : List ℕ) where
  partly_done : (j k : ℕ) → k < m → k < j → byte_at (partly f m j x) k ≡ f (byte_at x k)
  unfolding partly
  partly_done j k l h = get_d_tabulate m _ k 0 l ∙ rw (lt-ltb k j h)

  partly_left : (j k : ℕ) → k < m → j ≤ k → byte_at (partly f m j x) k ≡ byte_at x k
  unfolding partly
  partly_left j k l h = get_d_tabulate m _ k 0 l ∙ rw (le-ltb k j h)

  partly_all : (k : ℕ) → k < m → byte_at (partly f m m x) k ≡ byte_at (sub_bytes f m x) k
  unfolding sub_bytes
  partly_all k l = partly_done m k l l ∙ sym (get_d_tabulate m (λ j. f (byte_at x j)) k 0 l)

  partly_more : (j : ℕ) → j < m → (k : ℕ) → k < m
      → byte_at (make m (put_at j 1) (partly f m j x) (f (byte_at (partly f m j x) j) ∷ [])) k ≡ byte_at (partly f m (j + 1) x) k
  unfolding make
  partly_more j h k l =
      let y = partly f m j x in
      let v = byte_at (f (byte_at y j) ∷ []) in
      get_d_tabulate m (put_at j 1 (byte_at y) v) k 0 l
      ∙ elim (dec_lt k j) [
        | yes p ↦ put_before j 1 (byte_at y) v k p ∙ partly_done j k l p ∙ sym (partly_done (j + 1) k l (omega arith))
        | no p ↦ elim (ℕ_discrete k j) [
          | yes e ↦ let z : k ≡ j + 0 = omega arith in
              ap (put_at j 1 (byte_at y) v) z ∙ put_here j 1 (byte_at y) v 0 (omega arith)
              ∙ ap f (partly_left j j h (omega arith)) ∙ ap (λ (i : ℕ). f (byte_at x i)) (sym e) ∙ sym (partly_done (j + 1) k l (omega arith))
          | no e ↦ put_after j 1 (byte_at y) v k (omega arith) ∙ partly_left j k l (omega arith) ∙ sym (partly_left (j + 1) k l (omega arith))
        ]
      ]

module _ (f : ℕ → ℕ) (s : ℕ) (nine : s ≤ 9) (σ : Shape) (sbox : List ℕ → Run (List ℕ)) (good : Substitutes f s σ sbox) where
  shaped_byte : (m j : ℕ) → j < m → {x a : List ℕ} → Shared m s x a
      → Shaped (Shared m s (make m (put_at j 1) x (f (byte_at x j) ∷ []))) σ (masked_sub_byte sbox m s j a)
  unfolding masked_sub_byte
  shaped_byte m j l {x} {a} h =
      shaped_map (put_shares s m j 1 a) (good (byte_at x j) (make_shares s m 0 1 (take_at j) a []) (sharing_taken m j s l nine h))
      (λ v hv. shared_put m j 1 s (omega arith) nine h (sharing_one hv.0 hv.1))

  pub shaped_sub_bytes : (m : ℕ) {x a : List ℕ} → Shared m s x a
      → Shaped (Shared m s (sub_bytes f m x)) (for_shape 0 m (λ j. σ)) (masked_sub_bytes sbox m s a)
  unfolding masked_sub_bytes
  shaped_sub_bytes m {x} {a} h =
      shaped_weaken
      (shaped_for (λ j b. Shared m s (partly f m j x) b) (λ j. σ) 0 m (omega arith)
      (λ j b k l g. shaped_weaken (shaped_byte m j l g) (λ c hc. shared_same (partly_more f m x j l) hc))
      a (shared_same (λ k l. sym (partly_left f m x 0 k l (omega arith))) h))
      (λ b hb. shared_same (partly_all f m x) hb)

-- ---- the other transformations

module _ (s : ℕ) (nine : s ≤ 9) where
  shaped_shift_rows : {x a : List ℕ} → Shared 16 s x a → Shaped (Shared 16 s (shift_rows x)) (bytes_shape 16 s) (masked_shift_rows s a)
  unfolding shift_rows masked_shift_rows
  shaped_shift_rows h = shaped_recorded 16 s _ (shared_make shift_linear s nine h (shared_none s))

  shaped_mix_columns : {x a : List ℕ} → Shared 16 s x a → Shaped (Shared 16 s (mix_columns x)) (bytes_shape 16 s) (masked_mix_columns s a)
  unfolding mix_columns masked_mix_columns
  shaped_mix_columns h = shaped_recorded 16 s _ (shared_make mix_linear s nine h (shared_none s))

  shaped_add_round_key : (r : ℕ) → r < 11 → {w x a b : List ℕ} → Shared 176 s w a → Shared 16 s x b
      → Shaped (Shared 16 s (add_round_key r w x)) (bytes_shape 16 s) (masked_add_round_key s r a b)
  unfolding add_round_key masked_add_round_key
  shaped_add_round_key r l hw hx = shaped_recorded 16 s _ (shared_make (key_linear r l) s nine hx hw)

  shaped_rot_word : (r : ℕ) → 1 ≤ r → r < 11 → {w a : List ℕ} → Shared 176 s w a
      → Shaped (Shared 4 s (make 4 (rot_byte r) w [])) (bytes_shape 4 s) (masked_rot_word s r a)
  unfolding masked_rot_word
  shaped_rot_word r p l h = shaped_recorded 4 s _ (shared_make (rot_linear r p l) s nine h (shared_none s))

-- ---- Rcon

pub rcon_small : (r : ℕ) → byte_at (rcon r) 0 < 2 ^ 8
unfolding rcon
rcon_small r = pow_small ring_8 2 (r - 1) (lit< tt)

module _ (s r : ℕ) (some : 0 < s) {x t : List ℕ} (h : Shared 4 s x t) where
  -- the first byte of share 0 with Rcon
  first : ℕ
  first = byte_at t 0 ⊕ byte_at (rcon r) 0

  joins_rcon : (k : ℕ) → k < 4 → join (tabulate 9 (λ i. share_byte 4 (set t 0 first) i k)) ≡ byte_at x k ⊕ byte_at (rcon r) k
  unfolding tabulate join rcon first
  joins_rcon zero l =
      let later : (i : ℕ) → share_byte 4 (set t 0 first) (suc i) 0 ≡ share_byte 4 t (suc i) 0 =
      λ i. get_or-set_other t 0 (suc i * 4 + 0) first 0 (λ e. omega arith) in
      ap₂ ◌⊕◌ (get_or-set_same t 0 first 0 (omega (arith, h.places))) (ap join (tabulate_same 8 _ _ (λ i q. later i)))
      ∙ regroup (byte_at t 0) (pow 8 2 (r - 1)) (join (tabulate 8 (λ i. share_byte 4 t (suc i) 0)))
      ∙ ap (λ (v : ℕ). v ⊕ pow 8 2 (r - 1)) (h.joins 0 l)
    where
      regroup : (a b c : ℕ) → a ⊕ b ⊕ c ≡ a ⊕ c ⊕ b
      regroup a b c = simp xor
  joins_rcon (suc k) l =
      ap join (tabulate_same 9 _ _ (λ i q. get_or-set_other t 0 (i * 4 + suc k) first 0 (λ e. omega arith)))
      ∙ h.joins (suc k) l ∙ sym (⊕-zero (byte_at x (suc k))) ∙ ap (λ (v : ℕ). byte_at x (suc k) ⊕ v) (sym (zeros k))
    where
      zeros : (k : ℕ) → byte_at (0 ∷ 0 ∷ 0 ∷ []) k ≡ 0
      zeros zero = refl
      zeros (suc zero) = refl
      zeros (suc (suc zero)) = refl
      zeros (suc (suc (suc k))) = refl

  shaped_rcon : Shaped (Shared 4 s (make 4 add_byte x (rcon r))) (step_of (one 0) ∷ []) (masked_rcon r t)
  unfolding masked_rcon note ◌>>=◌ make first
  shaped_rcon = shaped_step (shaped_return (record {
    places = length-set t 0 first ∙ h.places;
    small = set_small 8 t 0 first h.small (⊕-lt 8 (h.small 0) (rcon_small r));
    past = λ i k p l. get_or-set_other t 0 (i * 4 + k) first 0 (λ e. omega arith) ∙ h.past i k p l;
    joins = λ k l. joins_rcon k l ∙ sym (get_d_tabulate 4 _ k 0 l);
  }))

-- ---- the key expansion

-- the words so far and temp, each with its sharing
record SharedWords (s : ℕ) (x a : Expanding) : Type 0 where
  words_shared : Shared 176 s x.words a.words
  temp_shared : Shared 4 s x.temp a.temp

module _ (s : ℕ) (nine : s ≤ 9) where
  shaped_new_word : (i : ℕ) → i < 44 → {x a : Expanding} → SharedWords s x a
      → Shaped (SharedWords s (new_word i x)) (bytes_shape 4 s) (masked_new_word s i a)
  unfolding new_word masked_new_word
  shaped_new_word i l {x} {a} h =
      shaped_map (λ w. record { words = put_shares s 176 (4 * i) 4 a.words w; temp = w })
      (shaped_recorded 4 s (make_shares s 176 4 4 (word_byte i) a.words a.temp)
      (shared_make (word_linear i l) s nine h.words_shared h.temp_shared))
      (λ w hw. record { words_shared = shared_put 176 (4 * i) 4 s (omega arith) nine h.words_shared hw; temp_shared = hw })

  -- no word yet
  zeros_shared : (m : ℕ) → Shared m s [] (replicate (9 * m) 0)
  unfolding tabulate
  zeros_shared m = record {
    places = length-replicate {A = ℕ} (9 * m) 0;
    small = small_zeros 8 (9 * m);
    past = λ i k p l. share_zeros (9 * m) (i * m + k);
    joins = λ k l. ap join (tabulate_same 9 _ (λ i. 0) (λ i q. share_zeros (9 * m) (i * m + k))) ∙ join_zeros 9;
  }

module _ (f : ℕ → ℕ) (s : ℕ) (nine : s ≤ 9) (σ : Shape) (sbox : List ℕ → Run (List ℕ)) (good : Substitutes f s σ sbox) (some : 0 < s) where
  shaped_next_key : (r : ℕ) → 1 ≤ r → r < 11 → {w a : List ℕ} → Shared 176 s w a
      → Shaped (Shared 176 s (next_key f r w)) (next_key_shape s σ) (masked_next_key sbox s r a)
  unfolding next_key masked_next_key next_key_shape
  shaped_next_key r p l {w} {a} h =
      shaped_bind (shaped_rot_word s nine r p l h) λ u hu.
      shaped_bind (shaped_sub_bytes f s nine σ sbox good 4 hu) λ v hv.
      shaped_bind (shaped_rcon s r some hv) λ t ht.
      shaped_map (λ b. b.words)
      (shaped_iterate (SharedWords s) (λ t. bytes_shape 4 s) 0 4 (omega arith) (λ t x b k m g. shaped_new_word s nine (4 * r + t) (omega arith) g)
      (record { words = w; temp = make 4 add_byte (sub_bytes f 4 (make 4 (rot_byte r) w [])) (rcon r) }) (record { words = a; temp = t })
      (record { words_shared = h; temp_shared = ht }))
      (λ b hb. hb.words_shared)

  shaped_key_expansion : {k a : List ℕ} → Shared 16 s k a
      → Shaped (Shared 176 s (key_expansion f k)) (for_shape 1 11 (λ r. next_key_shape s σ)) (masked_key_expansion sbox s a)
  unfolding key_expansion masked_key_expansion
  shaped_key_expansion {k} {a} h =
      shaped_iterate (Shared 176 s) (λ r. next_key_shape s σ) 1 11 (omega arith) (λ r w b p l g. shaped_next_key r p l g)
      (make 176 (put_at 0 16) [] k) (put_shares s 176 0 16 (replicate 1584 0) a) (shared_put 176 0 16 s (omega arith) nine (zeros_shared s nine 176) h)

  -- ---- the rounds

  module _ (w keys : List ℕ) (hw : Shared 176 s w keys) where
    shaped_round : (r : ℕ) → r < 11 → {x a : List ℕ} → Shared 16 s x a
        → Shaped (Shared 16 s (round f w r x)) (round_shape s σ) (masked_round sbox s keys r a)
    unfolding round masked_round round_shape
    shaped_round r l h =
        shaped_bind (shaped_sub_bytes f s nine σ sbox good 16 h) λ x hx.
        shaped_bind (shaped_shift_rows s nine hx) λ y hy.
        shaped_bind (shaped_mix_columns s nine hy) λ z hz.
        shaped_add_round_key s nine r l hw hz

    shaped_last_round : {x a : List ℕ} → Shared 16 s x a
        → Shaped (Shared 16 s (last_round f w x)) (last_round_shape s σ) (masked_last_round sbox s keys a)
    unfolding last_round masked_last_round last_round_shape
    shaped_last_round h =
        shaped_bind (shaped_sub_bytes f s nine σ sbox good 16 h) λ x hx.
        shaped_bind (shaped_shift_rows s nine hx) λ y hy.
        shaped_add_round_key s nine 10 (omega arith) hw hy

    shaped_cipher : {x a : List ℕ} → Shared 16 s x a → Shaped (Shared 16 s (cipher f w x)) (cipher_shape s σ) (masked_cipher sbox s keys a)
    unfolding cipher masked_cipher cipher_shape
    shaped_cipher {x} h =
        shaped_bind (shaped_add_round_key s nine 0 (omega arith) hw h) λ y hy.
        shaped_bind
        (shaped_iterate (Shared 16 s) (λ r. round_shape s σ) 1 10 (omega arith) (λ r z c l m g. shaped_round r (omega arith) g)
        (add_round_key 0 w x) y hy) λ c hc.
        shaped_last_round hc

  -- THE BLOCK. On sharings of a key and a block the masked program ends in a sharing of the standard's block, and has the shape of the paper.
  pub encrypt_joins : (k x a b : List ℕ) → Shared 16 s k a → Shared 16 s x b
      → Shaped (Shared 16 s (encrypt f k x)) (block_shape s σ) (masked_encrypt sbox s a b)
  unfolding encrypt masked_encrypt block_shape
  encrypt_joins k x a b hk hx = shaped_bind (shaped_key_expansion hk) λ keys hw. shaped_cipher (key_expansion f k) keys hw hx
