-- A block by the table and the keys of encryption is the block encrypted, and by those of decryption decrypted.
use mathlib.Core.Path.{◌≡◌, refl, sym, ap, ap₂, ◌∙◌}
use Prim.Native.Nat.{ℕ, zero, suc, ◌+◌, ◌-◌, ◌^◌, ◌<◌}
use native.Mathlib.Omega.{arith}
use lib.ListN.{get_or}
use Rattle.xor.specs.Xor.{◌⊕◌}
use Rattle.xor.proofs.Xor.{⊕-lt}
use Rattle.steps.specs.Iterate.{turns, iterate, iterate_back}
use Rattle.steps.proofs.Fill.{get_d_tabulate}
use Rattle.steps.proofs.Iterate.{iterate_through}
use Rattle.present.specs.Present.{substitute, sbox_layer, permute, Size, key_bits, Sound, encrypt}
use Rattle.present.specs.Decrypt.{unsubstitute, unpermute, round_key_of, undo_round, decrypt}
use Rattle.present.proofs.Numbers.{permute_linear, unpermute_linear}
use Rattle.present.proofs.Layer.{layer_lt}
use Rattle.present.proofs.Inverse.{substitute_lt, unsubstitute_lt, permute_unpermute, block_round, encrypt_by_keys, round_key_lt, undo_round_lt, decrypt_lt}
use Rattle.unshared.specs.Table.{encryption_table, decryption_table}
use Rattle.unshared.specs.RoundKeys.{round_keys, inverse_keys, turn, by_table}
use Rattle.unshared.proofs.Tables.{encryption_entries, decryption_entries}

-- a key added before each turn of a loop, and a last one: the first key, and then a key after each turn
key_after : (key : ℕ → ℕ) (f : ℕ → ℕ) (x : ℕ)
    → iterate 1 32 (λ r y. key (r + 1) ⊕ f y) (key 1 ⊕ x) ≡ key 32 ⊕ iterate 1 32 (λ r y. f (key r ⊕ y)) x
unfolding iterate turns
key_after key f x = go 31
  where
    go : (n : ℕ) → turns (λ r y. key (r + 1) ⊕ f y) 1 n (key 1 ⊕ x) ≡ key (1 + n) ⊕ turns (λ r y. f (key r ⊕ y)) 1 n x
    go zero = refl
    go (suc n) =
        let e : 1 + n + 1 ≡ 1 + suc n = omega arith in
        ap₂ (λ (i y : ℕ). key i ⊕ f y) e (go n)

module _ (z : Size) (k : ℕ) where
  round_key_lem : (r : ℕ) → r < 32 → get_or (round_keys z k) r 0 ≡ round_key_of z k (r + 1)
  unfolding round_keys
  round_key_lem r h = get_d_tabulate 32 (λ j. round_key_of z k (j + 1)) r 0 h

  inverse_key : (r : ℕ) → r < 32 → get_or (inverse_keys z k) r 0 ≡ unpermute (round_key_of z k (32 - r))
  unfolding inverse_keys
  inverse_key r h = get_d_tabulate 32 (λ j. unpermute (round_key_of z k (32 - j))) r 0 h

  module _ (sound : Sound z) (hk : k < 2 ^ key_bits z) where
    -- the layers of encryption
    layers : ℕ → ℕ
    layers y = permute (sbox_layer substitute y)

    layers_lt : (y : ℕ) → y < 2 ^ 64 → layers y < 2 ^ 64
    unfolding layers
    layers_lt y h = permute_linear.small _ (layer_lt substitute substitute_lt y h)

    -- ENCRYPTION.
    pub encrypts : (x : ℕ) → x < 2 ^ 64 → by_table encryption_table (round_keys z k) x ≡ encrypt z k x
    unfolding by_table turn layers block_round
    encrypts x h =
        let key : ℕ → ℕ = round_key_of z k in
        ap (λ (q : ℕ). iterate 1 32 (turn encryption_table (round_keys z k)) (q ⊕ x)) (round_key_lem 0 (omega arith))
        ∙ iterate_through (λ y. y < 2 ^ 64) (λ r y. key (r + 1) ⊕ layers y) 1 32
        (λ r y l m p. ⊕-lt 64 (round_key_lt z sound k hk (r + 1) (omega arith)) (layers_lt y p))
        (λ y. y) (turn encryption_table (round_keys z k))
        (λ r y l m p. ap₂ ◌⊕◌ (round_key_lem r m) (encryption_entries y p)) (key 1 ⊕ x) (⊕-lt 64 (round_key_lt z sound k hk 1 (omega arith)) h)
        ∙ key_after key layers x ∙ sym (encrypt_by_keys z k x)

    -- a turn of decryption on a block that the inverse permutation has met
    turned_back : (r y : ℕ) → r < 32 → y < 2 ^ 64
        → turn decryption_table (inverse_keys z k) r (unpermute y) ≡ unpermute (undo_round z k (32 - r) y)
    unfolding turn undo_round
    turned_back r y m h =
        let s = sbox_layer unsubstitute (unpermute y) in
        let hs : unpermute y < 2 ^ 64 = unpermute_linear.small y h in
        ap₂ ◌⊕◌ (inverse_key r m) (decryption_entries (unpermute y) hs)
        ∙ sym (unpermute_linear.additive (round_key_of z k (32 - r)) s (round_key_lt z sound k hk (32 - r) (omega arith))
        (layer_lt unsubstitute unsubstitute_lt (unpermute y) hs))

    -- DECRYPTION.
    pub decrypts : (y : ℕ) → y < 2 ^ 64 → permute (by_table decryption_table (inverse_keys z k) (unpermute y)) ≡ decrypt z k y
    unfolding by_table decrypt iterate_back
    decrypts y h =
        let q = round_key_of z k 32 in
        let hq : q < 2 ^ 64 = round_key_lt z sound k hk 32 (omega arith) in
        let f = turn decryption_table (inverse_keys z k) in
        let start : get_or (inverse_keys z k) 0 0 ⊕ unpermute y ≡ unpermute (q ⊕ y) =
        ap (λ (v : ℕ). v ⊕ unpermute y) (inverse_key 0 (omega arith)) ∙ sym (unpermute_linear.additive q y hq h) in
        ap (λ (x : ℕ). permute (iterate 1 32 f x)) start
        ∙ ap permute
        (iterate_through (λ x. x < 2 ^ 64) (λ j. undo_round z k (32 - j)) 1 32
        (λ j x l m p. undo_round_lt z sound k hk (32 - j) (omega arith) x p)
        unpermute f (λ j x l m p. turned_back j x m p) (q ⊕ y) (⊕-lt 64 hq h))
        ∙ permute_unpermute _ (decrypt_lt z sound k hk y h)
