-- A string of one byte in shares is a sharing of that byte; so the S-box is run on a byte of a string.
use mathlib.Core.Path.{◌≡◌, refl, sym, ap, subst, ◌∙◌}
use mathlib.Core.List.{List, [], ◌∷◌}
use Prim.Native.Nat.{ℕ, zero, suc, ◌+◌, ◌*◌, ◌≤◌, ◌<◌}
use native.Mathlib.Omega.{arith}
use lib.ListN.{length, get_or-eq_default}
use Rattle.xor.specs.Sum.{join}
use Rattle.steps.specs.Fill.{tabulate}
use Rattle.steps.proofs.Fill.{tabulate_same}
use Rattle.steps.specs.Sharing.{share, Sharing, Close}
use Rattle.steps.proofs.Sharing.{without_past}
use Rattle.rijndael.specs.Strings.{byte_at, share_byte, Shared, make_shares, take_at, make}
use Rattle.rijndael.specs.LinearLayers.{Alike}
use Rattle.rijndael.proofs.Strings.{shared_make, alike_make, shared_none, alike_none}
use Rattle.rijndael.proofs.Layers.{take_linear}

-- the byte of share i is share i
pub share_byte_share : (a : List ℕ) (i k : ℕ) → k < 1 → share_byte 1 a i k ≡ share a i
share_byte_share a i k h = let e : i * 1 + k ≡ i = omega arith in ap (share a) e

shares_past : (a : List ℕ) → length a ≡ 9 → (i : ℕ) → 9 ≤ i → share a i ≡ 0
shares_past a e i l = get_or-eq_default a 0 {n = i} (omega arith)

pub one_sharing : {s : ℕ} {x a : List ℕ} → Shared 1 s x a → Sharing 8 s (byte_at x 0) a
one_sharing {s} {x} {a} h = record {
  small = h.small;
  past = λ i l. sym (share_byte_share a i 0 (omega arith)) ∙ h.past i 0 l (omega arith);
  joins = sym (without_past 9 a (shares_past a (h.places ∙ refl)))
      ∙ ap join (tabulate_same 9 _ _ (λ i l. sym (share_byte_share a i 0 (omega arith)))) ∙ h.joins 0 (omega arith);
}

pub sharing_one : {s x : ℕ} {a : List ℕ} → length a ≡ 9 → Sharing 8 s x a → Shared 1 s (x ∷ []) a
sharing_one {s} {x} {a} e h = record {
  places = e;
  small = h.small;
  past = λ i k l q. share_byte_share a i k q ∙ h.past i l;
  joins = joins;
}
  where
    joins : (k : ℕ) → k < 1 → join (tabulate 9 (λ i. share_byte 1 a i k)) ≡ byte_at (x ∷ []) k
    joins zero l =
        ap join (tabulate_same 9 _ _ (λ i q. share_byte_share a i 0 l)) ∙ without_past 9 a (shares_past a e) ∙ h.joins
    joins (suc k) l = absurd (omega arith)

-- ---- byte j of a string

module _ (m j s : ℕ) (l : j < m) (nine : s ≤ 9) where
  pub sharing_taken : {x a : List ℕ} → Shared m s x a → Sharing 8 s (byte_at x j) (make_shares s m 0 1 (take_at j) a [])
  unfolding make take_at tabulate
  sharing_taken {x} {a} h =
      let e : j + 0 ≡ j = omega arith in
      subst (λ (k : ℕ). Sharing 8 s (byte_at x k) (make_shares s m 0 1 (take_at j) a [])) e
      (one_sharing (shared_make (take_linear m 1 j (omega arith)) s nine h (shared_none s)))

  pub close_taken : {u : ℕ} {a b : List ℕ} → Alike m u a b
      → Close 8 u (make_shares s m 0 1 (take_at j) a []) (make_shares s m 0 1 (take_at j) b [])
  close_taken {u} {a} {b} h =
      let c = alike_make (take_linear m 1 j (omega arith)) s nine h (alike_none u) in
      record {
        same_length = c.places ∙ sym c.places';
        agree = λ i f. sym (share_byte_share (make_shares s m 0 1 (take_at j) a []) i 0 (omega arith)) ∙ c.agree i 0 f (omega arith)
            ∙ share_byte_share (make_shares s m 0 1 (take_at j) b []) i 0 (omega arith);
        small = c.small;
        small' = c.small';
      }
