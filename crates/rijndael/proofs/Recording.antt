-- The laws of recording strings: the shape, the coupling, and how many steps there are.
use mathlib.Core.Path.{◌≡◌, refl, sym, ap, ◌∙◌}
use mathlib.Core.List.{List, [], ◌∷◌}
use Prim.Native.Nat.{ℕ, ◌*◌, ◌/◌, ◌%◌, ◌<◌}
use native.Mathlib.Nat.{mod-lt, div-add-mod', sub-zero}
use native.Mathlib.Omega.{arith}
use lib.ListN.{get_or}
use Rattle.steps.specs.Program.{one, ◌>>=◌, ◌>>◌, note}
use Rattle.steps.specs.Shape.{step_of, Shape, Shaped, shaped_return, shaped_step, bits_of, Counting, Uniform}
use Rattle.steps.specs.Coupling.{Coupled, coupled_return, coupled_step}
use Rattle.steps.proofs.Shape.{shaped_for, shaped_map, counts_for, uniform_for}
use Rattle.steps.proofs.Coupling.{coupled_bind, coupled_for, seen_one}
use Rattle.rijndael.specs.Strings.{share_byte, note_bytes, record_string, bytes_shape}
use Rattle.rijndael.specs.LinearLayers.{Alike}

pub shaped_recorded : {P : List ℕ → Type 0} (m s : ℕ) (a : List ℕ) → P a → Shaped P (bytes_shape m s) (record_string m s a)
unfolding record_string note_bytes bytes_shape ◌>>◌ ◌>>=◌ note
shaped_recorded m s a p =
    shaped_map (λ u. a)
    (shaped_for (λ i u. Unit) (λ p. step_of (one (p / m)) ∷ []) 0 (s * m) (omega arith) (λ p u g h q. shaped_step (shaped_return tt)) tt tt)
    (λ u q. p)

-- place p is byte p % m of share p / m
share_byte_place : (m : ℕ) (a : List ℕ) (p : ℕ) → get_or a p 0 ≡ share_byte m a (p / m) (p % m)
share_byte_place m a p = ap (λ (q : ℕ). get_or a q 0) (sym (div-add-mod' p m))

pub coupled_recorded : {u : ℕ} (m s : ℕ) → 0 < m → {a b : List ℕ} → Alike m u a b → Coupled u (Alike m u) (record_string m s a) (record_string m s b)
unfolding record_string note_bytes ◌>>◌ note ◌>>=◌
coupled_recorded {u} m s pos {a} {b} c =
    coupled_bind
    (coupled_for u (λ i x y. Unit) 0 (s * m) (omega arith)
    (λ p x y g h q. coupled_step (seen_one (λ f. share_byte_place m a p ∙ c.agree (p / m) (p % m) f (mod-lt p pos) ∙ sym (share_byte_place m b p))) (coupled_return tt))
    tt tt tt)
    (λ x y q. coupled_return c)

-- ---- counts

module _ {f : Shape → ℕ} (c : Counting f) (q : ℕ) (h : (i : ℕ) → f (step_of (one i) ∷ []) ≡ q) where
  pub counts_bytes : (m s : ℕ) → f (bytes_shape m s) ≡ s * m * q
  unfolding bytes_shape
  counts_bytes m s = counts_for c q 0 (s * m) (λ p. step_of (one (p / m)) ∷ []) (λ p. h (p / m)) ∙ rw sub-zero

pub uniform_bytes : (n m s : ℕ) → Uniform n (bytes_shape m s)
unfolding bytes_shape bits_of
uniform_bytes n m s = uniform_for n 0 (s * m) (λ p. step_of (one (p / m)) ∷ []) (λ p. refl)
