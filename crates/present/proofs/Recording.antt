-- The laws of recording.
use mathlib.Core.Path.{ap}
use mathlib.Core.List.{List, [], ◌∷◌}
use Prim.Native.Nat.{ℕ, ◌≤◌}
use native.Mathlib.Omega.{arith}
use Rattle.steps.specs.Program.{one, ◌>>=◌, ◌>>◌, note}
use Rattle.steps.specs.Shape.{step_of, Shaped, shaped_return, shaped_step}
use Rattle.steps.specs.Coupling.{Coupled, coupled_return, coupled_step}
use Rattle.steps.specs.Sharing.{share, CloseAt, Close}
use Rattle.steps.proofs.Shape.{shaped_for, shaped_map}
use Rattle.steps.proofs.Coupling.{coupled_bind, coupled_for, seen_one}
use Rattle.steps.proofs.Sharing.{close_at}
use Rattle.present.specs.Present.{nibble}
use Rattle.present.specs.Masked.{note_nibbles, note_shares, recorded, nibbles_shape, shares_shape}

pub shaped_nibbles : (i k n x : ℕ) → k ≤ n → Shaped (λ u. Unit) (nibbles_shape i k n) (note_nibbles i k n x)
unfolding note_nibbles nibbles_shape note ◌>>◌ ◌>>=◌
shaped_nibbles i k n x l = shaped_for (λ j u. Unit) (λ j. step_of (one i) ∷ []) k n l (λ j u g h p. shaped_step (shaped_return tt)) tt tt

pub shaped_recorded : {P : List ℕ → Type 0} (n s : ℕ) (a : List ℕ) → P a → Shaped P (shares_shape n s) (recorded n s a)
unfolding recorded note_shares shares_shape ◌>>◌
shaped_recorded n s a p =
    shaped_map (λ u. a)
    (shaped_for (λ i u. Unit) (λ i. nibbles_shape i 0 n) 0 s (omega arith) (λ i u g h q. shaped_nibbles i 0 n (share a i) (omega arith)) tt tt)
    (λ u q. p)

pub coupled_nibbles : {m u : ℕ} (i k n : ℕ) {x y : ℕ} → CloseAt m u i x y → k ≤ n
    → Coupled u (λ c d. Unit) (note_nibbles i k n x) (note_nibbles i k n y)
unfolding note_nibbles note ◌>>◌ ◌>>=◌
coupled_nibbles {u = u} i k n c l =
    coupled_for u (λ j a b. Unit) k n l (λ j a b g h p. coupled_step (seen_one (λ f. ap (nibble j) (c.agree f))) (coupled_return tt)) tt tt tt

pub coupled_recorded : {m u : ℕ} (n s : ℕ) {a b : List ℕ} → Close m u a b → Coupled u (Close m u) (recorded n s a) (recorded n s b)
unfolding recorded note_shares ◌>>◌
coupled_recorded {u = u} n s c =
    coupled_bind
    (coupled_for u (λ i a b. Unit) 0 s (omega arith) (λ i a b g h p. coupled_nibbles i 0 n (close_at c i) (omega arith)) tt tt tt)
    (λ a b p. coupled_return c)
