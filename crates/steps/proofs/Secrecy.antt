-- Secrecy, for any program of a secret: what a list of watched steps shows, it shows under equally many choices for any two secrets.
use mathlib.Core.Path.{◌≡◌, sym, ap, ◌∙◌}
use mathlib.Core.List.{List}
use Prim.Native.Nat.{ℕ, ◌+◌, ◌*◌, ◌≤◌, ◌<◌}
use Rattle.steps.specs.Program.{Run, trace}
use Rattle.steps.specs.Watch.{watched, different, Misses}
use Rattle.steps.specs.Choices.{tally, equal, choices}
use Rattle.steps.specs.Shape.{Shape, touches_of, bits_of, Shaped}
use Rattle.steps.specs.Coupling.{Coupled}
use Rattle.steps.proofs.Choices.{tally_same}
use Rattle.steps.proofs.Watch.{visible, watched_visible, few_miss}
use Rattle.steps.proofs.Shape.{shaped_trace}
use Rattle.steps.proofs.Coupling.{coupled_tally}

-- A program of a secret x, where `Secret x` says which x are meant (below 2 ^ n, say). Whatever the secret, the program has the shape σ.
module _ {X A : Type 0} (Secret : X → Type 0) (program : X → Run A) (σ : Shape) (P : X → A → Type 0)
    (shaped : (x : X) → Secret x → Shaped (P x) σ (program x)) where
  -- An untouched share: if the program is coupled at share u for any two secrets, and no step of the list touches u, then for each list of values
  -- equally many choices show these values at the steps of the list, for both secrets. The list has any length and order, with repeats.
  pub untouched_share : (u : ℕ) (R : A → A → Type 0)
      → ((x y : X) → Secret x → Secret y → Coupled u R (program x) (program y))
      → (list : List ℕ) → Misses u (touches_of σ) list
      → (shown : List ℕ) (x y : X) → Secret x → Secret y
      → choices (bits_of σ) (program x) list shown ≡ choices (bits_of σ) (program y) list shown
  unfolding choices
  untouched_share u R coupled list h shown x y hx hy =
      see x hx ∙ coupled_tally (coupled x y hx hy) (shaped x hx) (λ entries. equal (watched list entries) shown) ∙ sym (see y hy)
    where
      see : (x : X) → Secret x
          → choices (bits_of σ) (program x) list shown ≡ tally (bits_of σ) (λ tape. equal (watched list (visible u (trace (program x) tape))) shown)
      see x hx =
          tally_same (bits_of σ) _ _
          (λ tape l. ap (λ (w : List ℕ). equal w shown) (watched_visible h (trace (program x) tape) (shaped_trace (shaped x hx) tape l)))

  -- Few steps: if the program is coupled at each of s shares for any two secrets, and the list has at most t different numbers, where s is at least
  -- 2 t + 1, then for each list of values equally many choices show these values at the steps of the list, for both secrets.
  pub few_steps : (s : ℕ) (R : ℕ → A → A → Type 0)
      → ((u : ℕ) → u < s → (x y : X) → Secret x → Secret y → Coupled u (R u) (program x) (program y))
      → (t : ℕ) → 2 * t + 1 ≤ s → (list : List ℕ) → different list ≤ t
      → (shown : List ℕ) (x y : X) → Secret x → Secret y
      → choices (bits_of σ) (program x) list shown ≡ choices (bits_of σ) (program y) list shown
  few_steps s R coupled t h list d =
      let r = few_miss s t (touches_of σ) list h d in
      untouched_share r.0 (R r.0) (coupled r.0 r.1) list r.2
