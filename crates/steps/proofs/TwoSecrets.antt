-- SECRECY OF TWO SECRETS, for any program of their sharings: what a list of watched steps shows, it shows under equally many choices for any two pairs
-- of secrets.
use mathlib.Core.Path.{◌≡◌, refl, ap, ap₂, ◌∙◌}
use mathlib.Core.List.{List, ◌++◌}
use Prim.Native.Nat.{ℕ, ◌+◌, ◌-◌, ◌*◌, ◌≤◌, ◌<◌}
use lib.ListN.{length, replicate}
use Rattle.steps.specs.Program.{Run, ◌>>=◌, trace, draws}
use Rattle.steps.specs.Watch.{different, Misses}
use Rattle.steps.specs.Choices.{Fits, choices}
use Rattle.steps.specs.Shape.{draw_of, Shape, touches_of, bits_of, Shaped}
use Rattle.steps.specs.Coupling.{Coupled}
use Rattle.steps.specs.Sharing.{Sharing, Close}
use Rattle.steps.specs.Split.{split, settled}
use Rattle.steps.specs.TwoSecrets.{TwoSecret, split_two, split_two_bits}
use Rattle.steps.proofs.Shape.{touches_append, bits_append, shaped_bind, shaped_draws}
use Rattle.steps.proofs.Coupling.{coupled_bind}
use Rattle.steps.proofs.Splits.{shaped_split, coupled_split, split_trace, draws_bits, draws_touches}
use Rattle.steps.proofs.Secrecy.{untouched_share, few_steps}

-- THE CHOICE settles a run. Let l be shares 1 to s - 1 of the first secret, m those of the second, and the tape the random elements. Then the steps of
-- the experiment are those of the program on the sharings that the secrets and these shares settle.
pub two_trace : {A : Type 0} (w v s : ℕ) (program : List ℕ → List ℕ → Run A) (x : ℕ × ℕ) (l m tape : List ℕ)
    → length l ≡ s - 1 → length m ≡ s - 1
    → trace (split_two w v s program x) (l ++ (m ++ tape)) ≡ trace (program (settled x.0 l) (settled x.1 m)) tape
unfolding split_two
two_trace w v s program x l m tape p q =
    split_trace w s x.0 l (m ++ tape) (λ a. split v s x.1 >>= program a) p
    ∙ split_trace v s x.1 m tape (program (settled x.0 l)) q

-- ---- the shape of the experiment

-- the draws of the masks, and the program
split_two_shape : ℕ → ℕ → ℕ → Shape → Shape
split_two_shape w v s σ = replicate (s - 1) (draw_of w) ++ (replicate (s - 1) (draw_of v) ++ σ)

-- what is drawn is a choice
two_bits : (w v s : ℕ) (σ : Shape) → bits_of (split_two_shape w v s σ) ≡ split_two_bits w v s σ
unfolding split_two_shape split_two_bits
two_bits w v s σ =
    bits_append _ _ ∙ ap₂ ◌++◌ (draws_bits w (s - 1))
    (bits_append _ _ ∙ ap (λ (l : List ℕ). l ++ bits_of σ) (draws_bits v (s - 1)))

-- and the steps are those of the program
two_touches : (w v s : ℕ) (σ : Shape) → touches_of (split_two_shape w v s σ) ≡ touches_of σ
unfolding split_two_shape
two_touches w v s σ =
    touches_append _ _ ∙ ap₂ ◌++◌ (draws_touches w (s - 1)) (touches_append _ _ ∙ ap₂ ◌++◌ (draws_touches v (s - 1)) refl)

-- ---- a program that has the shape σ on the sharings of any two secrets

module _ {A : Type 0} {w v s : ℕ} {program : List ℕ → List ℕ → Run A} {σ : Shape} {P : ℕ → ℕ → A → Type 0} (some : 0 < s)
    (shaped : (x y : ℕ) (a b : List ℕ) → Sharing w s x a → Sharing v s y b → Shaped (P x y) σ (program a b)) where
  two_shaped : (x : ℕ × ℕ) → TwoSecret w v x → Shaped (P x.0 x.1) (split_two_shape w v s σ) (split_two w v s program x)
  unfolding split_two split_two_shape
  two_shaped x h =
      shaped_bind (shaped_split w s x.0 some h.0) λ a ha.
      shaped_bind (shaped_split v s x.1 some h.1) λ b hb.
      shaped x.0 x.1 a b ha hb

  -- THE CHOICE. The experiment draws the elements of a choice, and no other.
  pub two_draws : (x : ℕ × ℕ) → TwoSecret w v x → (tape : List ℕ) → Fits (split_two_bits w v s σ) tape
      → draws (split_two w v s program x) tape ≡ split_two_bits w v s σ
  two_draws x h tape f =
      let e = two_bits w v s σ in
      shaped_draws (two_shaped x h) tape (rw e f) ∙ e

  -- its two runs on sharings that agree but for share u are coupled but for share u
  abbrev Hidden : ℕ → (A → A → Type 0) → Type 0
  Hidden u R = (a a' b b' : List ℕ) → Close w u a a' → Close v u b b' → Coupled u R (program a b) (program a' b')

  two_coupled : {u : ℕ} {R : A → A → Type 0} → u < s → Hidden u R
      → (x y : ℕ × ℕ) → TwoSecret w v x → TwoSecret w v y → Coupled u R (split_two w v s program x) (split_two w v s program y)
  unfolding split_two
  two_coupled {u} l hidden x y hx hy =
      coupled_bind (coupled_split w s x.0 y.0 u hx.0 hy.0 l) λ a a' ha.
      coupled_bind (coupled_split v s x.1 y.1 u hx.1 hy.1 l) λ b b' hb.
      hidden a a' b b' ha hb

  -- AN UNTOUCHED SHARE. If share u is hidden and no step of the list touches it, then for each list of values equally many choices show these values at
  -- the steps of the list, for any two pairs of secrets. The list has any length and order, with repeats.
  pub two_untouched_share : {R : A → A → Type 0} (u : ℕ) → u < s → Hidden u R
      → (list : List ℕ) → Misses u (touches_of σ) list
      → (shown : List ℕ) (x y : ℕ × ℕ) → TwoSecret w v x → TwoSecret w v y
      → choices (split_two_bits w v s σ) (split_two w v s program x) list shown ≡ choices (split_two_bits w v s σ) (split_two w v s program y) list shown
  two_untouched_share {R} u l hidden list m =
      rw (two_bits w v s σ) at
      (untouched_share (TwoSecret w v) (split_two w v s program) (split_two_shape w v s σ) (λ x. P x.0 x.1) two_shaped u R
      (two_coupled l hidden) list (rw (two_touches w v s σ) m))

  -- FEW STEPS. If each of the s shares is hidden and the list has at most t different numbers, where s is at least 2 t + 1, then for each list of values
  -- equally many choices show these values at the steps of the list, for any two pairs of secrets.
  pub two_few_steps : {R : ℕ → A → A → Type 0} → ((u : ℕ) → u < s → Hidden u (R u))
      → (t : ℕ) → 2 * t + 1 ≤ s → (list : List ℕ) → different list ≤ t
      → (shown : List ℕ) (x y : ℕ × ℕ) → TwoSecret w v x → TwoSecret w v y
      → choices (split_two_bits w v s σ) (split_two w v s program x) list shown ≡ choices (split_two_bits w v s σ) (split_two w v s program y) list shown
  two_few_steps {R} hidden t h list d =
      rw (two_bits w v s σ) at
      (few_steps (TwoSecret w v) (split_two w v s program) (split_two_shape w v s σ) (λ x. P x.0 x.1) two_shaped s R
      (λ u l. two_coupled l (hidden u l)) t h list d)
