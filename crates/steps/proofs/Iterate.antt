-- The laws of loops without steps, and of a loop beside what it computes unmasked.
use mathlib.Core.Path.{◌≡◌, refl, ap, ◌∙◌}
use Prim.Native.Nat.{ℕ, zero, suc, ◌+◌, ◌-◌, ◌≤◌, ◌<◌}
use native.Mathlib.Nat.{sub_self}
use native.Mathlib.Omega.{arith}
use Rattle.steps.specs.Program.{Run, for}
use Rattle.steps.specs.Iterate.{turns, iterate, iterate_back}
use Rattle.steps.specs.Shape.{Shape, Shaped, for_shape}
use Rattle.steps.proofs.Shape.{shaped_for}

pub iterate_none : {A : Type 0} (i : ℕ) (g : ℕ → A → A) (b : A) → iterate i i g b ≡ b
unfolding iterate turns
iterate_none i g b = rw (sub_self i)

pub iterate_next : {A : Type 0} (i j : ℕ) (g : ℕ → A → A) (b : A) → i ≤ j → iterate i (j + 1) g b ≡ g j (iterate i j g b)
unfolding iterate turns
iterate_next i j g b l =
    let more : j + 1 - i ≡ suc (j - i) = omega arith in
    let last : i + (j - i) ≡ j = omega arith in
    rw (more, last)

-- loops whose turns do the same
pub iterate_same : {A : Type 0} (f g : ℕ → A → A) (i s : ℕ) → ((j : ℕ) (a : A) → i ≤ j → j < s → f j a ≡ g j a)
    → (a : A) → iterate i s f a ≡ iterate i s g a
unfolding iterate turns
iterate_same f g i s h a = go (s - i) (omega arith)
  where
    go : (k : ℕ) → k ≤ s - i → turns f i k a ≡ turns g i k a
    go zero l = refl
    go (suc k) l = h (i + k) (turns f i k a) (omega arith) (omega arith) ∙ ap (g (i + k)) (go k (omega arith))

module _ {A : Type 0} (P : A → Type 0) (f : ℕ → A → A) (i s : ℕ) (keeps : (j : ℕ) (a : A) → i ≤ j → j < s → P a → P (f j a)) where
  turns_keep : (k : ℕ) → k ≤ s - i → (a : A) → P a → P (turns f i k a)
  unfolding turns
  turns_keep zero l a p = p
  turns_keep (suc k) l a p = keeps (i + k) (turns f i k a) (omega arith) (omega arith) (turns_keep k (omega arith) a p)

  -- what each turn keeps, the loop keeps
  pub iterate_keeps : (a : A) → P a → P (iterate i s f a)
  unfolding iterate
  iterate_keeps = turns_keep (s - i) (omega arith)

  -- what h takes each turn to, it takes the loop to
  pub iterate_through : {B : Type 0} (h : A → B) (g : ℕ → B → B) → ((j : ℕ) (a : A) → i ≤ j → j < s → P a → g j (h a) ≡ h (f j a))
      → (a : A) → P a → iterate i s g (h a) ≡ h (iterate i s f a)
  unfolding iterate turns
  iterate_through h g through a p = go (s - i) (omega arith)
    where
      go : (k : ℕ) → k ≤ s - i → turns g i k (h a) ≡ h (turns f i k a)
      go zero l = refl
      go (suc k) l =
          ap (g (i + k)) (go k (omega arith))
          ∙ through (i + k) (turns f i k a) (omega arith) (omega arith) (turns_keep k (omega arith) a p)

  -- if g undoes each turn, going back with g undoes the loop
  pub back_undoes : (g : ℕ → A → A) → ((j : ℕ) (a : A) → i ≤ j → j < s → P a → g j (f j a) ≡ a)
      → (a : A) → P a → iterate_back i s g (iterate i s f a) ≡ a
  unfolding iterate_back iterate turns
  back_undoes g undoes a p = go (s - i) (omega arith) ∙ ap (λ (k : ℕ). turns f i k a) (sub_self (s - i))
    where
      go : (n : ℕ) → n ≤ s - i → turns (λ j. g (i + s - 1 - j)) i n (turns f i (s - i) a) ≡ turns f i (s - i - n) a
      go zero l = let e : s - i ≡ s - i - 0 = omega arith in ap (λ (k : ℕ). turns f i k a) e
      go (suc n) l =
          let k = s - i - suc n in
          let left : s - i - n ≡ suc k = omega arith in
          let here : i + s - 1 - (i + n) ≡ i + k = omega arith in
          ap (g (i + s - 1 - (i + n))) (go n (omega arith))
          ∙ rw (left, here) (undoes (i + k) (turns f i k a) (omega arith) (omega arith) (turns_keep k (omega arith) a p))

-- if g undoes each turn, g undoes going back
pub undoes_back : {A : Type 0} (P : A → Type 0) (f g : ℕ → A → A) (i s : ℕ)
    → ((j : ℕ) (a : A) → i ≤ j → j < s → P a → P (f j a))
    → ((j : ℕ) (a : A) → i ≤ j → j < s → P a → g j (f j a) ≡ a)
    → (a : A) → P a → iterate i s g (iterate_back i s f a) ≡ a
unfolding iterate_back
undoes_back P f g i s keeps undoes a p =
    iterate_same g (λ j. g (i + s - 1 - (i + s - 1 - j))) i s
    (λ j b l m. let e : j ≡ i + s - 1 - (i + s - 1 - j) = omega arith in ap (λ (k : ℕ). g k b) e) _
    ∙ back_undoes P (λ j. f (i + s - 1 - j)) i s (λ j b l m. keeps (i + s - 1 - j) b (omega arith) (omega arith))
    (λ j. g (i + s - 1 - j)) (λ j b l m. undoes (i + s - 1 - j) b (omega arith) (omega arith)) a p

-- Q relates what the masked loop has to what the unmasked loop has
pub shaped_iterate : {A B : Type 0} (Q : B → A → Type 0) (σ : ℕ → Shape) {g : ℕ → B → B} {f : ℕ → A → Run A} (i s : ℕ) → i ≤ s
    → ((j : ℕ) (b : B) (a : A) → i ≤ j → j < s → Q b a → Shaped (Q (g j b)) (σ j) (f j a))
    → (b : B) (a : A) → Q b a → Shaped (Q (iterate i s g b)) (for_shape i s σ) (for i s f a)
shaped_iterate Q σ {g} i s l h b a q =
    shaped_for (λ j c. Q (iterate i j g b) c) σ i s l
    (λ j c k m p. rw (iterate_next i j g b k) (h j (iterate i j g b) c k m p)) a (rw (iterate_none i g b) q)
