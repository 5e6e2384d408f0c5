-- The laws of coupled programs.
use mathlib.Core.Path.{◌≡◌, refl, sym, ap, ◌∙◌, subst}
use mathlib.Core.Logic.{◌≢◌}
use mathlib.Core.List.{List, ◌∷◌}
use mathlib.Core.Bool.{Bool, not}
use Prim.Native.Nat.{ℕ, zero, suc, ◌+◌, ◌-◌, ◌^◌, ◌≤◌, ◌<◌}
use native.Mathlib.Decide.{ℕ_discrete}
use native.Mathlib.Omega.{arith}
use lib.Dec.{T, eqb}
use lib.Pow.{pow_pos}
use Rattle.xor.proofs.Xor.{⊕-zero}
use Rattle.steps.specs.Program.{one, two, Run, ◌>>=◌, loop, for, first, later, Entry, trace}
use Rattle.steps.specs.Watch.{touches}
use Rattle.steps.specs.Choices.{tally}
use Rattle.steps.specs.Shape.{Shape, bits_of, Shaped, shaped_return, shaped_step, shaped_draw, shaped_mark, Alone, alone_nil, alone_step}
use Rattle.steps.specs.Coupling.{Coupled, coupled_return, coupled_step, coupled_draw, coupled_mark}
use Rattle.steps.proofs.Tests.{nor_left, nor_right, apart}
use Rattle.steps.proofs.Choices.{sum_same, sum_shift, tally_same}
use Rattle.steps.proofs.Watch.{unless, visible, unless_same}
use Rattle.steps.proofs.Shape.{shaped_both}

-- ---- programs

pub coupled_bind : {A B C D : Type 0} {u : ℕ} {R : A → B → Type 0} {S : C → D → Type 0} {m : Run A} {m' : Run B} {f : A → Run C} {f' : B → Run D}
    → Coupled u R m m' → ((a : A) (b : B) → R a b → Coupled u S (f a) (f' b)) → Coupled u S (m >>= f) (m' >>= f')
unfolding ◌>>=◌
coupled_bind (coupled_return {a} {b} h) g = g a b h
coupled_bind (coupled_step e h) g = coupled_step e (coupled_bind h g)
coupled_bind (coupled_draw δ l h) g = coupled_draw δ l (λ r k. coupled_bind (h r k) g)
coupled_bind (coupled_mark h) g = coupled_mark (coupled_bind h g)

-- a weaker thing may be said of the results
pub coupled_weaken : {A B : Type 0} {u : ℕ} {R S : A → B → Type 0} {m : Run A} {m' : Run B}
    → Coupled u R m m' → ((a : A) (b : B) → R a b → S a b) → Coupled u S m m'
coupled_weaken (coupled_return {a} {b} h) g = coupled_return (g a b h)
coupled_weaken (coupled_step e h) g = coupled_step e (coupled_weaken h g)
coupled_weaken (coupled_draw δ l h) g = coupled_draw δ l (λ r k. coupled_weaken (h r k) g)
coupled_weaken (coupled_mark h) g = coupled_mark (coupled_weaken h g)

-- loops: R j holds of what turn j begins with on either side
module _ {A B : Type 0} (u : ℕ) (R : ℕ → A → B → Type 0) {f : ℕ → A → Run A} {f' : ℕ → B → Run B} where
  coupled_loop : (i k s : ℕ) → i + k ≡ s → ((j : ℕ) (a : A) (b : B) → i ≤ j → j < s → R j a b → Coupled u (R (j + 1)) (f j a) (f' j b))
      → (a : A) (b : B) → R i a b → Coupled u (R s) (loop f i k a) (loop f' i k b)
  unfolding loop
  coupled_loop i zero s e h a b p = let l : i ≡ s = omega arith in coupled_return (subst (λ (x : ℕ). R x a b) l p)
  coupled_loop i (suc k) s e h a b p =
      coupled_bind (h i a b (omega arith) (omega arith) p) (λ c d q. coupled_loop (i + 1) k s (omega arith) (λ j x y l. h j x y (omega arith)) c d q)

  pub coupled_for : (i s : ℕ) → i ≤ s → ((j : ℕ) (a : A) (b : B) → i ≤ j → j < s → R j a b → Coupled u (R (j + 1)) (f j a) (f' j b))
      → (a : A) (b : B) → R i a b → Coupled u (R s) (for i s f a) (for i s f' b)
  unfolding for
  coupled_for i s l h a b p = coupled_loop i (s - i) s (omega arith) h a b p

-- a program that is the same on both sides
pub coupled_self : {A : Type 0} (u : ℕ) {R : A → A → Type 0} {P : A → Type 0} {σ : Shape} {m : Run A}
    → Shaped P σ m → ((a : A) → P a → R a a) → Coupled u R m m
coupled_self u (shaped_return {a} p) k = coupled_return (k a p)
coupled_self u (shaped_step h) k = coupled_step (λ t. refl) (coupled_self u h k)
coupled_self u {R} (shaped_draw {k = f} h) k =
    coupled_draw 0 (pow_pos _) (λ r l. subst (λ (x : ℕ). Coupled u R (f r) (f x)) (sym (⊕-zero r)) (coupled_self u (h r l) k))
coupled_self u (shaped_mark h) k = coupled_mark (coupled_self u h k)

-- ---- what a step shows where share u is not touched

-- what a step of one share records may differ if that share is u
pub seen_one : {u i v w : ℕ} → (i ≢ u → v ≡ w) → T (not (touches u (one i))) → v ≡ w
unfolding touches
seen_one {u} {i} h t = h (apart u i t)

-- what a step of two shares records may differ if one of the two is u
pub seen_two : {u i j v w : ℕ} → (i ≢ u → j ≢ u → v ≡ w) → T (not (touches u (two i j))) → v ≡ w
unfolding touches
seen_two {u} {i} {j} h t = h (apart u i (nor_left (eqb u i) (eqb u j) t)) (apart u j (nor_right (eqb u i) (eqb u j) t))

-- ---- steps of one share alone

-- if that share is u, it does not matter what they record
coupled_hidden : {A B : Type 0} {u : ℕ} {R : A → B → Type 0} {P : A → Type 0} {Q : B → Type 0} {σ : Shape} {m : Run A} {m' : Run B}
    → Alone u σ → Shaped P σ m → Shaped Q σ m' → ((a : A) (b : B) → P a → Q b → R a b) → Coupled u R m m'
coupled_hidden alone_nil (shaped_return {a} p) (shaped_return {a = b} q) k = coupled_return (k a b p q)
coupled_hidden {u} (alone_step h) (shaped_step s) (shaped_step s') k =
    coupled_step (seen_one {i = u} (λ f. absurd (f refl))) (coupled_hidden h s s' k)

-- two programs that only take steps of share i are coupled if they are the same wherever i is not u
pub coupled_alone : {A : Type 0} {i u : ℕ} {R : A → A → Type 0} {P Q : A → Type 0} {σ : Shape} {m m' : Run A}
    → Alone i σ → Shaped P σ m → Shaped Q σ m' → (i ≢ u → m ≡ m') → ((a b : A) → P a → Q b → (i ≢ u → a ≡ b) → R a b) → Coupled u R m m'
coupled_alone {A} {i} {u} {R} {P} {Q} {σ} {m} {m'} h s s' e k = go (ℕ_discrete i u)
  where
    go : Dec (i ≡ u) → Coupled u R m m'
    go (yes p) = coupled_hidden (subst (λ (x : ℕ). Alone x σ) p h) s s' (λ a b x y. k a b x y (λ f. absurd (f p)))
    go (no f) =
        subst (λ (x : Run A). Coupled u R m x) (e f)
        (coupled_self u (shaped_both s (subst (λ (x : Run A). Shaped Q σ x) (sym (e f)) s')) (λ a x. k a a x.0 x.1 (λ g. refl)))

-- ---- the coupling counts

-- of two coupled programs equally many choices show a thing, if it is a thing of the steps that do not touch u
pub coupled_tally : {A B : Type 0} {u : ℕ} {R : A → B → Type 0} {P : A → Type 0} {m : Run A} {m' : Run B} {σ : Shape}
    → Coupled u R m m' → Shaped P σ m → (Q : List Entry → Bool)
    → tally (bits_of σ) (λ tape. Q (visible u (trace m tape))) ≡ tally (bits_of σ) (λ tape. Q (visible u (trace m' tape)))
unfolding tally trace visible bits_of first later
coupled_tally (coupled_return h) (shaped_return p) Q = refl
coupled_tally {u} (coupled_step {t} {v} {w} {m} {m'} e h) (shaped_step {σ} s) Q =
    coupled_tally h s (λ l. Q (record { touch = t; value = unless (touches u t) v } ∷ l))
    ∙ tally_same (bits_of σ) _ _
    (λ tape f. ap (λ (x : ℕ). Q (record { touch = t; value = x } ∷ visible u (trace m' tape))) (unless_same (touches u t) v w e))
coupled_tally {u} (coupled_draw {b} {k} {k'} δ l h) (shaped_draw {σ} s) Q =
    sum_same (2 ^ b) _ _ (λ r g. coupled_tally (h r g) (s r g) Q)
    ∙ sum_shift b (λ r. tally (bits_of σ) (λ tape. Q (visible u (trace (k' r) tape)))) δ l
coupled_tally (coupled_mark h) (shaped_mark s) Q = coupled_tally h s Q
