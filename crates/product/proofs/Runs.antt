-- What the parts of the masked product come to on the machine.
use mathlib.Core.Path.{◌≡◌, refl}
use mathlib.Core.List.{List, [], ◌∷◌}
use Prim.Native.Nat.{ℕ, ◌+◌, ◌^◌, ◌≤◌, ◌<◌}
use native.Mathlib.Omega.{arith}
use lib.Bits.{bit_xor}
use lib.ListN.{length, set}
use Rattle.xor.specs.Xor.{◌⊕◌}
use Rattle.field.specs.Mul.{mul}
use Rattle.steps.specs.Program.{◌>>=◌, ◌>>◌, note, for, random}
use Rattle.steps.specs.Sharing.{share}
use Rattle.steps.specs.Machine.{State, next_of, drawn, recorded, recorded_all, exec, Ready, Went}
use Rattle.steps.proofs.StepsAlone.{StepsAlone, alone_return, alone_bind, alone_note, alone_for}
use Rattle.product.specs.Product.{pair, start}

-- the seven steps of a pair, where r is the element that is drawn, and x and z the two products
pub pair_runs : (w : ℕ) (a b : List ℕ) (i j : ℕ) (c : List ℕ) (s : State) {s₁ s₂ : State} (r x z : ℕ)
    → r ≡ next_of s
    → x ≡ mul w (share a i) (share b j)
    → z ≡ mul w (share a j) (share b i)
    → s₁ ≡ drawn s
    → s₂ ≡ recorded_all (r ∷ x ∷ bit_xor r x ∷ z ∷ bit_xor (bit_xor r x) z ∷ bit_xor (share c i) r ∷ bit_xor (share c j) (bit_xor (bit_xor r x) z) ∷ []) s₁
    → Went (pair w a b i j c) s (set (set c i (bit_xor (share c i) r)) j (bit_xor (share c j) (bit_xor (bit_xor r x) z))) s₂
unfolding exec pair ◌>>=◌ ◌>>◌ note random recorded_all ◌⊕◌
pair_runs w a b i j c s r x z er ex ez e₁ e₂ = record { runs = rw (e₂, e₁, er, ex, ez) refl }

-- what so many draws and steps ask of a state
pub record Room (draws steps : ℕ) (s : State) : Type 0 where
  pub draws_fit : s.counts.random + draws < 2 ^ 64
  pub steps_fit : s.counts.steps + steps < 2 ^ 32
  pub enough : s.counts.random + draws ≤ length s.tape
  pub places : length s.watch ≡ length s.values

pub pair_room : (w : ℕ) (a b : List ℕ) (i j : ℕ) (c : List ℕ) {s : State} → Ready (pair w a b i j c) s → Room 1 7 s
unfolding exec pair ◌>>=◌ ◌>>◌ note random
pair_room w a b i j c y = record { draws_fit = y.draws_fit; steps_fit = omega (arith, y.steps_fit); enough = y.enough; places = y.places }

-- the start of one share
pub start_runs : (w : ℕ) (a b : List ℕ) (i : ℕ) (c : List ℕ) (s : State) {s' : State} (v : ℕ)
    → v ≡ mul w (share a i) (share b i)
    → s' ≡ recorded v s
    → Went (start w a b i c) s (set c i v) s'
unfolding exec start ◌>>=◌ note
start_runs w a b i c s v ev e = record { runs = rw (e, ev) refl }

pub start_room : (w : ℕ) (a b : List ℕ) (i : ℕ) (c : List ℕ) {s : State} → Ready (start w a b i c) s → Room 0 1 s
unfolding exec start ◌>>=◌ note
start_room w a b i c y =
    record { draws_fit = omega (arith, y.draws_fit); steps_fit = y.steps_fit; enough = omega (arith, y.enough); places = y.places }

-- the starts take steps alone
pub starts_alone : (w s : ℕ) (a b c : List ℕ) → StepsAlone (for 0 s (start w a b) c)
unfolding start
starts_alone w s a b c = alone_for 0 s (λ i d. alone_bind (alone_note _ _) (λ v. alone_return)) c
