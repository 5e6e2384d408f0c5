-- The laws of programs that are prepared: of their parts, and of the turns of their loops.
use Prim.Native.Nat.{ℕ, ◌<◌}
use Rattle.xor.specs.Sum.{Small}
use Rattle.steps.specs.Program.{Run, ◌>>=◌, for}
use Rattle.steps.specs.Machine.{State, Ready, Went, After}
use Rattle.steps.specs.Loop.{Going}
use Rattle.steps.proofs.Loop.{going_ready}
use Rattle.steps.proofs.Parts.{ready_first, ready_next, went_after}
use Rattle.cipher.specs.Rounds.{Prepared}

-- the random elements are the same all along
still_nibbles : {s s' : State} → After s s' → Small 4 s.tape → Small 4 s'.tape
still_nibbles a h = rw a.same_tape h

-- as an operation's run is asked
pub prepared : {A : Type 0} {m : Run A} {s : State} → Ready m s → Small 4 s.tape → Prepared m s
prepared y h = record { ready = y; nibbles = h }

module _ {A B : Type 0} {s : State} where
  -- the first part
  pub prepared_first : (m : Run A) (f : A → Run B) → Prepared (m >>= f) s → Prepared m s
  prepared_first m f p = record { ready = ready_first m f p.ready; nibbles = p.nibbles }

  -- and what comes after it
  pub prepared_next : {m : Run A} (f : A → Run B) {x : A} {s' : State} → Prepared (m >>= f) s → Went m s x s' → Prepared (f x) s'
  prepared_next {m} f p w =
      record { ready = ready_next f p.ready w; nibbles = still_nibbles (went_after (ready_first m f p.ready) w) p.nibbles }

-- a turn
pub prepared_turn : {A : Type 0} {f : ℕ → A → Run A} {i₀ n : ℕ} {a₀ : A} {s₀ : State} {i : ℕ} {a : A} {s : State}
    → Going f i₀ n a₀ s₀ i a s → Prepared (for i₀ n f a₀) s₀ → i < n → Prepared (f i a) s
prepared_turn g p h = record { ready = going_ready g p.ready h; nibbles = still_nibbles g.after p.nibbles }
