-- Programs that run in lockstep: they take the same steps, draw and mark alike whatever is drawn, and their results are related.
use mathlib.Core.Path.{◌≡◌, ap, subst}
use Prim.Native.Nat.{ℕ, zero, suc, ◌+◌, ◌-◌, ◌≤◌, ◌<◌}
use native.Mathlib.Omega.{arith}
use Rattle.steps.specs.Program.{Touch, Run, return, step, draw, mark, ◌>>=◌, loop, for}

pub data Lockstep {A B : Type 0} (R : A → B → Type 0) : Run A → Run B → Type 0 where
  lockstep_return : {a : A} {b : B} → R a b → Lockstep R (return a) (return b)
  lockstep_step : {t : Touch} {v : ℕ} {m : Run A} {m' : Run B} → Lockstep R m m' → Lockstep R (step t v m) (step t v m')
  lockstep_draw : {b : ℕ} {k : ℕ → Run A} {k' : ℕ → Run B} → ((r : ℕ) → Lockstep R (k r) (k' r)) → Lockstep R (draw b k) (draw b k')
  lockstep_mark : {m : Run A} {m' : Run B} → Lockstep R m m' → Lockstep R (mark m) (mark m')

pub lockstep_bind : {A B C D : Type 0} {R : A → B → Type 0} {S : C → D → Type 0} {m : Run A} {m' : Run B} {f : A → Run C} {f' : B → Run D}
    → Lockstep R m m' → ((a : A) (b : B) → R a b → Lockstep S (f a) (f' b)) → Lockstep S (m >>= f) (m' >>= f')
unfolding ◌>>=◌
lockstep_bind (lockstep_return {a} {b} h) g = g a b h
lockstep_bind (lockstep_step h) g = lockstep_step (lockstep_bind h g)
lockstep_bind (lockstep_draw h) g = lockstep_draw (λ r. lockstep_bind (h r) g)
lockstep_bind (lockstep_mark h) g = lockstep_mark (lockstep_bind h g)

-- the same where only the second of the two goes on, and takes no step
pub lockstep_right : {A B D : Type 0} {R : A → B → Type 0} {S : A → D → Type 0} {m : Run A} {m' : Run B} {f' : B → Run D}
    → Lockstep R m m' → ((a : A) (b : B) → R a b → Lockstep S (return a) (f' b)) → Lockstep S m (m' >>= f')
unfolding ◌>>=◌
lockstep_right (lockstep_return {a} {b} h) g = g a b h
lockstep_right (lockstep_step h) g = lockstep_step (lockstep_right h g)
lockstep_right (lockstep_draw h) g = lockstep_draw (λ r. lockstep_right (h r) g)
lockstep_right (lockstep_mark h) g = lockstep_mark (lockstep_right h g)

-- a program and itself
pub lockstep_self : {A : Type 0} {R : A → A → Type 0} (m : Run A) → ((a : A) → R a a) → Lockstep R m m
lockstep_self (return a) h = lockstep_return (h a)
lockstep_self (step t v m) h = lockstep_step (lockstep_self m h)
lockstep_self (draw b k) h = lockstep_draw (λ r. lockstep_self (k r) h)
lockstep_self (mark m) h = lockstep_mark (lockstep_self m h)

-- the same with the result changed on one side
pub lockstep_left : {A B : Type 0} {R : B → A → Type 0} (m : Run A) (g : A → B) → ((a : A) → R (g a) a) → Lockstep R (m >>= (λ a. return (g a))) m
unfolding ◌>>=◌
lockstep_left (return a) g h = lockstep_return (h a)
lockstep_left (step t v m) g h = lockstep_step (lockstep_left m g h)
lockstep_left (draw b k) g h = lockstep_draw (λ r. lockstep_left (k r) g h)
lockstep_left (mark m) g h = lockstep_mark (lockstep_left m g h)

-- a weaker thing may be said of the results
pub lockstep_weaken : {A B : Type 0} {R S : A → B → Type 0} {m : Run A} {m' : Run B}
    → Lockstep R m m' → ((a : A) (b : B) → R a b → S a b) → Lockstep S m m'
lockstep_weaken (lockstep_return {a} {b} h) g = lockstep_return (g a b h)
lockstep_weaken (lockstep_step h) g = lockstep_step (lockstep_weaken h g)
lockstep_weaken (lockstep_draw h) g = lockstep_draw (λ r. lockstep_weaken (h r) g)
lockstep_weaken (lockstep_mark h) g = lockstep_mark (lockstep_weaken h g)

-- loops: R j holds of what turn j begins with on either side
module _ {A B : Type 0} (R : ℕ → A → B → Type 0) {f : ℕ → A → Run A} {f' : ℕ → B → Run B} where
  lockstep_loop : (i k s : ℕ) → i + k ≡ s → ((j : ℕ) (a : A) (b : B) → i ≤ j → j < s → R j a b → Lockstep (R (j + 1)) (f j a) (f' j b))
      → (a : A) (b : B) → R i a b → Lockstep (R s) (loop f i k a) (loop f' i k b)
  unfolding loop
  lockstep_loop i zero s e h a b p = let l : i ≡ s = omega arith in lockstep_return (subst (λ (x : ℕ). R x a b) l p)
  lockstep_loop i (suc k) s e h a b p =
      lockstep_bind (h i a b (omega arith) (omega arith) p) (λ c d q. lockstep_loop (i + 1) k s (omega arith) (λ j x y l. h j x y (omega arith)) c d q)

  pub lockstep_for : (i s : ℕ) → i ≤ s → ((j : ℕ) (a : A) (b : B) → i ≤ j → j < s → R j a b → Lockstep (R (j + 1)) (f j a) (f' j b))
      → (a : A) (b : B) → R i a b → Lockstep (R s) (for i s f a) (for i s f' b)
  unfolding for
  lockstep_for i s l h a b p = lockstep_loop i (s - i) s (omega arith) h a b p

-- two programs that run in lockstep to equal results are one program
pub lockstep_same : {A : Type 0} {m m' : Run A} → Lockstep (λ (a b : A). a ≡ b) m m' → m ≡ m'
lockstep_same (lockstep_return h) = ap return h
lockstep_same (lockstep_step {t} {v} h) = ap (step t v) (lockstep_same h)
lockstep_same (lockstep_draw {b} h) = ap (draw b) (λ i r. lockstep_same (h r) i)
lockstep_same (lockstep_mark h) = ap mark (lockstep_same h)
