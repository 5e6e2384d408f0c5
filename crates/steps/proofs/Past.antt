-- One share in bytes is changed: the other shares are as before, the bytes past the shares in use are kept, and kept zeros are zeros.
use mathlib.Core.Path.{◌≡◌, refl, ap, ◌∙◌}
use mathlib.Core.Logic.{◌≢◌}
use mathlib.Core.List.{List}
use Prim.Native.Nat.{ℕ, ◌+◌, ◌*◌, ◌≤◌, ◌<◌}
use native.Mathlib.Nat.{mul-le-mul_left, mul-suc}
use native.Mathlib.Decide.{dec_lt}
use native.Mathlib.Omega.{arith}
use lib.ListN.{get_or}
use Rattle.steps.specs.Bytes.{from_bytes}
use Rattle.steps.specs.ShareBytes.{share_at, Changed, ZeroPast, KeptPast}
use Rattle.steps.proofs.Number.{number_same}

-- a share that comes before another ends where the other begins, or earlier
pub share_before : (w i j : ℕ) → i < j → w * i + w ≤ w * j
share_before w i j h = rw (← mul-suc w i) (mul-le-mul_left w h)

-- the other shares are as before
pub changed_others : {w i x : ℕ} {l l' : List ℕ} → Changed w i x l l' → (j : ℕ) → j ≢ i → share_at w l' j ≡ share_at w l j
unfolding share_at
changed_others {w} {i} {x} {l} {l'} c j f = ap from_bytes (number_same (w * j) w l l' (λ t h. go t h (dec_lt j i)))
  where
    go : (t : ℕ) → t < w → Dec (j < i) → get_or l' (w * j + t) 0 ≡ get_or l (w * j + t) 0
    go t h (yes k) = c.earlier (w * j + t) (omega (arith, share_before w j i k))
    go t h (no k) = let g : i < j = omega arith in c.later (w * j + t) (omega (arith, share_before w i j g))

-- ---- the bytes past the shares in use

pub kept_same : {w s : ℕ} {l : List ℕ} → KeptPast w s l l
kept_same = record { kept = λ j h. refl }

pub kept_then : {w s : ℕ} {l m n : List ℕ} → KeptPast w s l m → KeptPast w s m n → KeptPast w s l n
kept_then h k = record { kept = λ j f. k.kept j f ∙ h.kept j f }

-- a change of one of the shares
pub changed_kept : {w s i x : ℕ} {l l' : List ℕ} → i < s → Changed w i x l l' → KeptPast w s l l'
changed_kept {w} {s} {i} h c = record { kept = λ j f. c.later j (omega (arith, share_before w i s h)) }

pub zero_kept : {w s : ℕ} {l l' : List ℕ} → ZeroPast w s l → KeptPast w s l l' → ZeroPast w s l'
zero_kept h k = record { zeros = λ j f. k.kept j f ∙ h.zeros j f }
