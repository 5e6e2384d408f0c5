-- The rows of the classes of powers, by width.
use Prim.Native.Nat.{ℕ, zero, suc, ◌+◌, ◌*◌, ◌≤◌, ◌<◌}
use native.Mathlib.Omega.{arith}
use lib.ListN.{length}
use Rattle.decomposition.specs.Layout.{Known}
use Rattle.decomposition.proofs.Sizes.{known_both}
use Rattle.sbox.specs.Sbox.{factors}
use Rattle.sbox.specs.TableSteps.{factors_of}

pub width_range : (n : ℕ) → Known n → (3 < n) × (n < 7)
width_range = known_both (λ n. (3 < n) × (n < 7)) (omega arith) (omega arith)

-- class number k + 1 of width n: its factors are among the rows before it, its own rows among the first 18, and there are at most two such classes
pub record Class (n k : ℕ) : Type 0 where
  pub wide : 0 < n
  pub first : (factors_of n k).0 < n * (k + 1)
  pub second : (factors_of n k).1 < n * (k + 1)
  pub few : k < 2
  pub rows : n * (k + 1) + n ≤ 18

pub class_of : (n : ℕ) → Known n → (k : ℕ) → k < length (factors n) → Class n k
unfolding factors
class_of = known_both (λ n. (k : ℕ) → k < length (factors n) → Class n k) four six
  where
    four : (k : ℕ) → k < length (factors 4) → Class 4 k
    four zero h = record { wide = omega arith; first = omega arith; second = omega arith; few = omega arith; rows = omega arith }
    four (suc k) h = absurd (omega arith)

    six : (k : ℕ) → k < length (factors 6) → Class 6 k
    six zero h = record { wide = omega arith; first = omega arith; second = omega arith; few = omega arith; rows = omega arith }
    six (suc zero) h = record { wide = omega arith; first = omega arith; second = omega arith; few = omega arith; rows = omega arith }
    six (suc (suc k)) h = absurd (omega arith)
