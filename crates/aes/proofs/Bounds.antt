-- Bounds of places of shares.
use mathlib.Core.Path.{◌≡◌}
use Prim.Native.Nat.{ℕ, ◌+◌, ◌-◌, ◌*◌, ◌/◌, ◌≤◌, ◌<◌}
use native.Mathlib.Numerals.{add-one}
use native.Mathlib.Nat.{suc-mul, mul-le-mul, mul-le-mul_right}
use native.Mathlib.Omega.{arith}

-- the places of share i lie before those of share s
pub within : {i s : ℕ} (m : ℕ) → i < s → i * m + m ≤ s * m
within {i} {s} m h = omega (arith, mul-le-mul_right m h, suc-mul i m)

-- nine shares have so many places
pub few : {s : ℕ} (N : ℕ) → s ≤ 9 → s * (N / 9) ≤ N
few {s} N h = omega (arith, mul-le-mul {n₁ = s} {m₁ = N / 9} {n₂ = 9} {m₂ = N / 9} h (omega arith))

-- from a share to the next
pub next_share : (i n : ℕ) → (i + 1) * n - i * n ≡ n
next_share i n = omega (arith, suc-mul i n, add-one i)
