-- For inner contracts only. How many pairs of shares there are.
use Rattle.std.specs.Prelude.{ℕ, zero, suc, ◌+◌}

-- the pairs among k shares
unfoldable pub pairs : ℕ → ℕ
pairs zero = 0
pairs (suc k) = k + pairs k
