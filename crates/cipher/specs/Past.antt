-- For inner contracts only. What the state between two rounds holds past the shares in use.
use Rattle.std.specs.Prelude.{List, ℕ}
use Rattle.steps.specs.ShareBytes.{ZeroPast}

-- it is zero there, in the 90 bytes of its key and in the 72 of its block
pub record ZeroPastShares (s : ℕ) (key block : List ℕ) : Type 0 where
  pub key_zero : ZeroPast 10 s key
  pub block_zero : ZeroPast 8 s block
