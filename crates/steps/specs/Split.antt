-- Splitting a secret with masks that are drawn: a choice of the paper begins with these draws.
use Rattle.std.specs.Prelude.{List, [], ◌∷◌, ℕ, zero, suc, ◌-◌}
use Rattle.xor.specs.Xor.{◌⊕◌}
use Rattle.xor.specs.Sum.{join}
use Rattle.steps.specs.Program.{Run, return, ◌>>=◌, random}

-- k masks of n bits, in the order drawn
unfoldable pub masks : ℕ → ℕ → Run (List ℕ)
masks n zero = return []
masks n (suc k) = do
  r ← random n
  l ← masks n k
  return (r ∷ l)

-- the shares that a secret and its masks settle: share 0 is the secret plus the masks
abbrev pub settled : ℕ → List ℕ → List ℕ
settled x masks = x ⊕ join masks ∷ masks

-- a secret of n bits in s shares: shares 1 to s - 1 are masks, share 0 is the secret plus all masks
unfoldable pub split : ℕ → ℕ → ℕ → Run (List ℕ)
split n s x = do
  l ← masks n (s - 1)
  return (settled x l)

-- several secrets of n bits, one after the other
unfoldable pub split_all : ℕ → ℕ → List ℕ → Run (List (List ℕ))
split_all n s [] = return []
split_all n s (x ∷ xs) = do
  a ← split n s x
  l ← split_all n s xs
  return (a ∷ l)
