-- For inner contracts only. A matrix in a memory of entries: rows of w entries, one after the other. The memory is a buffer of bytes, or the bits
-- that such a buffer holds (Packed).
use Rattle.std.specs.Prelude.{List, ◌≡◌, ℕ, ◌+◌, ◌*◌, ◌≤◌, ◌<◌, get_or}

-- a memory as rows of w entries: the entry of row i at column k
abbrev pub in_rows : ℕ → (ℕ → ℕ) → ℕ → ℕ → ℕ
in_rows w f i k = f (i * w + k)

-- the memory of a buffer whose entries are its bytes
abbrev pub bytes : List ℕ → ℕ → ℕ
bytes l j = get_or l j 0

-- the entry of row i at column k, where the entries are bytes
abbrev pub cell : ℕ → List ℕ → ℕ → ℕ → ℕ
cell w l = in_rows w (bytes l)

-- the bytes from a on
abbrev pub from : List ℕ → ℕ → ℕ → ℕ
from l a k = get_or l (a + k) 0

-- the memory f is f₀ with v 0 to v (k - 1) written from a on
pub record Written (f₀ f : ℕ → ℕ) (a k : ℕ) (v : ℕ → ℕ) : Type 0 where
  pub new : (j : ℕ) → j < k → f (a + j) ≡ v j
  pub low : (j : ℕ) → j < a → f j ≡ f₀ j
  pub high : (j : ℕ) → a + k ≤ j → f j ≡ f₀ j

-- the same of bytes: l is l₀ with v 0 to v (k - 1) written from a on
abbrev pub Overwritten : List ℕ → List ℕ → ℕ → ℕ → (ℕ → ℕ) → Type 0
Overwritten l₀ l = Written (bytes l₀) (bytes l)
