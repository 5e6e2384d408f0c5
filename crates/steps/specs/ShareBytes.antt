-- How code holds a sharing of a block or of a key: the bytes of share 0, then those of share 1 and so on, each share high byte first.
use Rattle.std.specs.Prelude.{◌≡◌, List, [], ◌∷◌, ◌++◌, ℕ, ◌+◌, ◌*◌, ◌≤◌, ◌<◌, get_or}
use Rattle.steps.specs.Fill.{tabulate}
use Rattle.steps.specs.Bytes.{from_bytes, to_bytes}
use Rattle.steps.specs.Sharing.{held}

-- the w bytes of l from `at` on
unfoldable pub bytes_at : ℕ → ℕ → List ℕ → List ℕ
bytes_at at w l = tabulate w (λ j. get_or l (at + j) 0)

-- share i of those that lie in l, w bytes each
unfoldable pub share_at : ℕ → List ℕ → ℕ → ℕ
share_at w l i = from_bytes (bytes_at (w * i) w l)

-- the s shares that lie in l, w bytes each
unfoldable pub shares_of : ℕ → ℕ → List ℕ → List ℕ
shares_of w s l = tabulate s (share_at w l)

-- the same in nine places, 0 past them
unfoldable pub sharing : ℕ → ℕ → List ℕ → List ℕ
sharing w s l = held (shares_of w s l)

-- the bytes of shares, w each
unfoldable pub bytes_of : ℕ → List ℕ → List ℕ
bytes_of w [] = []
bytes_of w (x ∷ shares) = to_bytes w x ++ bytes_of w shares

-- l' has x as its share i, of w bytes, and each byte outside that share is that of l
pub record Changed (w i x : ℕ) (l l' : List ℕ) : Type 0 where
  pub here : share_at w l' i ≡ x
  pub earlier : (j : ℕ) → j < w * i → get_or l' j 0 ≡ get_or l j 0
  pub later : (j : ℕ) → w * i + w ≤ j → get_or l' j 0 ≡ get_or l j 0

-- l is zero past the s shares in use, w bytes each
pub record ZeroPast (w s : ℕ) (l : List ℕ) : Type 0 where
  pub zeros : (j : ℕ) → w * s ≤ j → get_or l j 0 ≡ 0

-- the bytes past these shares are in l' as they are in l: where they were zero they are zero still
pub record KeptPast (w s : ℕ) (l l' : List ℕ) : Type 0 where
  pub kept : (j : ℕ) → w * s ≤ j → get_or l' j 0 ≡ get_or l j 0
