-- The figures of a masked block and of a masked opening of s shares: how many masked products, random elements and steps there are.
use Rattle.std.specs.Prelude.{List, [], ◌∷◌, ℕ, ◌+◌, ◌-◌, ◌*◌}
use Rattle.steps.specs.Tape.{bytes_for}

-- its masked products
unfoldable pub block_products : ℕ
block_products = 1054

-- its random elements: 31 rounds of 17 S-boxes with s (s - 1) each
unfoldable pub block_draws : ℕ → ℕ
block_draws s = 527 * (s * (s - 1))

-- its steps: 31 rounds and the last key addition, 16 nibbles a share
unfoldable pub block_steps : ℕ → ℕ
block_steps s = 31 * (52 * s + 17 * (7 * (s * s) + 50 * s) + 2) + 16 * s

-- what a call or a watch hands back: masked products, random bytes, steps
unfoldable pub figures : ℕ → List ℕ
figures s = block_products ∷ bytes_for 4 (block_draws s) ∷ block_steps s ∷ []

-- ---- of an opening

-- its masked products
unfoldable pub open_products : ℕ
open_products = 1116

-- its random elements: 31 rounds of 18 S-boxes, one of them of the key's way forth, with s (s - 1) each
unfoldable pub open_draws : ℕ → ℕ
open_draws s = 558 * (s * (s - 1))

-- its steps: 31 key updates, the last key's addition, 16 nibbles a share, and 31 rounds undone
unfoldable pub open_steps : ℕ → ℕ
open_steps s = 31 * (72 * s + 18 * (7 * (s * s) + 50 * s) + 4) + 16 * s

-- what a call or a watch hands back
unfoldable pub open_figures : ℕ → List ℕ
open_figures s = open_products ∷ bytes_for 4 (open_draws s) ∷ open_steps s ∷ []
