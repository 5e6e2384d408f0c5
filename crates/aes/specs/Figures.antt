-- The figures of a masked block of s shares: how many masked products, random elements and steps there are.
use Rattle.std.specs.Prelude.{List, [], ◌∷◌, ℕ, ◌+◌, ◌-◌, ◌*◌}
use Rattle.steps.specs.Tape.{bytes_for}

-- its masked products: 200 S-boxes with four each
unfoldable pub block_products : ℕ
block_products = 800

-- its random elements
unfoldable pub block_draws : ℕ → ℕ
block_draws s = 400 * (s * (s - 1))

-- its steps; the last ten are those of Rcon
unfoldable pub block_steps : ℕ → ℕ
block_steps s = 3080 * s + 2800 * (s * (s - 1)) + 10

-- what a call or a watch hands back: masked products, random bytes, steps
unfoldable pub figures : ℕ → List ℕ
figures s = block_products ∷ bytes_for 8 (block_draws s) ∷ block_steps s ∷ []
