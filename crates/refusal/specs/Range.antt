-- Numbers in a range: share counts and lengths.
use Rattle.std.specs.Prelude.{Bool, ◌&&◌, ℕ, leb}

-- is x one of the numbers 1 to most?
unfoldable pub one_to : ℕ → ℕ → Bool
one_to most x = leb 1 x && leb x most
