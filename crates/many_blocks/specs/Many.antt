-- What the two functions for the benchmark write.
use Rattle.std.specs.Prelude.{Bool, cond, ◌&&◌, List, ℕ, ◌/◌, ◌%◌, eqb, length}
use Rattle.unshared.specs.Operations.{on_blocks}

-- the lengths: a key of 10 bytes, whole blocks, and an output as long as these
unfoldable pub fits : ℕ → ℕ → ℕ → Bool
fits key blocks out = eqb key 10 && (eqb (blocks % 8) 0 && eqb out blocks)

-- f on each block where the lengths fit, else what was there
unfoldable pub many : (ℕ → ℕ) → List ℕ → List ℕ → List ℕ → List ℕ
many f key blocks old = cond (fits (length key) (length blocks) (length old)) (on_blocks f (length blocks / 8) blocks) old
