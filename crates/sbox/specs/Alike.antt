-- Two calls of S-box, or of Watch S-box, that the paper asks to answer alike, whatever the secrets and the choices.
use Rattle.std.specs.Prelude.{◌≡◌, List, [], ◌∷◌, ℕ, ◌^◌, length}
use Rattle.xor.specs.Sum.{Small}
use Rattle.refusal.specs.Outcome.{done}
use Rattle.refusal.specs.Large.{LargeAlike}
use Rattle.steps.specs.Tape.{elements}
use Rattle.decomposition.specs.Record.{read_outcome}

-- two calls with the record r whose slices have the same lengths and, where Read accepts r with width n, their shares that are too large, if any, at
-- the same places; so their random elements at width 6; random elements lie in bytes
pub record SamePlaces (r shares shares' random random' : List ℕ) : Type 0 where
  pub same_shares : length shares ≡ length shares'
  pub same_random : length random ≡ length random'
  pub large_shares : (n : ℕ) → read_outcome r ≡ done (n ∷ []) → LargeAlike (2 ^ n) shares shares'
  pub large_random : read_outcome r ≡ done (6 ∷ []) → LargeAlike 64 (elements 6 random) (elements 6 random')
  pub random_bytes : Small 8 random
  pub random_bytes' : Small 8 random'
