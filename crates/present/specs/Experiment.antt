-- The experiment that demand 3 of the paper counts, for a masked program of a key and a block: both are split by masks that are drawn, and the program
-- runs.
use Rattle.std.specs.Prelude.{List, ℕ, ◌^◌, ◌<◌}
use Rattle.steps.specs.Program.{Run}
use Rattle.steps.specs.Shape.{Shape, Shaped}
use Rattle.steps.specs.Coupling.{Coupled}
use Rattle.steps.specs.Sharing.{Sharing, Close}
use Rattle.steps.specs.TwoSecrets.{split_two, split_two_bits}
use Rattle.present.specs.Present.{Size, key_bits, State}

-- ---- what is asked of the program

-- On sharings of a key and a block it ends in a sharing of what f gives, and it has the shape τ.
abbrev pub Computes : (ℕ → ℕ → ℕ) → Size → ℕ → Shape → (List ℕ → List ℕ → Run (List ℕ)) → Type 0
Computes f z s τ program =
    (k x : ℕ) (a b : List ℕ) → Sharing (key_bits z) s k a → Sharing 64 s x b → Shaped (Sharing 64 s (f k x)) τ (program a b)

-- Given sharings that agree but for share u, its two runs are coupled but for share u, and end in such sharings.
abbrev pub Keeps : ℕ → Size → (List ℕ → List ℕ → Run (List ℕ)) → Type 0
Keeps u z program = (a a' b b' : List ℕ) → Close (key_bits z) u a a' → Close 64 u b b' → Coupled u (Close 64 u) (program a b) (program a' b')

-- ---- the experiment

-- what is secret: a key and a block
pub record Secret (z : Size) (a : State ℕ) : Type 0 where
  pub key_small : a.key < 2 ^ key_bits z
  pub block_small : a.block < 2 ^ 64

-- shares 1 to s - 1 of the key are drawn, then those of the block; share 0 of each is the secret plus these
unfoldable pub experiment : (List ℕ → List ℕ → Run (List ℕ)) → Size → ℕ → State ℕ → Run (List ℕ)
experiment program z s a = split_two (key_bits z) 64 s program (a.key, a.block)

-- a choice for a program of the shape τ, as the bits of each of its elements: shares 1 to s - 1 of the key, those of the block, and each random element
-- that the steps draw
unfoldable pub choice_bits : Size → ℕ → Shape → List ℕ
choice_bits z s τ = split_two_bits (key_bits z) 64 s τ
