-- The experiment that demand 3 of the paper counts, for a masked program of two secrets: a key and a block, say.
use Rattle.std.specs.Prelude.{List, ◌++◌, ℕ, ◌-◌, ◌^◌, ◌<◌, replicate}
use Rattle.steps.specs.Program.{Run, ◌>>=◌}
use Rattle.steps.specs.Shape.{Shape, bits_of}
use Rattle.steps.specs.Split.{split}

-- what is secret: two numbers, of w and of v bits
abbrev pub TwoSecret : ℕ → ℕ → ℕ × ℕ → Type 0
TwoSecret w v x = (x.0 < 2 ^ w) × (x.1 < 2 ^ v)

-- They are split into s shares each, one after the other, and the program runs on these: shares 1 to s - 1 of the first are drawn, then those of the
-- second; share 0 of each is the secret plus these.
unfoldable pub split_two : {A : Type 0} → ℕ → ℕ → ℕ → (List ℕ → List ℕ → Run A) → ℕ × ℕ → Run A
split_two w v s program x = do
  a ← split w s x.0
  b ← split v s x.1
  program a b

-- a choice, as the bits of each of its elements: shares 1 to s - 1 of the first secret, those of the second, and each random element that the program
-- draws, which has the shape σ
unfoldable pub split_two_bits : ℕ → ℕ → ℕ → Shape → List ℕ
split_two_bits w v s σ = replicate (s - 1) w ++ (replicate (s - 1) v ++ bits_of σ)
