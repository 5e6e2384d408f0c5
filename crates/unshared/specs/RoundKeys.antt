-- For inner contracts only. A block by a table and a list of 32 keys.
use Rattle.std.specs.Prelude.{List, ℕ, ◌+◌, ◌-◌, get_or}
use Rattle.xor.specs.Xor.{◌⊕◌}
use Rattle.steps.specs.Fill.{tabulate}
use Rattle.steps.specs.Iterate.{iterate}
use Rattle.present.specs.Present.{Size}
use Rattle.present.specs.Decrypt.{unpermute, round_key_of}
use Rattle.unshared.specs.Lookup.{entries}

-- the round keys, in the order of encryption
unfoldable pub round_keys : Size → ℕ → List ℕ
round_keys z k = tabulate 32 (λ r. round_key_of z k (r + 1))

-- the round keys in the order of decryption, each by the inverse permutation
unfoldable pub inverse_keys : Size → ℕ → List ℕ
inverse_keys z k = tabulate 32 (λ r. unpermute (round_key_of z k (32 - r)))

-- what the table makes of x, and key r added
unfoldable pub turn : List ℕ → List ℕ → ℕ → ℕ → ℕ
turn table keys r x = get_or keys r 0 ⊕ entries table x

-- the first key added, and then 31 turns
unfoldable pub by_table : List ℕ → List ℕ → ℕ → ℕ
by_table table keys x = iterate 1 32 (turn table keys) (get_or keys 0 0 ⊕ x)
