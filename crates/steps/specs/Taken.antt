-- What a masked call hands back.
use Rattle.std.specs.Prelude.{List, [], ◌∷◌, ℕ}
use Rattle.steps.specs.declared.counts.Counts.{Counts}
use Rattle.steps.specs.declared.counts.Taken.{Taken}
use Rattle.steps.specs.Tape.{bytes_for}

-- as numbers, in the paper's order: masked products, random bytes and steps
abbrev pub handed : Taken → List ℕ
handed t = t.products ∷ t.random ∷ t.steps ∷ []

-- those of the counts of a run whose random elements have so many bits
abbrev pub handed_back : ℕ → Counts → List ℕ
handed_back width n = n.products ∷ bytes_for width n.random ∷ n.steps ∷ []
