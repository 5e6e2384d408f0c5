-- Answers as words.
use Rattle.std.specs.Prelude.{List, [], ◌∷◌, ℕ, get_or}
use Rattle.refusal.specs.Outcome.{Outcome, done, refused}

-- the first three numbers of a list, 0 for those that it has not
abbrev pub three : List ℕ → List ℕ
three numbers = get_or numbers 0 0 ∷ get_or numbers 1 0 ∷ get_or numbers 2 0 ∷ []

-- the number, 0 for done; then the place, or up to three numbers that are handed back; 0 in words that are not used
unfoldable pub words : Outcome → List ℕ
words (done numbers) = 0 ∷ three numbers
words (refused number place) = number ∷ place ∷ 0 ∷ 0 ∷ []
