-- Split, S-box and Join, one after the other, each on what the one before wrote.
use Rattle.std.specs.Prelude.{◌≡◌, List, [], ◌∷◌, ℕ, length}
use Rattle.refusal.specs.Outcome.{done}
use Rattle.steps.specs.Operations.{split_shares, split_outcome, join_shares, join_outcome}
use Rattle.decomposition.specs.Record.{outputs_of}
use Rattle.sbox.specs.Figures.{figures}
use Rattle.sbox.specs.Operations.{sbox_outcome, sbox_output}

-- the shares that Split writes of the element x
abbrev pub split_element : ℕ → ℕ → List ℕ → List ℕ
split_element s x masks = split_shares s (x ∷ []) masks

-- what S-box writes from them
abbrev pub substituted : List ℕ → ℕ → ℕ → List ℕ → List ℕ → List ℕ
substituted r s x masks random = sbox_output r s (split_element s x masks) random

-- The element x is split, put through the S-box of the record r and joined, each slice for output being as long as what is written there. Every call
-- is done, S-box hands back the figures, and Join writes the element y.
pub record Chained (r : List ℕ) (n s x : ℕ) (masks random : List ℕ) (y : ℕ) : Type 0 where
  pub split_done : split_outcome (length (x ∷ [])) s (length masks) (length (split_element s x masks)) ≡ done []
  pub sbox_done : sbox_outcome r s (split_element s x masks) random (length (substituted r s x masks random))
      ≡ done (figures n (outputs_of r) s)
  pub join_done : join_outcome (length (substituted r s x masks random)) s (length (y ∷ [])) ≡ done []
  pub join_writes : join_shares 1 s (substituted r s x masks random) ≡ y ∷ []
