-- What Read hands back.
use Rattle.std.specs.Prelude.{List, [], ◌∷◌, ◌≡◌, ℕ, Result, IfOk}
use Rattle.refusal.specs.declared.refusals.Refusal.{Refusal}
use Rattle.decomposition.specs.declared.layouts.Layout.{Layout}
use Rattle.decomposition.specs.declared.records.Record.{Record}

-- its width, as the outcome has it
abbrev pub width_in : Record → List ℕ
width_in r = r.layout.width ∷ []

-- a record that is handed back has this layout, and these coefficients
abbrev pub HandsBack : Result Record Refusal → Layout → List ℕ → Type 0
HandsBack result L coefficients = IfOk result (λ r. (r.layout ≡ L) × (r.coefficients.now ≡ coefficients))
