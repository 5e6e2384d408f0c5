-- The masked S-box by the coefficients of a record of a table, as a masked operation needs it: it substitutes by the table, and it hides every share.
use mathlib.Core.Path.{◌≡◌, refl, subst, ◌∙◌}
use mathlib.Core.List.{List}
use Prim.Native.Nat.{ℕ, ◌^◌, ◌≤◌, ◌<◌}
use lib.ListN.{get_or}
use Rattle.xor.specs.Sum.{Small}
use Rattle.xor.proofs.Sum.{join_small}
use Rattle.field.proofs.Inverses.{field_4}
use Rattle.steps.proofs.Shape.{shaped_weaken}
use Rattle.decomposition.proofs.Sizes.{same_pair}
use Rattle.sbox.specs.Form.{form_of, AcceptedForm, basis_in, solution_in}
use Rattle.sbox.proofs.Shape.{shaped_sbox}
use Rattle.sbox.proofs.Coupling.{coupled_sbox}
use Rattle.sbox.proofs.Record.{accepted_form, record_form_lem}
use Rattle.present.specs.Masked.{Substitutes, Hides}
use Rattle.cipher.specs.Box.{record_sbox}
use Rattle.cipher.specs.Experiment.{box_shape}
use Rattle.cipher.specs.Ciphering.{Realizes}

module _ (t cs : List ℕ) (small : Small 4 cs) (realizes : Realizes t cs) (s : ℕ) where
  coefficients : AcceptedForm 4 4 (basis_in 4 4 cs) (solution_in 4 4 cs)
  coefficients = accepted_form 4 4 (same_pair 4 refl) cs small

  -- the form is the table
  form_substitutes : (x : ℕ) → x < 2 ^ 4 → form_of 4 (basis_in 4 4 cs) (solution_in 4 4 cs) x ≡ get_or t x 0
  form_substitutes x h = record_form_lem 4 4 cs x ∙ realizes x h

  pub substitutes : 0 < s → s ≤ 9 → Substitutes (λ x. get_or t x 0) s (box_shape s) (record_sbox s cs)
  unfolding box_shape
  substitutes some nine x a h =
      let below : x < 2 ^ 4 = subst (λ (v : ℕ). v < 2 ^ 4) h.joins (join_small 4 a h.small) in
      let shaped = rw coefficients.size at (shaped_sbox coefficients.pair.width s x (basis_in 4 4 cs) (solution_in 4 4 cs) a some nine coefficients.coefficients h) in
      shaped_weaken shaped (λ c g. rw (form_substitutes x below) at g.1)

  pub hides : (u : ℕ) → Hides u (record_sbox s cs)
  hides u a b h = coupled_sbox field_4.ring s u coefficients.coefficients h
