-- THE BYTES OF A CALL. If S-box answers done, what it writes joins to the record's form at what the shares join to, of which the low output bits are the
-- entry there of a table with which Check accepts the record: as elements, and in the byte that Join writes.
use mathlib.Core.Path.{◌≡◌, ap, ◌∙◌}
use mathlib.Core.List.{List, [], ◌∷◌, map}
use Prim.Native.Nat.{ℕ, ◌%◌, ◌^◌}
use lib.Dec.{eqb}
use lib.ListN.{length, get_or}
use Rattle.xor.specs.Sum.{join, Small}
use Rattle.xor.proofs.Sum.{join_small}
use Rattle.refusal.specs.Outcome.{done}
use Rattle.steps.specs.Sharing.{share}
use Rattle.steps.specs.Tape.{elements}
use Rattle.steps.specs.Operations.{join_shares}
use Rattle.steps.specs.Call.{call_result}
use Rattle.steps.proofs.Fill.{length_tabulate}
use Rattle.steps.proofs.Sharing.{without_past}
use Rattle.steps.proofs.Operations.{join_elements}
use Rattle.steps.proofs.Call.{call_passed}
use Rattle.decomposition.specs.Layout.{layout}
use Rattle.decomposition.specs.Record.{outputs_of, coefficients_of, width_of}
use Rattle.decomposition.specs.Check.{record_form, check_outcome}
use Rattle.decomposition.proofs.Theorems.{check_output}
use Rattle.sbox.specs.Operations.{call_program, sbox_call, call_tests, sbox_outcome, sbox_output}
use Rattle.sbox.proofs.Record.{accepted_record, record_form_lem}
use Rattle.sbox.proofs.Runs.{result_sharing}
use Rattle.sbox.proofs.Calls.{sharing_of, passed_call}

-- ---- what S-box writes

-- where S-box answers done its tests are passed
passed_tests : (r : List ℕ) (s : ℕ) (shares random : List ℕ) (out : ℕ) {v : List ℕ} → sbox_outcome r s shares random out ≡ done v
    → (w : List ℕ) × (call_tests r s shares random (eqb out s) ≡ done w)
unfolding sbox_outcome sbox_call
passed_tests r s shares random out e = call_passed (sbox_call r s shares random) (eqb out s) e

-- FROM THE ANSWER. If S-box answers done, what it writes joins to the record's form at what the shares join to.
pub output_joins : (r : List ℕ) (s : ℕ) (shares random : List ℕ) (out : ℕ) → Small 8 random → {v : List ℕ} → sbox_outcome r s shares random out ≡ done v
    → join (sbox_output r s shares random) ≡ record_form (layout (width_of r) (outputs_of r)) r (join shares)
unfolding sbox_output sbox_call call_result call_program
output_joins r s shares random out bytes e =
    let n = width_of r in
    let call = (passed_call r s shares random (eqb out s) bytes (passed_tests r s shares random out e).1).0 in
    let accepted = accepted_record n r call.accepted in
    let shared = sharing_of n s shares call.shares_length call.shares_small in
    let h = result_sharing accepted s (join shares) shares (elements n random) call.some call.nine shared call.random_small in
    without_past s (call_result (sbox_call r s shares random)) h.past
    ∙ h.joins
    ∙ record_form_lem n (outputs_of r) (coefficients_of r) (join shares)

-- it writes s elements
pub output_length : (r : List ℕ) (s : ℕ) (shares random : List ℕ) → length (sbox_output r s shares random) ≡ s
unfolding sbox_output
output_length r s shares random = length_tabulate s (share (call_result (sbox_call r s shares random)))

-- ---- what Join writes from it

module _ (r : List ℕ) (s : ℕ) (shares random : List ℕ) (out : ℕ) (bytes : Small 8 random)
    {v : List ℕ} (e : sbox_outcome r s shares random out ≡ done v) where
  -- IN BYTES. If S-box answers done, what Join writes from what S-box writes is the record's form at what the shares join to,
  pub join_form : join_shares 1 s (sbox_output r s shares random) ≡ record_form (layout (width_of r) (outputs_of r)) r (join shares) ∷ []
  join_form =
      join_elements s (sbox_output r s shares random) (output_length r s shares random)
      ∙ ap (λ (y : ℕ). y ∷ []) (output_joins r s shares random out bytes e)

  -- whose low output bits are the table's entry there, for a table with which Check accepts the record.
  pub join_table : (table : List ℕ) → check_outcome r table ≡ done []
      → map (λ y. y % 2 ^ outputs_of r) (join_shares 1 s (sbox_output r s shares random)) ≡ get_or table (join shares) 0 ∷ []
  join_table table checked =
      let n = width_of r in
      let call = (passed_call r s shares random (eqb out s) bytes (passed_tests r s shares random out e).1).0 in
      let small = join_small n shares call.shares_small in
      ap (map (λ y. y % 2 ^ outputs_of r)) join_form
      ∙ ap (λ (y : ℕ). y ∷ []) (check_output r table checked (join shares) small)
