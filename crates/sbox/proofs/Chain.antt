-- THE CHAIN. Split, S-box and Join, one after the other: for every element, all masks and all random elements each of them accepts its call, and Join
-- writes the record's form at the element, of which the low output bits are the entry of a table with which Check accepts the record.
use mathlib.Core.Path.{◌≡◌, refl, sym, ap, subst, ◌∙◌}
use mathlib.Core.List.{List, [], ◌∷◌}
use Prim.Native.Nat.{ℕ, ◌-◌, ◌%◌, ◌^◌, ◌≤◌, ◌<◌}
use native.Mathlib.Nat.{mul-one}
use native.Mathlib.Omega.{arith}
use lib.ListN.{length, get_or}
use Rattle.xor.specs.Sum.{join}
use Rattle.xor.proofs.Sum.{join_split}
use Rattle.refusal.specs.Outcome.{done}
use Rattle.steps.specs.Split.{settled}
use Rattle.steps.specs.Settled.{Choice, Settled, settles_nil, settles_cons}
use Rattle.steps.proofs.Chosen.{masks_length}
use Rattle.steps.proofs.Operations.{split_accepts, join_accepts, split_elements}
use Rattle.decomposition.specs.Layout.{layout}
use Rattle.decomposition.specs.Record.{outputs_of, read_outcome}
use Rattle.decomposition.specs.Check.{record_form, check_outcome}
use Rattle.decomposition.proofs.ReadOutcome.{read_accepted}
use Rattle.decomposition.proofs.Theorems.{check_output}
use Rattle.sbox.specs.Figures.{figures}
use Rattle.sbox.specs.Experiment.{sbox_inputs}
use Rattle.sbox.specs.Operations.{sbox_outcome}
use Rattle.sbox.specs.Chain.{split_element, substituted, Chained}
use Rattle.sbox.proofs.Output.{output_length, join_form}
use Rattle.sbox.proofs.Settles.{random_bytes, call_accepted}

module _ (r : List ℕ) (n s : ℕ) (read : read_outcome r ≡ done (n ∷ [])) (some : 0 < s) (nine : s ≤ 9)
    (x : ℕ) (secret : x < 2 ^ n) (masks random : List ℕ) (choice : Choice (sbox_inputs n (outputs_of r) s) (masks ∷ []) random) where
  masked : length masks ≡ s - 1
  masked = masks_length choice.masks_are

  -- With a record that Read accepts, Join writes the record's form at the element,
  pub chained_form : Chained r n s x masks random (record_form (layout n (outputs_of r)) r x)
  chained_form =
      let shares = split_element s x masks in
      let written = substituted r s x masks random in
      let are = split_elements s x masks (masked) in
      let lent : length shares ≡ s = ap length are ∙ omega (arith, masked) in
      let long : length written ≡ s = output_length r s shares random in
      let whole : Settled (sbox_inputs n (outputs_of r) s) (settled x masks ∷ []) random =
      record { values = x ∷ []; masks = masks ∷ []; choice = choice; settles = settles_cons secret refl settles_nil } in
      let bytes = random_bytes r n s read some nine (settled x masks) random whole in
      let accepted : sbox_outcome r s shares random s ≡ done (figures n (outputs_of r) s) =
      ap (λ (l : List ℕ). sbox_outcome r s l random s) are ∙ call_accepted r n s read some nine (settled x masks) random whole in
      record {
        split_done = split_accepts 1 s (length masks) (length shares) some nine (omega arith) (omega arith)
            (masked ∙ sym (mul-one (s - 1))) (lent ∙ sym (mul-one s));
        sbox_done = ap (sbox_outcome r s shares random) long ∙ accepted;
        join_done = join_accepts (length written) s 1 some nine (omega arith) (omega arith) (long ∙ sym (mul-one s));
        join_writes = rw (read_accepted r n read).named at (join_form r s shares random s bytes accepted)
            ∙ ap (λ (y : ℕ). record_form (layout n (outputs_of r)) r y ∷ []) (ap join are ∙ join_split x masks);
      }

  -- and so an element whose low output bits are the table's entry there, for a table with which Check accepts it.
  pub chained_table : (table : List ℕ) → check_outcome r table ≡ done []
      → (y : ℕ) × Chained r n s x masks random y × (y % 2 ^ outputs_of r ≡ get_or table x 0)
  chained_table table checked =
      let named = (read_accepted r n read).named in (
        record_form (layout n (outputs_of r)) r x,
        chained_form,
        subst (λ (k : ℕ). record_form (layout k (outputs_of r)) r x % 2 ^ outputs_of r ≡ get_or table x 0) named
            (check_output r table checked x (rw named secret)),
      )
