-- What is proved of the masked S-box of a record that Read accepts: what its shares join to, and what a watch can learn.
use mathlib.Core.Path.{◌≡◌, ◌∙◌, ap, subst}
use mathlib.Core.List.{List, [], ◌∷◌}
use Prim.Native.Nat.{ℕ, ◌+◌, ◌*◌, ◌%◌, ◌^◌, ◌≤◌, ◌<◌}
use lib.ListN.{get_or}
use Rattle.xor.specs.Sum.{join, Small}
use Rattle.refusal.specs.Outcome.{done}
use Rattle.steps.specs.Program.{result}
use Rattle.steps.specs.Watch.{different, Misses}
use Rattle.steps.specs.Choices.{choices}
use Rattle.steps.specs.Settled.{choice_bits}
use Rattle.steps.specs.Shape.{touches_of}
use Rattle.steps.specs.Sharing.{Sharing}
use Rattle.decomposition.specs.Layout.{layout}
use Rattle.decomposition.specs.Record.{outputs_of, coefficients_of, read_outcome}
use Rattle.decomposition.specs.Check.{record_form, check_outcome}
use Rattle.decomposition.proofs.ReadOutcome.{read_accepted}
use Rattle.decomposition.proofs.Theorems.{check_output}
use Rattle.sbox.specs.Sbox.{sbox}
use Rattle.sbox.specs.Form.{basis_size, AcceptedForm, basis_in, solution_in}
use Rattle.sbox.specs.Shape.{sbox_shape}
use Rattle.sbox.specs.Experiment.{experiment, sbox_inputs}
use Rattle.sbox.proofs.Runs.{result_sharing}
use Rattle.sbox.proofs.Secrecy.{sbox_few_steps, sbox_untouched_share}
use Rattle.sbox.proofs.Record.{accepted_record, record_form_lem}

module _ (n : ℕ) (r : List ℕ) (accepted : read_outcome r ≡ done (n ∷ [])) (s : ℕ) where
  coefficients : AcceptedForm n (outputs_of r) (basis_in n (outputs_of r) (coefficients_of r)) (solution_in n (outputs_of r) (coefficients_of r))
  coefficients = accepted_record n r (read_accepted r n accepted)

  -- THE JOINED RESULT. For every sharing of x and all random elements the shares of the result join to the record's form at x.
  pub joined_form : 0 < s → s ≤ 9 → (x : ℕ) (a random : List ℕ) → Sharing n s x a → Small n random
      → join (result (sbox n s (basis_in n (outputs_of r) (coefficients_of r)) (solution_in n (outputs_of r) (coefficients_of r)) a) random) ≡ record_form (layout n (outputs_of r)) r x
  joined_form some nine x a random h t =
      (result_sharing coefficients s x a random some nine h t).joins ∙ record_form_lem n (outputs_of r) (coefficients_of r) x

  -- Its low output bits are the table's entry at x, for a table with which Check accepts the record; the upper bits are those of the form.
  pub joined_table : 0 < s → s ≤ 9 → (x : ℕ) (a random table : List ℕ) → x < 2 ^ n → Sharing n s x a → Small n random
      → check_outcome r table ≡ done []
      → join (result (sbox n s (basis_in n (outputs_of r) (coefficients_of r)) (solution_in n (outputs_of r) (coefficients_of r)) a) random) % 2 ^ outputs_of r
      ≡ get_or table x 0
  joined_table some nine x a random table hx h t e =
      let named = (read_accepted r n accepted).named in
      ap (λ (y : ℕ). y % 2 ^ outputs_of r) (joined_form some nine x a random h t)
      ∙ subst (λ (k : ℕ). record_form (layout k (outputs_of r)) r x % 2 ^ outputs_of r ≡ get_or table x 0) named (check_output r table e x (rw named hx))

  -- FEW STEPS. If the list has at most t different numbers, and s is at least 2 t + 1, then for any two elements and each list of values equally many
  -- choices show these values at the steps of the list.
  pub few_steps : s ≤ 9 → (t : ℕ) → 2 * t + 1 ≤ s → (list : List ℕ) → different list ≤ t
      → (shown : List ℕ) (x y : ℕ) → x < 2 ^ n → y < 2 ^ n
      → choices (choice_bits (sbox_inputs n (outputs_of r) s)) (experiment n s (basis_in n (outputs_of r) (coefficients_of r)) (solution_in n (outputs_of r) (coefficients_of r)) x) list shown
      ≡ choices (choice_bits (sbox_inputs n (outputs_of r) s)) (experiment n s (basis_in n (outputs_of r) (coefficients_of r)) (solution_in n (outputs_of r) (coefficients_of r)) y) list shown
  few_steps = sbox_few_steps coefficients s

  -- AN UNTOUCHED SHARE. The same holds of a list of any number of steps, if there is a share u that none of them touches.
  pub untouched_share : s ≤ 9 → (u : ℕ) → u < s → (list : List ℕ) → Misses u (touches_of (sbox_shape n s (basis_size n (outputs_of r)))) list
      → (shown : List ℕ) (x y : ℕ) → x < 2 ^ n → y < 2 ^ n
      → choices (choice_bits (sbox_inputs n (outputs_of r) s)) (experiment n s (basis_in n (outputs_of r) (coefficients_of r)) (solution_in n (outputs_of r) (coefficients_of r)) x) list shown
      ≡ choices (choice_bits (sbox_inputs n (outputs_of r) s)) (experiment n s (basis_in n (outputs_of r) (coefficients_of r)) (solution_in n (outputs_of r) (coefficients_of r)) y) list shown
  untouched_share = sbox_untouched_share coefficients s
