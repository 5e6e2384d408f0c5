-- What the masked S-box does on a tape of elements of n bits, for an accepted record.
use mathlib.Core.Path.{◌≡◌, ◌∙◌}
use mathlib.Core.List.{List}
use Prim.Native.Nat.{ℕ, ◌≤◌, ◌<◌}
use lib.ListN.{length, replicate}
use Rattle.xor.specs.Sum.{Small}
use Rattle.steps.specs.Program.{result, draws}
use Rattle.steps.specs.Choices.{Fits}
use Rattle.steps.specs.Shape.{bits_of, Shaped}
use Rattle.steps.specs.Sharing.{Sharing}
use Rattle.steps.proofs.Choices.{fits_small}
use Rattle.steps.specs.Call.{Takes}
use Rattle.steps.proofs.Shape.{shaped_result, shaped_draws}
use Rattle.steps.proofs.Call.{takes_shape}
use Rattle.sbox.specs.Sbox.{sbox}
use Rattle.sbox.specs.Form.{form_of, basis_size, AcceptedForm}
use Rattle.sbox.specs.Shape.{sbox_shape}
use Rattle.sbox.specs.Figures.{sbox_products, sbox_draws, sbox_steps}
use Rattle.sbox.proofs.Shape.{shaped_sbox}
use Rattle.sbox.proofs.Counts.{sbox_steps_lem, sbox_draws_lem, sbox_products_lem, sbox_bits}

module _ {n m : ℕ} {qs ps : List (List ℕ)} (accepted : AcceptedForm n m qs ps) (s x : ℕ) (a tape : List ℕ) (some : 0 < s) (nine : s ≤ 9)
    (sharing : Sharing n s x a) (elements : Small n tape) where
  shaped : Shaped (λ c. (length c ≡ 9) × Sharing n s (form_of n qs ps x) c) (sbox_shape n s (basis_size n m)) (sbox n s qs ps a)
  shaped = rw accepted.size at (shaped_sbox accepted.pair.width s x qs ps a some nine accepted.coefficients sharing)

  fits : Fits (bits_of (sbox_shape n s (basis_size n m))) tape
  fits = rw (sbox_bits n m s) (fits_small n (sbox_draws n m s) tape elements)

  -- the result is a sharing of the form at x, in nine places
  pub result_sharing : Sharing n s (form_of n qs ps x) (result (sbox n s qs ps a) tape)
  result_sharing = (shaped_result shaped tape fits).1

  pub result_places : length (result (sbox n s qs ps a) tape) ≡ 9
  result_places = (shaped_result shaped tape fits).0

  -- so many masked products, draws and steps are taken
  pub takes : Takes (sbox n s qs ps a) tape (sbox_products n m) (sbox_draws n m s) (sbox_steps n m s)
  takes = takes_shape shaped tape fits (sbox_products_lem n m s) (sbox_draws_lem n m s) (sbox_steps_lem n m s)

  -- the draws are of n bits each
  pub draws_are : draws (sbox n s qs ps a) tape ≡ replicate (sbox_draws n m s) n
  draws_are = shaped_draws shaped tape fits ∙ sbox_bits n m s
