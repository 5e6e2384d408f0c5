-- The experiment: its shape, its coupling, its tape, and step 9 of a two-share S-box at width 4.
use mathlib.Core.Path.{◌≡◌, refl, ap, ap₂, ◌∙◌}
use mathlib.Core.Bool.{Bool, true, false, cond}
use mathlib.Core.List.{List, [], ◌∷◌, ◌++◌}
use Prim.Native.Nat.{ℕ, zero, suc, ◌+◌, ◌-◌, ◌^◌, ◌≤◌, ◌<◌}
use lib.ListN.{length, replicate}
use Rattle.xor.specs.Xor.{◌⊕◌}
use Rattle.xor.specs.Sum.{join}
use Rattle.field.specs.Mul.{mul}
use Rattle.field.proofs.Inverses.{field_of}
use Rattle.decomposition.specs.Layout.{terms_of}
use Rattle.decomposition.proofs.Sizes.{known_width}
use Rattle.steps.specs.Program.{◌>>=◌, ◌>>◌, note, random, loop, for, first, later, trace}
use Rattle.steps.specs.Watch.{watched}
use Rattle.steps.specs.Choices.{sum, tally, total_bits, equal, choices}
use Rattle.steps.specs.Shape.{draw_of, touches_of, bits_of, Shaped}
use Rattle.steps.specs.Coupling.{Coupled}
use Rattle.steps.specs.Sharing.{share, Sharing, Close}
use Rattle.steps.specs.Split.{masks, split}
use Rattle.steps.specs.Settled.{mask_bits, choice_bits}
use Rattle.steps.proofs.Shape.{shaped_bind, bits_append, touches_append}
use Rattle.steps.proofs.Coupling.{coupled_bind}
use Rattle.steps.proofs.Splits.{shaped_split, coupled_split, draws_bits, draws_touches}
use Rattle.steps.proofs.Choices.{sum_same, tally_same, tally_all}
use Rattle.product.specs.Product.{product, start, row, pair}
use Rattle.sbox.specs.Sbox.{factors, classes_after, powers, sbox}
use Rattle.product.specs.ByShare.{by_share, square, squares}
use Rattle.sbox.specs.Form.{form_of, basis_size, AcceptedForm}
use Rattle.sbox.specs.Shape.{sbox_shape}
use Rattle.sbox.specs.Figures.{products_for, draws_for, sbox_draws}
use Rattle.sbox.specs.Experiment.{experiment, experiment_shape, sbox_inputs}
use Rattle.sbox.proofs.Shape.{shaped_sbox}
use Rattle.sbox.proofs.Counts.{sbox_bits}
use Rattle.sbox.proofs.Coupling.{coupled_sbox}

-- ---- the shape

pub experiment_bits : (n m s : ℕ) → bits_of (experiment_shape n m s) ≡ choice_bits (sbox_inputs n m s)
unfolding experiment_shape choice_bits mask_bits
experiment_bits n m s =
    bits_append (replicate (s - 1) (draw_of n)) (sbox_shape n s (basis_size n m))
    ∙ ap₂ (λ (k l : List ℕ). k ++ l) (draws_bits n (s - 1)) (sbox_bits n m s)

pub experiment_touches : (n m s : ℕ) → touches_of (experiment_shape n m s) ≡ touches_of (sbox_shape n s (basis_size n m))
unfolding experiment_shape
experiment_touches n m s =
    touches_append (replicate (s - 1) (draw_of n)) (sbox_shape n s (basis_size n m))
    ∙ ap (λ l. l ++ touches_of (sbox_shape n s (basis_size n m))) (draws_touches n (s - 1))

module _ {n m : ℕ} {qs ps : List (List ℕ)} (accepted : AcceptedForm n m qs ps) (s : ℕ) where
  pub shaped_experiment : 0 < s → s ≤ 9 → (x : ℕ) → x < 2 ^ n
      → Shaped (λ c. (length c ≡ 9) × Sharing n s (form_of n qs ps x) c) (experiment_shape n m s) (experiment n s qs ps x)
  unfolding experiment experiment_shape
  shaped_experiment some nine x h =
      shaped_bind (shaped_split n s x some h)
      (λ a ha. rw accepted.size at (shaped_sbox accepted.pair.width s x qs ps a some nine accepted.coefficients ha))

  -- ---- the coupling

  pub coupled_experiment : (u : ℕ) → u < s → (x y : ℕ) → x < 2 ^ n → y < 2 ^ n
      → Coupled u (Close n u) (experiment n s qs ps x) (experiment n s qs ps y)
  unfolding experiment
  coupled_experiment u l x y hx hy =
      coupled_bind (coupled_split n s x y u hx hy l)
      (λ a b h. coupled_sbox (field_of n (known_width n accepted.pair.width)).ring s u accepted.coefficients h)

-- ---- counting choices

-- a test that does not look at the tape
tally_of : (bits : List ℕ) (b : Bool) → tally bits (λ tape. b) ≡ cond b (2 ^ total_bits bits) 0
unfolding tally sum
tally_of bits true = tally_all bits
tally_of bits false = none bits
  where
    zeros : (k : ℕ) (f : ℕ → ℕ) → ((v : ℕ) → f v ≡ 0) → sum k f ≡ 0
    zeros zero f h = refl
    zeros (suc k) f h = ap₂ (λ (x y : ℕ). x + y) (zeros k f h) (h k)

    none : (bits : List ℕ) → tally bits (λ tape. false) ≡ 0
    none [] = refl
    none (b ∷ bits) = zeros (2 ^ b) (λ v. tally bits (λ tape. false)) (λ v. none bits)

-- ---- step 9 of a two-share S-box at width 4

-- it is x_0 · x_1 ^ 2
pub step_nine_lem : (qs ps : List (List ℕ)) (a tape : List ℕ)
    → watched (9 ∷ []) (trace (sbox 4 2 qs ps a) tape) ≡ mul 4 (share a 0) (mul 4 (share a 1) (share a 1)) ∷ []
unfolding watched trace sbox powers factors classes_after squares square by_share product start row pair for loop note random ◌>>=◌ ◌>>◌
step_nine_lem qs ps a tape = refl

-- the same by the secret x and the mask m
unfoldable pub step_nine : ℕ → ℕ → ℕ
step_nine x m = mul 4 (x ⊕ join (m ∷ [])) (mul 4 m m)

experiment_step_nine : (qs ps : List (List ℕ)) (x : ℕ) (tape : List ℕ)
    → watched (9 ∷ []) (trace (experiment 4 2 qs ps x) tape) ≡ step_nine x (first tape) ∷ []
unfolding step_nine experiment split masks trace random ◌>>=◌
experiment_step_nine qs ps x tape = step_nine_lem qs ps (x ⊕ join (first tape ∷ []) ∷ first tape ∷ []) (later tape)

-- the choices at which it shows 0, mask by mask: 256 for each mask at which it is 0
pub step_nine_choices : (qs ps : List (List ℕ)) (x : ℕ)
    → choices (choice_bits (sbox_inputs 4 4 2)) (experiment 4 2 qs ps x) (9 ∷ []) (0 ∷ []) ≡ sum 16 (λ m. cond (equal (step_nine x m ∷ []) (0 ∷ [])) 256 0)
unfolding choices choice_bits mask_bits sbox_draws draws_for products_for basis_size terms_of factors tally total_bits first
step_nine_choices qs ps x =
    tally_same (4 ∷ 4 ∷ 4 ∷ []) _ (λ tape. equal (step_nine x (first tape) ∷ []) (0 ∷ []))
    (λ tape f. ap (λ (l : List ℕ). equal l (0 ∷ [])) (experiment_step_nine qs ps x tape))
    ∙ sum_same 16 (λ m. tally (4 ∷ 4 ∷ []) (λ tape. equal (step_nine x m ∷ []) (0 ∷ []))) _
    (λ m l. tally_of (4 ∷ 4 ∷ []) (equal (step_nine x m ∷ []) (0 ∷ [])))
