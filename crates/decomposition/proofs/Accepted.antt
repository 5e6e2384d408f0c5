-- Read and Check accept the record of a decomposition.
use mathlib.Core.List.{List, [], ◌∷◌}
use mathlib.Core.Path.{◌≡◌, refl, sym, ◌∙◌, ap, ap₂}
use Prim.Native.Nat.{ℕ, ◌+◌, ◌%◌, ◌<◌, ◌^◌}
use native.Mathlib.Omega.{arith}
use lib.ListN.{length, get_or, length-append}
use borrow.Author.Tests.{le-leb, eq-eqb}
use Rattle.xor.specs.Sum.{Small}
use Rattle.xor.proofs.Sum.{small_append}
use Rattle.refusal.specs.Large.{first_large}
use Rattle.refusal.specs.Outcome.{done, Outcome, and_then}
use Rattle.refusal.proofs.Large.{none_large}
use Rattle.decomposition.specs.Check.{check_at, check_outcome, first_difference, record_output}
use Rattle.decomposition.specs.Form.{form}
use Rattle.decomposition.specs.Layout.{Known, Pair, Sizes, layout}
use Rattle.decomposition.specs.Record.{Accepted, SameRecord, coefficients_of, layout_of, marked, old_record, outputs_of, read_outcome, record_of, version_of, width_of}
use Rattle.decomposition.proofs.Differences.{no_difference}
use Rattle.decomposition.proofs.ReadOutcome.{accepted_read}
use Rattle.decomposition.proofs.RecordParts.{record_entries, record_length, record_marked, record_version, record_width, record_outputs, record_form_lem}
use Rattle.decomposition.proofs.Sizes.{layout_outputs, layout_width, same_pair, sizes}

module _ (n m : ℕ) (w : Pair n m) (basis p : List ℕ) (eb : length basis ≡ (layout n m).basis) (ep : length p ≡ (layout n m).unknowns)
    (sb : Small (layout n m).width basis) (sp : Small (layout n m).width p) where
  r : List ℕ
  r = record_of (layout n m) basis p

  z : Sizes (layout n m)
  z = sizes n m w

  length_r : length r ≡ 7 + (length basis + length p)
  unfolding r
  length_r = record_length (layout n m).width (layout n m).outputs basis p

  version_r : version_of r ≡ 2
  unfolding r
  version_r = record_version (layout n m).width (layout n m).outputs basis p

  width_r : width_of r ≡ n
  unfolding r
  width_r = record_width (layout n m).width (layout n m).outputs basis p ∙ layout_width n m

  outputs_r : outputs_of r ≡ m
  unfolding r
  outputs_r = record_outputs (layout n m).width (layout n m).outputs basis p ∙ layout_outputs n m

  elements_r : Small n (coefficients_of r)
  unfolding r
  elements_r =
      rw (record_entries (layout n m).width (layout n m).outputs basis p)
      (small_append n basis p (λ k. rw (← layout_width n m) (sb k)) (λ k. rw (← layout_width n m) (sp k)))

  -- the record is one that Read accepts
  pub accepted_record : Accepted n (record_of (layout n m) basis p)
  unfolding r
  accepted_record = record {
    mark = record_marked (layout n m).width (layout n m).outputs basis p;
    pair = rw outputs_r w;
    named = width_r;
    whole = rw (version_r, outputs_r) (length_r ∙ omega (arith, eb, ep, z.coefficients));
    elements = elements_r;
  }

  pub written_read : read_outcome (record_of (layout n m) basis p) ≡ done (n ∷ [])
  unfolding r
  written_read = accepted_read r n accepted_record

  module _ (table : List ℕ) (et : length table ≡ (layout n m).inputs) (st : Small (layout n m).outputs table)
      (equal : (x : ℕ) → x < 2 ^ (layout n m).width → form (layout n m) basis p x % 2 ^ (layout n m).outputs ≡ get_or table x 0) where
    -- the record's output is the table
    agrees : first_difference (record_output (layout n m) r) table ≡ length table
    unfolding r
    agrees =
        no_difference (record_output (layout n m) (record_of (layout n m) basis p)) table
        (λ x h. ap₂ ◌%◌ (record_form_lem (layout n m) basis p eb x) z.entries ∙ equal x (omega (arith, h, et, z.inputs)))

    pub written_check : check_outcome (record_of (layout n m) basis p) table ≡ done []
    unfolding check_outcome r
    written_check =
        ap (λ (o : Outcome). and_then o (check_at (layout_of r) r table)) written_read
        ∙ ap₂ (λ (n m : ℕ). check_at (layout n m) r table) width_r outputs_r
        ∙ rw (
          eq-eqb (length table) (layout n m).inputs et,
          le-leb (length table) (first_large (layout n m).entries table)
              (none_large (layout n m).entries table (λ k. rw z.entries (st k))),
          le-leb (length table) (first_difference (record_output (layout n m) r) table) (omega (arith, agrees)),
        ) refl

-- ---- version 1

module _ (n : ℕ) (w : Known n) (basis p : List ℕ) (eb : length basis ≡ (layout n n).basis) (ep : length p ≡ (layout n n).unknowns)
    (sb : Small n basis) (sp : Small n p) where
  old_accepted : Accepted n (old_record n basis p)
  unfolding old_record marked outputs_of
  old_accepted = record {
    mark = refl;
    pair = same_pair n w;
    named = refl;
    whole = omega (arith, length-append basis p, eb, ep, (sizes n n (same_pair n w)).coefficients);
    elements = small_append n basis p sb sp;
  }

  -- the record of version 1 and that of version 2, with the same coefficients
  pub old_record_lem : SameRecord n (old_record n basis p) (record_of (layout n n) basis p)
  unfolding old_record outputs_of
  old_record_lem = record {
    accepted = old_accepted;
    accepted' = accepted_record n n (same_pair n w) basis p eb ep (λ k. rw (layout_width n n) (sb k)) (λ k. rw (layout_width n n) (sp k));
    outputs = sym (record_outputs (layout n n).width (layout n n).outputs basis p ∙ layout_outputs n n);
    coefficients = sym (record_entries (layout n n).width (layout n n).outputs basis p);
  }
