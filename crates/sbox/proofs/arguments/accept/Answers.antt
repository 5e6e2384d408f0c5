-- `accept` meets its contract: each test is that of the definition.
use mathlib.Core.Bool.{Bool}
use mathlib.Core.List.{List, [], ◌∷◌, ◌++◌}
use mathlib.Core.Path.{◌≡◌, refl, sym, ap, ◌∙◌}
use Prim.Native.Nat.{ℕ, ◌^◌}
use native.Mathlib.Omega.{arith}
use lib.ListN.{length}
use Rattle.xor.specs.Sum.{Small}
use Rattle.refusal.specs.declared.refusals.Refusal.TheVariants.{Length, ShareCount}
use Rattle.refusal.specs.Large.{test_below}
use Rattle.refusal.specs.Outcome.{done}
use Rattle.refusal.specs.Refusals.{nothing, report}
use Rattle.refusal.proofs.Range.{one_to_range}
use Rattle.refusal.proofs.Exits.{held, failed, exits, reports, done_first, refused_first, entry_large, entries_small}
use Rattle.steps.proofs.Tape.{elements_few}
use Rattle.std.specs.Prelude.{Result}
use Rattle.refusal.specs.declared.refusals.Refusal.{Refusal}
use Rattle.decomposition.proofs.ReadOutcome.{read_values}
use Rattle.decomposition.proofs.Whole.{sizes_of}
use Rattle.decomposition.specs.Record.{outputs_of, width_of}
use Rattle.sbox.specs.Figures.{sbox_draws}
use Rattle.sbox.specs.Operations.{OfPair, argument_tests, call_tests, sbox_lengths, tested_random}
use Rattle.sbox.proofs.Calls.{few_taken, call_lengths_lem, passed_call, of_pair, outputs_is, width_is}
use Rattle.sbox.proofs.Passed.{passed_lem}
use Rattle.sbox.proofs.arguments.accept.Goals.{In_ok-count, In_ok-refuse_large_elements, After-lengths_fit}
use Rattle.sbox.proofs.arguments.accept.Goals as goal

pub returns-in_err-record-clause-outcome : goal.returns-in_err-record-clause-outcome
unfolding call_tests
returns-in_err-record-clause-outcome c =
    reports _ _ _ c.from_residual.ensures.1 ∙ sym (refused_first _ _ c.read.ensures.outcome c.in_err-record.was)

pub returns-in_err-count-clause-outcome : goal.returns-in_err-count-clause-outcome
unfolding call_tests argument_tests
returns-in_err-count-clause-outcome c =
    exits _ _ _ ShareCount c.from_residual-in_err-count.ensures.1 c.in_err-count.ensures.0
    (done_first _ _ c.read.ensures.outcome c.in_ok-record.was ∙ rw c.in_err-count.ensures.1 refl)

-- past the share count: the record's layout is that of a pair
pair : (c : In_ok-count) → OfPair c.in_ok-record.record.layout
pair c = of_pair c.args.bytes.now c.in_ok-record.ensures.record.0 (read_values c.args.bytes.now (sym c.in_ok-record.ensures.outcome)).0.pair

pub lengths_fit-requires : goal.lengths_fit-requires
lengths_fit-requires c = (pair (goal.at.lengths_fit-requires c).In_ok-count).pair

-- the test of the lengths is that of the definition
abbrev LengthsTested : List ℕ → ℕ → List ℕ → List ℕ → Bool → Bool → Type 0
LengthsTested r s shares random fits answer = answer ≡ sbox_lengths (width_of r) (outputs_of r) s (length shares) (length random) fits

lengths : (c : After-lengths_fit) → LengthsTested c.args.bytes.now c.args.s c.args.shares.now c.args.random.now c.args.fits c.lengths_fit.result
lengths c =
    rw (
      width_is c.args.bytes.now c.in_ok-record.ensures.record.0,
      outputs_is c.args.bytes.now c.in_ok-record.ensures.record.0,
      c.in_ok-count.ensures.0,
    ) at c.lengths_fit.ensures

pub returns-in_err-refuse_unless-clause-outcome : goal.returns-in_err-refuse_unless-clause-outcome
unfolding call_tests argument_tests
returns-in_err-refuse_unless-clause-outcome c =
    let f = failed Length (lengths (goal.at.returns-in_err-refuse_unless-clause-outcome c).After-lengths_fit) c.refuse_unless.ensures c.in_err-refuse_unless.was in
    exits _ _ _ Length c.from_residual-in_err-refuse_unless.ensures.1 f.1
    (done_first _ _ c.read.ensures.outcome c.in_ok-record.was ∙ rw (c.in_ok-count.ensures.1, f.0) refl)

pub refuse_large_elements-requires-clause-inputs : goal.refuse_large_elements-requires-clause-inputs
refuse_large_elements-requires-clause-inputs c = let z = sizes_of c.in_ok-record.record.sizes in (z.inputs, z.byte)

pub refuse_large_elements-requires-clause-lengths : goal.refuse_large_elements-requires-clause-lengths
refuse_large_elements-requires-clause-lengths c =
    let r = c.args.bytes.now in
    let right = held _ (lengths (goal.at.refuse_large_elements-requires-clause-lengths c).After-lengths_fit) c.refuse_unless.ensures c.in_ok-refuse_unless.was in
    let h = call_lengths_lem _ _ _ _ _ _ right in
    let range = one_to_range _ _ c.in_ok-count.ensures.1 in
    let p = (read_values r (sym c.in_ok-record.ensures.outcome)).0.pair in
    let few = few_taken (width_of r) (outputs_of r) c.args.s p range.1 in
    let drawn = elements_few (width_of r) c.args.random.now (sbox_draws (width_of r) (outputs_of r) c.args.s) h.1 in
    (omega (arith, range, h.0), rw (width_is c.args.bytes.now c.in_ok-record.ensures.record.0) (omega (arith, few, drawn)))

-- the test of the elements is that of the definition
elements_test : (r : List ℕ) (n : ℕ) (shares random : List ℕ) (answer : Result (Unit {0}) Refusal) → n ≡ width_of r
    → report nothing answer ≡ test_below (2 ^ n) 0 (shares ++ tested_random n random) (done [])
    → report nothing answer ≡ test_below (2 ^ width_of r) 0 (shares ++ tested_random (width_of r) random) (done [])
elements_test r n shares random answer e h = rw e at h

pub returns-in_err-refuse_large_elements-clause-outcome : goal.returns-in_err-refuse_large_elements-clause-outcome
unfolding call_tests argument_tests
returns-in_err-refuse_large_elements-clause-outcome c =
    let right = held _ (lengths (goal.at.returns-in_err-refuse_large_elements-clause-outcome c).After-lengths_fit) c.refuse_unless.ensures c.in_ok-refuse_unless.was in
    let e = width_is c.args.bytes.now c.in_ok-record.ensures.record.0 in
    let tested = elements_test c.args.bytes.now _ _ _ _ e c.refuse_large_elements.ensures in
    reports _ _ _ c.from_residual-in_err-refuse_large_elements.ensures.1
    ∙ sym (done_first _ _ c.read.ensures.outcome c.in_ok-record.was
    ∙ rw (c.in_ok-count.ensures.1, right) (entry_large _ _ _ _ tested c.in_err-refuse_large_elements.was))

-- past all tests
outcome : (c : In_ok-refuse_large_elements) → LengthsTested c.args.bytes.now c.args.s c.args.shares.now c.args.random.now c.args.fits c.lengths_fit.result
    → call_tests c.args.bytes.now c.args.s c.args.shares.now c.args.random.now c.args.fits ≡ done (width_of c.args.bytes.now ∷ [])
unfolding call_tests argument_tests
outcome c tested =
    let right = held _ tested c.refuse_unless.ensures c.in_ok-refuse_unless.was in
    let e = width_is c.args.bytes.now c.in_ok-record.ensures.record.0 in
    let small = elements_test c.args.bytes.now _ _ _ _ e c.refuse_large_elements.ensures in
    done_first _ _ c.read.ensures.outcome c.in_ok-record.was
    ∙ rw (c.in_ok-count.ensures.1, right) (entries_small _ _ _ _ small c.in_ok-refuse_large_elements.was)

pub invariant_of-result : goal.invariant_of-result
invariant_of-result c =
    let bytes : Small 8 c.args.random.now = λ j. omega (arith, c.type_inv.random j) in
    let call = passed_call _ _ _ _ _ bytes (outcome (goal.at.invariant_of-result c).In_ok-refuse_large_elements (lengths (goal.at.invariant_of-result c).After-lengths_fit)) in
    record { passed = passed_lem c.args.bytes.now c.in_ok-record.ensures.record.0 c.in_ok-record.ensures.record.1 c.in_ok-count.ensures.0 call.0 }

pub returns-clause-outcome : goal.returns-clause-outcome
returns-clause-outcome c =
    ap (λ (n : ℕ). done (n ∷ [])) (width_is c.args.bytes.now c.in_ok-record.ensures.record.0)
    ∙ sym (outcome (goal.at.returns-clause-outcome c).In_ok-refuse_large_elements (lengths (goal.at.returns-clause-outcome c).After-lengths_fit))
