-- `refuse_large_elements` meets its contract: the shares, and then the random elements that are tested.
use mathlib.Core.List.{[]}
use mathlib.Core.Path.{◌≡◌, ◌∙◌, sym}
use Prim.Native.Nat.{ℕ, ◌+◌, ◌^◌}
use native.Mathlib.Omega.{arith}
use borrow.Author.Tests.{eq-eqb, ne_eqb}
use lib.ListN.{length}
use Rattle.refusal.specs.Outcome.{done}
use Rattle.refusal.specs.Refusals.{nothing}
use Rattle.refusal.proofs.Exits.{reports, entry_large, entries_small}
use Rattle.refusal.proofs.Large.{below_passes}
use Rattle.steps.specs.Tape.{elements}
use Rattle.sbox.specs.Operations.{tested_random}
use Rattle.sbox.proofs.Tests.{test_two}
use Rattle.sbox.proofs.arguments.refuse_large_elements.Goals as goal

pub returns-in_err-refuse_large : goal.returns-in_err-refuse_large
returns-in_err-refuse_large c =
    let tested = rw c.requires.inputs.0 at c.refuse_large.ensures in
    reports nothing _ _ c.from_residual.ensures.1 ∙ sym (test_two _ _ _ _ ∙ entry_large _ _ _ _ tested c.in_err-refuse_large.was)

pub returns-then-layout-eq4 : goal.returns-then-layout-eq4
unfolding tested_random
returns-then-layout-eq4 c =
    let bound = 2 ^ c.args.layout.now.width in
    let tested = rw c.requires.inputs.0 at c.refuse_large.ensures in
    -- at width 4 no random element is tested
    let none : tested_random c.args.layout.now.width c.args.random.now ≡ [] = rw (eq-eqb _ 4 c.if-layout-eq4.true) in
    rw none (sym (test_two bound c.args.shares.now [] (done []) ∙ entries_small _ _ _ _ tested c.in_ok-refuse_large.was
    ∙ below_passes bound (length c.args.shares.now) [] (done []) (omega arith)))

pub refuse_large_random-requires-clause-one_a_byte : goal.refuse_large_random-requires-clause-one_a_byte
refuse_large_random-requires-clause-one_a_byte c = ne_eqb _ 4 c.if-layout-eq4.false

pub returns : goal.returns
unfolding tested_random
returns c =
    let tested = rw c.requires.inputs.0 at c.refuse_large.ensures in
    -- else all are
    let all : tested_random c.args.layout.now.width c.args.random.now ≡ elements c.args.layout.now.width c.args.random.now =
    rw (ne_eqb _ 4 c.if-layout-eq4.false) in
    let rest = rw c.requires.inputs.0 at c.refuse_large_random.ensures in
    rest ∙ rw all (sym (test_two _ _ _ _ ∙ entries_small _ _ _ _ tested c.in_ok-refuse_large.was))
