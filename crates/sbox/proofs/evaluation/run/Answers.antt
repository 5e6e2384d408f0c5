-- `run` meets its contract: at each width the program of the code is that of the definition.
use Rattle.decomposition.proofs.Sizes.{known_6, sizes}
use Rattle.sbox.proofs.Widths.{sized_4, sized_6, some_terms, rows_are_sbox_4, rows_are_sbox_6}
use Rattle.sbox.proofs.evaluation.run.Goals as goal

pub evaluate-requires-clause-sizes : goal.evaluate-requires-clause-sizes
evaluate-requires-clause-sizes g c =
    let o = c.requires.of_pair in
    (∣ rw (← o.layout_is) at (sizes _ _ o.pair) ∣₁, sized_4 o c.if-layout-eq4.true)

pub evaluate-requires-clause-ready : goal.evaluate-requires-clause-ready
evaluate-requires-clause-ready g c = rw (rows_are_sbox_4 c.requires.of_pair _ c.if-layout-eq4.true _ _) c.requires.ready

pub overflow_sub-layout : goal.overflow_sub-layout
overflow_sub-layout g c = some_terms c.requires.of_pair

pub evaluate-requires-else-layout-eq4-clause-sizes : goal.evaluate-requires-else-layout-eq4-clause-sizes
evaluate-requires-else-layout-eq4-clause-sizes g c =
    let o = c.requires.of_pair in
    (∣ rw (← o.layout_is) at (sizes _ _ o.pair) ∣₁, sized_6 o (known_6 _ o.pair.width c.if-layout-eq4.false))

pub evaluate-requires-else-layout-eq4-clause-ready : goal.evaluate-requires-else-layout-eq4-clause-ready
evaluate-requires-else-layout-eq4-clause-ready g c =
    rw (rows_are_sbox_6 c.requires.of_pair _ (known_6 _ c.requires.of_pair.pair.width c.if-layout-eq4.false) _ _) c.requires.ready

pub returns-then-layout-eq4 : goal.returns-then-layout-eq4
returns-then-layout-eq4 g c = rw (rows_are_sbox_4 c.requires.of_pair _ c.if-layout-eq4.true _ _) at c.evaluate.ensures

pub returns-else-layout-eq4 : goal.returns-else-layout-eq4
returns-else-layout-eq4 g c =
    rw (rows_are_sbox_6 c.requires.of_pair _ (known_6 _ c.requires.of_pair.pair.width c.if-layout-eq4.false) _ _) at c.evaluate-else-layout-eq4.ensures
