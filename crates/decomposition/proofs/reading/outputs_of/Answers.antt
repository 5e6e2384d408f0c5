-- `reading::outputs_of` meets its contract: where the version has a byte for the output bits, it is that byte, and else the width.
use mathlib.Core.Path.{refl}
use borrow.Author.Tests.{eq-eqb, ne_eqb}
use Rattle.decomposition.specs.Record.{outputs_of}
use Rattle.decomposition.proofs.reading.outputs_of.Goals as goal

pub returns-then-bytes-eq2 : goal.returns-then-bytes-eq2
unfolding outputs_of
returns-then-bytes-eq2 c = rw (eq-eqb _ _ c.if-bytes-eq2.true) refl

pub returns-else-bytes-eq2 : goal.returns-else-bytes-eq2
unfolding outputs_of
returns-else-bytes-eq2 c = rw (ne_eqb _ _ c.if-bytes-eq2.false) refl
