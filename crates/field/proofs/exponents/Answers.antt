-- `field::exponents` meets its contract: the arrays are the lists of the definition.
use mathlib.Core.Path.{refl}
use mathlib.Core.List.{flatten}
use Rattle.field.specs.Polynomial.{classes, exponents}
use Rattle.field.proofs.Turns.{narrow_6}
use Rattle.field.proofs.exponents.Goals as goal

pub returns-then-width-eq4 : goal.returns-then-width-eq4
unfolding exponents classes flatten
returns-then-width-eq4 c = rw c.if-width-eq4.true refl

pub returns-else-width-eq4 : goal.returns-else-width-eq4
unfolding exponents classes flatten
returns-else-width-eq4 c = rw (narrow_6 _ c.requires c.if-width-eq4.false) refl
