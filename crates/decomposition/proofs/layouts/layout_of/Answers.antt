-- `layouts::layout_of` meets its contract: the numbers of the layouts are those that the definition gives.
use mathlib.Core.Path.{sym}
use Rattle.decomposition.proofs.Sizes.{known_6, outputs_4, outputs_6, layout_4_4, layout_6_6, layout_6_4}
use Rattle.decomposition.proofs.layouts.layout_of.Goals as goal

pub returns-in-4-default : goal.returns-in-4-default
returns-in-4-default c = rw (c.in-4-default.is-0, outputs_4 _ _ c.requires c.in-4-default.is-0) (sym layout_4_4)

pub returns-in_default-eq6 : goal.returns-in_default-eq6
returns-in_default-eq6 c = rw (known_6 _ c.requires.width c.in_default-eq6.is-0.1, c.in_default-eq6.is-1) (sym layout_6_6)

pub returns-in_default : goal.returns-in_default
returns-in_default c = rw (known_6 _ c.requires.width c.in_default.is-0.1, outputs_6 _ _ c.requires c.in_default.is-1.1) (sym layout_6_4)
