-- `draw_count` meets its contract, at each pair.
use mathlib.Core.Path.{sym}
use Rattle.decomposition.proofs.Sizes.{known_6, outputs_4, outputs_6}
use Rattle.sbox.proofs.Counts.{figures_4_4, figures_6_6, figures_6_4}
use Rattle.sbox.proofs.figures.draw_count.Goals as goal

pub returns-in-4-default : goal.returns-in-4-default
returns-in-4-default c = rw (c.ordered_pairs-ordered.ensures, c.in-4-default.is-0, outputs_4 _ _ c.requires c.in-4-default.is-0) (sym (figures_4_4 c.args.s.count).1)

pub returns-in_default-eq6 : goal.returns-in_default-eq6
returns-in_default-eq6 c = rw (c.ordered_pairs-ordered.ensures, known_6 _ c.requires.width c.in_default-eq6.is-0.1, c.in_default-eq6.is-1) (sym (figures_6_6 c.args.s.count).1)

pub returns-in_default : goal.returns-in_default
returns-in_default c =
    rw (c.ordered_pairs-ordered.ensures, known_6 _ c.requires.width c.in_default.is-0.1, outputs_6 _ _ (rw (known_6 _ c.requires.width c.in_default.is-0.1) at c.requires) c.in_default.is-1.1)
    (sym (figures_6_4 c.args.s.count).1)
