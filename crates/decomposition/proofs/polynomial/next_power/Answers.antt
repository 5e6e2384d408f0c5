-- `decomposition::polynomial::next_power` meets its contract.
use mathlib.Core.Path.{sym, ap, ◌∙◌}
use Rattle.field.specs.Power.{square}
use Rattle.field.proofs.Polynomial.{follows_power}
use Rattle.field.proofs.Turns.{narrow_width}
use Rattle.decomposition.proofs.polynomial.next_power.Goals as goal

pub returns-then-follows : goal.returns-then-follows
returns-then-follows c =
    c.square.ensures ∙ ap (square c.args.width) c.requires.x_bound.1
    ∙ sym (follows_power (narrow_width _ c.requires.narrow) c.args.x c.args.e c.args.next c.requires.x_bound.0 (sym c.follows.ensures ∙ c.if-follows.true))
