-- `draw` meets its contract: it takes the byte in which the element lies, and of it the element's bits.
use native.Mathlib.Omega.{arith}
use Rattle.steps.proofs.Tape.{drawn_from, drawn_is}
use Rattle.steps.proofs.drawing.draw.Goals as goal

pub bounds-random-at : goal.bounds-random-at
bounds-random-at c =
    omega (arith, drawn_from c.args.width c.args.at c.args.random.now _ c.packing-more.ensures.beside c.requires)

pub returns : goal.returns
returns c =
    drawn_is c.args.width c.args.at c.args.random.now (λ j. omega (arith, c.type_inv.random j)) _ _ c.packing-more.ensures.beside c.packing-more.ensures.limit
