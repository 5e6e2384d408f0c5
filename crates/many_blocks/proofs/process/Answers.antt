-- `process` meets its contract.
use mathlib.Core.Path.{sym, ◌∙◌}
use Rattle.many_blocks.specs.Many.{many}
use Rattle.many_blocks.proofs.Lengths.{lengths}
use Rattle.many_blocks.proofs.process.Goals as goal

pub process_blocks-requires : goal.process_blocks-requires
process_blocks-requires g c =
    let f = lengths _ _ _ (sym c.lengths_fit.ensures ∙ c.if-lengths_fit.true) in
    record { key = f.0; fit = f.1 }

pub returns-then-lengths_fit : goal.returns-then-lengths_fit
unfolding many
returns-then-lengths_fit g c = rw (sym c.lengths_fit.ensures ∙ c.if-lengths_fit.true) c.process_blocks.ensures

pub returns-else-lengths_fit : goal.returns-else-lengths_fit
unfolding many
returns-else-lengths_fit g c = rw (sym c.lengths_fit.ensures ∙ c.if-lengths_fit.false)
