-- `equations::equations` meets its contract. The invariant: the rows of the inputs passed are written.
use Rattle.decomposition.proofs.Work.{rows_more}
use Rattle.decomposition.proofs.equations.equations.Goals as goal

pub loop-x-preserved : goal.loop-x-preserved
loop-x-preserved c = rows_more c.loop-x.invariant (rw (c.at.ensures.0, c.at.ensures.1) at c.equation_at.ensures)
