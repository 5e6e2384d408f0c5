-- `AcceptedCall::unwatched_at` meets its contract: a run from the start.
use mathlib.Core.Path.{refl}
use Rattle.steps.proofs.Exec.{went_whole}
use Rattle.sbox.proofs.Passed.{passed_ready}
use Rattle.sbox.proofs.calling.AcceptedCall.unwatched_at.Goals as goal

pub substitute-result-requires : goal.substitute-result-requires
substitute-result-requires g c =
    rw (c.new-machine.ensures.random, c.new-machine.ensures.counts, ← c.requires) (passed_ready c.args.self.now.count.few c.args.self.now.passed refl)

pub returns : goal.returns
returns g c = went_whole (rw (c.new-machine.ensures.random, c.new-machine.ensures.counts, ← c.requires) at c.substitute-result.ensures)
