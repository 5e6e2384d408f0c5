-- `AcceptedCall::watched_at` meets its contract: a run from the start, whose values are copied out.
use mathlib.Core.Path.{refl, sym, ◌∙◌}
use Rattle.steps.proofs.Exec.{went_whole}
use Rattle.steps.proofs.Parts.{went_after}
use Rattle.sbox.proofs.Passed.{passed_ready, passed_watched}
use Rattle.sbox.proofs.calling.AcceptedCall.watched_at.Goals as goal

pub substitute-requires : goal.substitute-requires
substitute-requires g c =
    rw (c.new-machine.ensures.random, c.new-machine.ensures.counts, c.new-machine.ensures.recorder, c.new.ensures.list, ← c.requires.width)
    (passed_ready c.args.self.now.count.few c.args.self.now.passed (sym (c.new.ensures.places c.requires.places.0)))

pub copy_to-requires : goal.copy_to-requires
copy_to-requires g c =
    let ready = passed_ready c.args.self.now.count.few c.args.self.now.passed (sym (c.new.ensures.places c.requires.places.0)) in
    let went = rw (c.new-machine.ensures.random, c.new-machine.ensures.counts, c.new-machine.ensures.recorder, c.new.ensures.list, ← c.requires.width) at c.substitute.ensures in
    rw (went_after ready went).same_watch (c.requires.places.0, sym c.requires.places.1)

pub returns-clause-counts : goal.returns-clause-counts
returns-clause-counts g c =
    let whole = went_whole (rw (c.new-machine.ensures.random, c.new-machine.ensures.counts, c.new-machine.ensures.recorder, c.new.ensures.list, ← c.requires.width) at c.substitute.ensures) in
    record { result_is = refl; products_are = whole.products_are; draws_are = whole.draws_are; steps_are = whole.steps_are }

pub returns-clause-values : goal.returns-clause-values
returns-clause-values g c =
    c.copy_to.ensures
    ∙ passed_watched c.args.self.now.count.few c.args.self.now.passed (sym (c.new.ensures.places c.requires.places.0)) c.requires.below
    (rw (c.new-machine.ensures.random, c.new-machine.ensures.counts, c.new-machine.ensures.recorder, c.new.ensures.list, ← c.requires.width) at c.substitute.ensures)
