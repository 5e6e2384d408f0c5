-- The run of Block meets its contract: the state is loaded, the rounds run, and the last round key is added.
use Rattle.steps.specs.ShareBytes.{sharing}
use Rattle.steps.proofs.Parts.{went_then}
use Rattle.present.specs.Masked.{masked_encrypt}
use Rattle.cipher.proofs.Calls.{bytes_written}
use Rattle.cipher.proofs.Prepared.{prepared, prepared_first, prepared_next}
use Rattle.cipher.proofs.enciphering.SealingCiphering472.run.Goals as goal

pub rounds-requires : goal.rounds-requires
unfolding masked_encrypt sharing
rounds-requires g c = rw (c.load-loaded.ensures.shares, c.load-loaded.ensures.key, c.load-loaded.ensures.block) (prepared_first _ _ (prepared c.requires.ready c.requires.elements))

pub add_round_key-requires : goal.add_round_key-requires
unfolding masked_encrypt sharing
add_round_key-requires g c =
    let rounds =
    rw (c.rounds.ensures.same_count, c.load-loaded.ensures.shares, c.load-loaded.ensures.key, c.load-loaded.ensures.block) at c.rounds.ensures.went in
    (prepared_next _ (prepared c.requires.ready c.requires.elements) rounds).ready

pub returns-clause-went : goal.returns-clause-went
unfolding masked_encrypt sharing
returns-clause-went g c =
    let rounds =
    rw (c.rounds.ensures.same_count, c.load-loaded.ensures.shares, c.load-loaded.ensures.key, c.load-loaded.ensures.block) at c.rounds.ensures.went in
    (_, went_then _ rounds c.add_round_key.ensures.went, bytes_written c.args.s.count c.add_round_key.new.block c.args.s.few)
