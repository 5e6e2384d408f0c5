-- The run of Open meets its contract: the state is loaded, the key runs forth, its last round key is added, and the rounds are undone.
use Rattle.steps.specs.ShareBytes.{sharing}
use Rattle.steps.proofs.Parts.{went_then, went_map}
use Rattle.present.specs.Opening.{masked_decrypt}
use Rattle.cipher.proofs.Calls.{bytes_written}
use Rattle.cipher.proofs.Prepared.{prepared, prepared_first, prepared_next}
use Rattle.cipher.proofs.opening.OpeningCiphering472.run.Goals as goal

pub run_key-requires : goal.run_key-requires
unfolding masked_decrypt sharing
run_key-requires g c = rw (c.load-loaded.ensures.shares, c.load-loaded.ensures.key) (prepared_first _ _ (prepared c.requires.ready c.requires.elements))

pub add_round_key-requires : goal.add_round_key-requires
unfolding masked_decrypt sharing
add_round_key-requires g c =
    let key = rw (c.load-loaded.ensures.shares, c.load-loaded.ensures.key) at c.run_key.ensures.went in
    rw c.load-loaded.ensures.block (prepared_first _ _ (prepared_next _ (prepared c.requires.ready c.requires.elements) key)).ready

pub undo_rounds-requires : goal.undo_rounds-requires
unfolding masked_decrypt sharing
undo_rounds-requires g c =
    let key = rw (c.load-loaded.ensures.shares, c.load-loaded.ensures.key) at c.run_key.ensures.went in
    let addition = rw c.load-loaded.ensures.block at c.add_round_key.ensures.went in
    rw c.load-loaded.ensures.shares (prepared_first _ _ (prepared_next _ (prepared_next _ (prepared c.requires.ready c.requires.elements) key) addition))

pub returns-clause-went : goal.returns-clause-went
unfolding masked_decrypt sharing
returns-clause-went g c =
    let key = rw (c.load-loaded.ensures.shares, c.load-loaded.ensures.key) at c.run_key.ensures.went in
    let addition = rw c.load-loaded.ensures.block at c.add_round_key.ensures.went in
    let rounds = rw (c.undo_rounds.ensures.same_count, c.load-loaded.ensures.shares) at c.undo_rounds.ensures.went in
    (_, went_then _ key (went_then _ addition (went_map _ rounds)), bytes_written c.args.s.count c.undo_rounds.new.self.block c.args.s.few)
