-- `linear_parts::round_number` meets its contract.
use Rattle.present.specs.Present.{size80}
use Rattle.steps.proofs.View.{share_sharing}
use Rattle.cipher.proofs.Runs.{number_ready, number_went}
use Rattle.cipher.proofs.linear_parts.round_number.Goals as goal

pub record_nibbles-requires-clause-ready : goal.record_nibbles-requires-clause-ready
record_nibbles-requires-clause-ready g c =
    number_ready size80 c.args.r.number _ _ _ c.requires c.add_round_number.ensures.key_after
    (share_sharing 10 c.args.s.shares.count _ 0 c.args.s.shares.few c.args.s.some)

pub returns-clause-went : goal.returns-clause-went
returns-clause-went g c =
    number_went size80 c.args.r.number _ _ _ c.record_nibbles.ensures c.add_round_number.ensures.key_after
    (share_sharing 10 c.args.s.shares.count _ 0 c.args.s.shares.few c.args.s.some)
