-- `shares::add_round_number` meets its contract.
use Rattle.present.specs.Present as present
use Rattle.steps.proofs.View.{changed_alone}
use Rattle.layers.proofs.shares.add_round_number.Goals as goal

pub returns-clause-key_after : goal.returns-clause-key_after
returns-clause-key_after c =
    changed_alone c.args.s.count (present.round_number present.size80 c.args.r.number) c.requires c.args.s.few c.add_number.ensures
