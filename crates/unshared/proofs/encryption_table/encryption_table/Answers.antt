-- `encryption_table::encryption_table` meets its contract. One test over all entries is computed: the constant is the list of the values of
-- `quick`, and `quick_encryption` carries it to the rule of each entry.
use Rattle.xor.specs.Xor.{◌⊕◌}
use Rattle.steps.specs.Fill.{tabulate}
use Rattle.present.specs.Present.{table, substitute}
use Rattle.unshared.proofs.Tables.{spread, quick, quick_encryption}
use Rattle.unshared.proofs.encryption_table.encryption_table.Goals as goal

pub returns : goal.returns
unfolding tabulate quick spread substitute table ◌⊕◌
returns c = quick_encryption
