-- `decryption_table::decryption_table` meets its contract. One test over all entries is computed: the constant is the list of the values of
-- `quick`, and `quick_decryption` carries it to the rule of each entry.
use Rattle.xor.specs.Xor.{◌⊕◌}
use Rattle.steps.specs.Fill.{tabulate}
use Rattle.present.specs.Decrypt.{inverse_table, unsubstitute}
use Rattle.unshared.proofs.Tables.{spread, quick, quick_decryption}
use Rattle.unshared.proofs.decryption_table.decryption_table.Goals as goal

pub returns : goal.returns
unfolding tabulate quick spread unsubstitute inverse_table ◌⊕◌
returns c = quick_decryption
