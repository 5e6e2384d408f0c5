-- `draw_count` of AES block meets its contract: the masked block is right.
use Rattle.aes.proofs.Calls.{block_right}
use Rattle.aes.proofs.encryption.Aes128Ciphering8144.draw_count.Goals as goal

pub returns-clause-right : goal.returns-clause-right
returns-clause-right c = λ some. block_right c.args.s.count some c.args.s.few
