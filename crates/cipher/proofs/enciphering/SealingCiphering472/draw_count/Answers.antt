-- `draw_count` of Block meets its contract: sealing is right.
use Rattle.cipher.proofs.Calls.{right_on_bytes}
use Rattle.cipher.proofs.Theorems.{sealed_right}
use Rattle.cipher.proofs.enciphering.SealingCiphering472.draw_count.Goals as goal

pub returns-clause-right : goal.returns-clause-right
returns-clause-right c = λ some.
    right_on_bytes _ _ _ (sealed_right _ c.args.self.now.nibble_box.small c.args.self.now.realizes c.args.s.count some c.args.s.few)
