-- `draw_count` of Open meets its contract: opening is right.
use Rattle.cipher.proofs.Calls.{right_on_bytes}
use Rattle.cipher.proofs.OpenTheorems.{opened_right}
use Rattle.cipher.proofs.opening.OpeningCiphering472.draw_count.Goals as goal

pub returns-clause-right : goal.returns-clause-right
returns-clause-right c = λ some.
    right_on_bytes _ _ _ (opened_right _ _ c.args.self.now.sealing.nibble_box.small c.args.self.now.sealing.realizes c.args.self.now.inverse.small c.args.self.now.realizes
    c.args.s.count some c.args.s.few)
