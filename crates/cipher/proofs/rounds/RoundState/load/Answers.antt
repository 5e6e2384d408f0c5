-- `RoundState::load` meets its contract.
use native.Mathlib.Omega.{arith}
use Rattle.steps.proofs.View.{sharing_padded, zero_padded}
use Rattle.cipher.proofs.rounds.RoundState.load.Goals as goal

pub invariant_of-result-2 : goal.invariant_of-result-2
invariant_of-result-2 c =
    record {
      zero_past = record {
        key_zero = rw c.padded-2.ensures (zero_padded 10 c.args.shares.count 90 c.args.key.now (omega arith));
        block_zero = rw c.padded.ensures (zero_padded 8 c.args.shares.count 72 c.args.block.now (omega arith));
      };
    }

pub returns-clause-key : goal.returns-clause-key
returns-clause-key c = rw c.padded-2.ensures (sharing_padded 10 c.args.shares.count 90 c.args.key.now)

pub returns-clause-block : goal.returns-clause-block
returns-clause-block c = rw c.padded.ensures (sharing_padded 8 c.args.shares.count 72 c.args.block.now)
