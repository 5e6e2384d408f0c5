-- `join` meets its contract: each test is that of the definition, and the shares are added.
use mathlib.Core.Path.{◌≡◌}
use mathlib.Core.Bool.{true}
use native.Mathlib.Omega.{arith}
use lib.ListN.{length}
use Rattle.refusal.proofs.Range.{one_to_range}
use Rattle.refusal.proofs.Exits.{held, failed}
use Rattle.steps.specs.Operations.{join_lengths, join_outcome}
use Rattle.steps.proofs.Counted.{count_refused, length_refused, counted_done}
use Rattle.steps.proofs.Operations.{join_lengths_lem}
use Rattle.steps.proofs.joining.join.Goals.{In_ok-refuse_unless}
use Rattle.steps.proofs.joining.join.Goals as goal

pub returns-in_err-s : goal.returns-in_err-s
unfolding join_outcome
returns-in_err-s c = count_refused _ _ _ c.from_residual.ensures.1 c.in_err-s.ensures

pub returns-in_err-refuse_unless : goal.returns-in_err-refuse_unless
unfolding join_outcome
returns-in_err-refuse_unless c =
    let lengths = rw c.in_ok-s.ensures.0 at c.lengths_fit.ensures in
    length_refused _ _ _ c.from_residual-in_err-refuse_unless.ensures.1 c.in_ok-s.ensures.1
    (failed _ lengths c.refuse_unless.ensures c.in_err-refuse_unless.was)

-- past the tests
fits : (c : In_ok-refuse_unless) → join_lengths (length c.args.shares.now) c.args.s (length c.args.out.now) ≡ true
fits c = held _ (rw c.in_ok-s.ensures.0 at c.lengths_fit.ensures) c.refuse_unless.ensures c.in_ok-refuse_unless.was

pub add_shares-requires : goal.add_shares-requires
add_shares-requires c =
    let h = join_lengths_lem _ _ _ (fits (goal.at.add_shares-requires c).In_ok-refuse_unless) in
    rw c.in_ok-s.ensures.0 (omega (arith, h.1, one_to_range _ _ h.0))

pub returns : goal.returns
unfolding join_outcome
returns c = counted_done _ _ c.in_ok-s.ensures.1 (fits (goal.at.returns c).In_ok-refuse_unless) (rw c.in_ok-s.ensures.0 at c.add_shares.ensures)
