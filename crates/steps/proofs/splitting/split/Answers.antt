-- `split` meets its contract: each test is that of the definition, share 0 is written, and then the masks.
use mathlib.Core.Path.{◌≡◌, ap₂}
use mathlib.Core.Bool.{true}
use mathlib.Core.List.{◌++◌}
use Prim.Native.Nat.{◌+◌, ◌-◌, ◌*◌, ◌≤◌}
use native.Mathlib.Omega.{arith}
use lib.ListN.{length}
use Rattle.refusal.proofs.Exits.{held, failed}
use Rattle.steps.specs.Operations.{split_lengths, split_outcome, split_shares}
use Rattle.steps.proofs.Counted.{count_refused, length_refused, counted_done}
use Rattle.steps.proofs.Operations.{split_fits}
use Rattle.refusal.proofs.Range.{one_to_range}
use Rattle.steps.proofs.splitting.split.Goals.{In_ok-refuse_unless}
use Rattle.steps.proofs.splitting.split.Goals as goal

pub returns-in_err-s : goal.returns-in_err-s
unfolding split_outcome
returns-in_err-s c = count_refused _ _ _ c.from_residual.ensures.1 c.in_err-s.ensures

pub lengths_fit-requires : goal.lengths_fit-requires
lengths_fit-requires c = rw c.in_ok-s.ensures.0 (one_to_range _ _ c.in_ok-s.ensures.1).0

pub returns-in_err-refuse_unless : goal.returns-in_err-refuse_unless
unfolding split_outcome
returns-in_err-refuse_unless c =
    let lengths = rw c.in_ok-s.ensures.0 at c.lengths_fit.ensures in
    length_refused _ _ _ c.from_residual-in_err-refuse_unless.ensures.1 c.in_ok-s.ensures.1
    (failed _ lengths c.refuse_unless.ensures c.in_err-refuse_unless.was)

-- past the tests
passed : (c : In_ok-refuse_unless) → split_lengths (length c.args.value.now) c.args.s (length c.args.masks.now) (length c.args.out.now) ≡ true
passed c = held _ (rw c.in_ok-s.ensures.0 at c.lengths_fit.ensures) c.refuse_unless.ensures c.in_ok-refuse_unless.was

-- the lengths there
fits : (c : In_ok-refuse_unless) → (1 ≤ c.in_ok-s.s.count) × (length c.args.value.now ≤ 16)
    × ((c.in_ok-s.s.count - 1) * length c.args.value.now ≡ length c.args.masks.now)
    × (length c.args.value.now + length c.args.masks.now ≡ length c.args.out.now)
fits c = rw c.in_ok-s.ensures.0 (split_fits c.in_ok-s.ensures.1 (passed c))

pub split_at_mut-first-requires : goal.split_at_mut-first-requires
split_at_mut-first-requires c = let f = fits (goal.at.split_at_mut-first-requires c).In_ok-refuse_unless in omega arith

pub overflow_sub-s : goal.overflow_sub-s
overflow_sub-s c = let f = fits (goal.at.overflow_sub-s c).In_ok-refuse_unless in omega arith

pub first_share-requires : goal.first_share-requires
first_share-requires c = let f = fits (goal.at.first_share-requires c).In_ok-refuse_unless in omega arith

pub copy_masks-requires : goal.copy_masks-requires
copy_masks-requires c = let f = fits (goal.at.copy_masks-requires c).In_ok-refuse_unless in omega arith

pub returns : goal.returns
unfolding split_outcome split_shares
returns c =
    counted_done _ _ c.in_ok-s.ensures.1 (passed (goal.at.returns c).In_ok-refuse_unless)
    (ap₂ ◌++◌ (rw c.in_ok-s.ensures.0 at c.first_share.ensures) c.copy_masks.ensures)
