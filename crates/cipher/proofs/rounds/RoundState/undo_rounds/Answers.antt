-- `RoundState::undo_rounds` meets its contract: a loop over the rounds, from the last to the first.
use mathlib.Core.Path.{◌≡◌, ◌∙◌}
use Prim.Native.Nat.{ℕ, ◌+◌, ◌-◌, ◌≤◌, ◌<◌}
use native.Mathlib.Omega.{arith}
use Rattle.steps.proofs.Loop.{going_on, gone}
use Rattle.cipher.proofs.Prepared.{prepared_turn}
use Rattle.cipher.proofs.rounds.RoundState.undo_rounds.Goals as goal

-- the turn at r is that of round r - 1
turn : {r : ℕ} → r ≤ 32 → 1 < r → 32 - (33 - r) ≡ r - 1
turn bound begun = omega arith

pub undo_round-requires : goal.undo_round-requires
undo_round-requires g c =
    let same = c.loop-r.invariant.1 in
    rw (same, ← turn c.loop-r.invariant.2 (omega (arith, c.loop-r-test.true))) (prepared_turn (rw same at c.loop-r.invariant.0) c.requires (omega (arith, c.loop-r-test.true)))

pub loop-r-preserved : goal.loop-r-preserved
loop-r-preserved g c =
    let same = c.loop-r.invariant.1 in
    let went = rw (same, ← turn c.loop-r.invariant.2 (omega (arith, c.loop-r-test.true))) at c.undo_round.ensures.went in
    let next : 33 - (c.loop-r.r - 1) ≡ 33 - c.loop-r.r + 1 = omega (arith, c.loop-r.invariant.2, c.loop-r-test.true) in (
      rw next (going_on (rw same at c.loop-r.invariant.0) c.requires.ready (omega (arith, c.loop-r-test.true)) went),
      c.undo_round.ensures.same_count ∙ same,
      omega (arith, c.loop-r.invariant.2),
    )

pub returns-clause-went : goal.returns-clause-went
returns-clause-went g c = gone c.loop-r.invariant.0 (omega (arith, c.loop-r-test.false))
