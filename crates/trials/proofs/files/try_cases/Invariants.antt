-- No more cases agree than have been tried.
use Rattle.std.proofs.Common.{◌≤◌}
use Rattle.trials.proofs.files.try_cases.Given as goal

abbrev pub invariant-loop-case : goal.invariant-loop-case
invariant-loop-case g l = l.agreed ≤ l.case-counter
