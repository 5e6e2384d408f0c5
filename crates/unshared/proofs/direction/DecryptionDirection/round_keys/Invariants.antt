-- `round_keys` meets its contract. The invariant: the inverse permutation has met so many keys.
use mathlib.Core.Path.{◌≡◌}
use lib.ListN.{get_or}
use Rattle.steps.specs.Fill.{fill}
use Rattle.present.specs.Decrypt.{unpermute}
use Rattle.unshared.proofs.direction.DecryptionDirection.round_keys.Given as goal

abbrev pub invariant-loop-k : goal.invariant-loop-k
invariant-loop-k l = l.k-items ≡ fill l.k-index (λ j. unpermute (get_or l.initial.k-items j 0)) l.initial.k-items
