-- `permutation::exchange` meets its contract.
use mathlib.Core.Path.{refl}
use Rattle.xor.specs.Xor.{◌⊕◌}
use Rattle.layers.specs.Swap as spec
use Rattle.layers.proofs.permutation.exchange.Goals as goal

pub returns : goal.returns
unfolding spec.exchange spec.difference ◌⊕◌
returns c = refl
