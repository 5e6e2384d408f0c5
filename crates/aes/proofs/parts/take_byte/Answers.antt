-- `parts::take_byte` meets its contract: it is a layer.
use mathlib.Core.List.{[]}
use Prim.Native.Nat.{◌/◌}
use Rattle.rijndael.specs.Strings.{place_of, make_shares, take_at}
use Rattle.aes.proofs.parts.take_byte.Goals as goal

pub returns : goal.returns
unfolding make_shares
returns g c = c.make_shares.ensures (place_of (g.row.N / 9) 0 1 (take_at c.args.j) c.args.a.now []) (λ p v h r. r)
