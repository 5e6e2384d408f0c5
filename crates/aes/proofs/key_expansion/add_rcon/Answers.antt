-- `key_expansion::add_rcon` meets its contract.
use mathlib.Core.Path.{ap}
use Prim.Native.Nat.{ℕ}
use Rattle.xor.specs.Xor.{◌⊕◌}
use Rattle.rijndael.specs.Rijndael.{rcon}
use Rattle.rijndael.specs.Strings.{byte_at}
use Rattle.aes.proofs.Runs.{rcon_room, rcon_went}
use Rattle.aes.proofs.key_expansion.add_rcon.Goals as goal

pub record-requires : goal.record-requires
record-requires g c = rcon_room _ _ c.requires

pub returns : goal.returns
unfolding ◌⊕◌ rcon
returns g c =
    rcon_went c.args.r.number c.args.t.now _ (ap (λ (v : ℕ). byte_at c.args.t.now 0 ⊕ v) c.power_of_two.ensures) c.record.ensures
