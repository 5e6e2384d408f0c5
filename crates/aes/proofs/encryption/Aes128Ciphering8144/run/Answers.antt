-- The run of AES block meets its contract: the key expansion, and the rounds.
use native.Mathlib.Omega.{arith}
use Prim.Native.Nat.{◌*◌}
use Rattle.steps.proofs.Parts.{ready_first, ready_next, went_then}
use Rattle.rijndael.specs.Masked.{masked_encrypt}
use Rattle.aes.specs.Operations.{call_program}
use Rattle.aes.proofs.Fills.{first_bytes}
use Rattle.aes.proofs.Calls.{zero_past}
use Rattle.aes.proofs.encryption.Aes128Ciphering8144.run.Goals as goal

pub expand-schedule-requires : goal.expand-schedule-requires
unfolding call_program masked_encrypt
expand-schedule-requires g c = rw c.load.ensures (ready_first _ _ c.requires.ready)

pub cipher-requires : goal.cipher-requires
unfolding call_program masked_encrypt
cipher-requires g c =
    rw c.load-2.ensures (ready_next _ c.requires.ready (rw c.load.ensures at c.expand-schedule.ensures))

pub returns : goal.returns
unfolding call_program masked_encrypt
returns g c =
    let s = c.args.s.count in
    let lengths = c.requires.lengths in
    let went = went_then _ (rw c.load.ensures at c.expand-schedule.ensures) (rw c.load-2.ensures at c.cipher.ensures) in
    record {
      went = (_, went, λ h. first_bytes (16 * s) c.cipher.result);
      zero_past = zero_past s lengths.0 c.args.s.few _ _ lengths.1 lengths.2 (λ j. omega (arith, c.type_inv.key j)) (λ j. omega (arith, c.type_inv.block j))
          c.requires.elements went;
    }
