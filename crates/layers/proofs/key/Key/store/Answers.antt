-- `Key::store` meets its contract: each part is written.
use mathlib.Core.Path.{◌≡◌, ap₂, ◌∙◌}
use Prim.Native.Nat.{ℕ, ◌+◌, ◌*◌, ◌^◌}
use native.Mathlib.Omega.{arith}
use borrow.Author.Rules.{rules}
use lib.ListN.{length}
use Rattle.layers.proofs.State.{from_both, from_written, two_written}
use Rattle.layers.proofs.key.Key.store.Goals as goal

pub returns : goal.returns
returns c =
    let low : length c.copy_from_slice.new.self ≡ 2 = omega arith in
    from_both c.write_u64.new.bytes c.copy_from_slice.new.self
    ∙ rw low
    (ap₂ (λ (t u : ℕ). t * 2 ^ 16 + u) (from_written 8 _ _ c.write_u64.ensures (omega arith) (search rules))
    (from_written 2 _ _ (c.copy_from_slice.ensures.after ∙ c.to_be_bytes.ensures ∙ two_written c.args.self.low) low (search rules)))
