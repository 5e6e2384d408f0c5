-- Blocks that are written one after the other.
use mathlib.Core.Path.{◌≡◌, sym, ap, ◌∙◌}
use mathlib.Core.List.{List, append-nil}
use Prim.Native.Nat.{ℕ, ◌*◌, ◌/◌}
use native.Mathlib.Omega.{arith}
use lib.ListN.{length, take}
use lib.Seq.{take-length}
use Rattle.xor.specs.Sum.{Small}
use Rattle.steps.specs.Fill.{tabulate}
use Rattle.steps.specs.Bytes.{from_bytes, to_bytes}
use Rattle.steps.specs.ShareBytes.{bytes_at, share_at, shares_of, bytes_of}
use Rattle.steps.proofs.Fill.{tabulate_same}
use Rattle.steps.proofs.Stored.{bytes_of_shares}
use Rattle.steps.proofs.View.{Turned}
use Rattle.layers.proofs.State.{bytes_all}
use Rattle.unshared.specs.Operations.{on_blocks}

-- where each of n blocks is what f makes of that block of another list, all are
pub blocks_turned : (f : ℕ → ℕ) (n : ℕ) (blocks : List ℕ) {start out : List ℕ} → Small 8 out → length out ≡ 8 * n
    → Turned 8 n (λ i. f (share_at 8 blocks i)) n start out → out ≡ on_blocks f n blocks
unfolding on_blocks shares_of
blocks_turned f n blocks {out = out} small e t =
    sym (take-length out) ∙ ap (λ (k : ℕ). take k out) e ∙ sym (bytes_of_shares 8 out small n (omega arith))
    ∙ ap (bytes_of 8) (tabulate_same n (share_at 8 out) (λ i. f (share_at 8 blocks i)) (λ i h. t.passed i h))

-- one block
pub one_block : (f : ℕ → ℕ) (block : List ℕ) → length block ≡ 8 → on_blocks f (length block / 8) block ≡ to_bytes 8 (f (from_bytes block))
unfolding on_blocks tabulate bytes_of share_at
one_block f block e =
    rw e
    (append-nil (to_bytes 8 (f (from_bytes (bytes_at (8 * 0) 8 block))))
    ∙ ap (λ (l : List ℕ). to_bytes 8 (f (from_bytes l))) (rw e at (bytes_all block)))
