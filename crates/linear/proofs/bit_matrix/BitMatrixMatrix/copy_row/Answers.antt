-- `linear::copy_row` meets its contract: 0 and 1 times the row.
use mathlib.Core.Path.{◌≡◌}
use Prim.Native.Nat.{ℕ, ◌<◌}
use lib.ListN.{length, replicate}
use Rattle.std.proofs.Common.{rules}
use Rattle.std.proofs.lemmas.List.{places}
use Rattle.linear.specs.Buffer.{bytes, cell}
use Rattle.linear.proofs.Packed.{multiples_copied}
use Rattle.linear.proofs.bit_matrix.BitMatrixMatrix.copy_row.Goals as goal

pub returns : goal.returns
returns g c =
    let s = g.row.STRIDE in
    let zeros : c.fill.new.self ≡ replicate s 0 = search rules in
    let whole : length c.copy_from_slice.new.self ≡ s = search (rules, places) in
    let same : (j : ℕ) → j < s → bytes c.copy_from_slice.new.self j ≡ cell s c.args.matrix.now c.args.row j = λ j h. search (rules, places) in
    record {
      multiple = multiples_copied s c.args.copy.now c.fill.new.self c.copy_from_slice.new.self c.args.matrix.now c.args.row
          c.args.self.room.1 c.requires.1 zeros whole same;
    }
