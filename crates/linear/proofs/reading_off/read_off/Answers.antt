-- `linear::read_off` meets its contract.
use mathlib.Core.List.{List}
use mathlib.Core.Path.{◌≡◌, refl, ap, ◌∙◌}
use Prim.Native.Nat.{ℕ}
use lib.ListN.{length, replicate}
use Rattle.std.proofs.Common.{rules}
use Rattle.linear.specs.Shape.{cells}
use Rattle.linear.proofs.Packed.{zero_small}
use Rattle.linear.proofs.ReadOff.{read_off_start}
use Rattle.linear.proofs.reading_off.read_off.Goals as goal

pub loop-row-init : goal.loop-row-init
loop-row-init g c =
    let s = g.M.Matrix.shape c.args.system in
    let n = length c.args.out.now in
    let zeros : c.fill.new.self ≡ replicate n 0 = search rules in (
      refl,
      record {
        read = read_off_start (cells s c.args.matrix.now) s.unknowns (s.solution c.fill.new.self)
            (λ k l. ap (λ (t : List ℕ). s.solution t k) zeros ∙ (g.M.Matrix.laws c.args.system).none n k);
        small = zero_small s.width n zeros;
      },
    )
