-- `Field::twice` meets its contract.
use mathlib.Core.Path.{refl}
use Rattle.xor.specs.Xor.{◌⊕◌}
use Rattle.field.proofs.Turns.{double_by_top, double_byte}
use Rattle.field.proofs.Field.twice.Goals as goal

pub returns : goal.returns
unfolding ◌⊕◌
returns g c =
    let doubled =
    double_by_top g.Self.Field.WIDTH g.Self.Field.TOP g.Self.Field.REDUCTION c.args.a g.Self.Field.known g.Self.Field.top g.Self.Field.reduced in
    rw (c.TOP-2.ensures, c.REDUCTION.ensures, c.TOP.ensures, doubled)
    record { doubled = refl; byte = double_byte g.Self.Field.WIDTH c.args.a g.Self.Field.known }
