-- `product::product_of_slices` meets its contract: only the first nine bytes count.
use Rattle.product.proofs.Places.{product_first_nine}
use Rattle.product.proofs.product_of_slices.Goals as goal

pub product-requires : goal.product-requires
product-requires g c =
    rw (c.padded.ensures, c.padded-2.ensures, product_first_nine g.F.Field.WIDTH c.args.s.count c.args.a.now c.args.b.now c.args.s.few) c.requires.ready

pub returns : goal.returns
returns g c =
    rw (c.padded.ensures, c.padded-2.ensures, product_first_nine g.F.Field.WIDTH c.args.s.count c.args.a.now c.args.b.now c.args.s.few) at c.product.ensures
