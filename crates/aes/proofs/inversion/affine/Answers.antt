-- `inversion::affine` meets its contract: it is made share by share.
use borrow.Author.Rules.{rules}
use Rattle.aes.specs.Sbox.{affine as program, affine_share}
use Rattle.aes.proofs.inversion.affine.Goals as goal

pub by_share-requires : goal.by_share-requires
unfolding program
by_share-requires g c =
    let few = c.args.s.few in
    (affine_share c.args.a.now, record { callable = λ i m lt y. search rules; runs = λ i v m n lt r. search rules }, c.requires)

pub returns : goal.returns
unfolding program
returns g c =
    c.by_share.ensures (affine_share c.args.a.now)
    (let few = c.args.s.few in record { callable = λ i m lt y. search rules; runs = λ i v m n lt r. search rules }) c.requires
