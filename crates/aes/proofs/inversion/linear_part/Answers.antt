-- `inversion::linear_part` meets its contract: rotations, each added.
use borrow.Author.Rules.{rules}
use Rattle.aes.proofs.Places.{linear_by_rotations}
use Rattle.aes.proofs.inversion.linear_part.Goals as goal

pub returns : goal.returns
returns c =
    rw (c.rotate_left.ensures, c.rotate_left-2.ensures, c.rotate_left-3.ensures, c.rotate_left-4.ensures) (linear_by_rotations c.args.v (search rules))
