-- `total` meets its contract: it is made share by share.
use mathlib.Core.List.{List}
use Prim.Native.Nat.{ℕ}
use borrow.Author.Rules.{rules}
use Rattle.steps.specs.Program.{Run, for}
use Rattle.steps.specs.Sharing.{share}
use Rattle.product.specs.ByShare.{nth}
use Rattle.sbox.specs.Sbox as sbox
use Rattle.sbox.specs.TableSteps as spec
use Rattle.sbox.proofs.product_rows.total.Goals as goal

-- share i
abbrev total_in : List (List ℕ) → ℕ → ℕ → Run ℕ
total_in terms h i = for 0 h (spec.add_next terms i) (share (nth terms 0) i)

pub by_share-requires : goal.by_share-requires
unfolding sbox.total spec.add_next
by_share-requires g c =
    let few = c.args.s.few in
    (total_in c.args.terms.now c.args.h, record { callable = λ i m lt y. search rules; runs = λ i v m n lt r. search rules }, c.requires.ready)

pub returns : goal.returns
unfolding sbox.total spec.add_next
returns g c =
    let few = c.args.s.few in
    c.by_share.ensures (total_in c.args.terms.now c.args.h)
    (record { callable = λ i m lt y. search rules; runs = λ i v m n lt r. search rules }) c.requires.ready
