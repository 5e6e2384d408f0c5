-- `Powers::value` meets its contract: one pass over the places of the coefficients.
use mathlib.Core.Path.{refl, ◌∙◌}
use Rattle.std.proofs.Common.{rules, arith}
use Rattle.std.proofs.iter.Serving.{serving}
use borrow.Author.Tests.{tests}
use Prim.Native.Nat.{◌+◌, ◌-◌, ◌*◌, ◌<◌}
use lib.ListN.{take, drop, get_or}
use Rattle.std.specs.Prelude.{bit_xor}
use Rattle.decomposition.proofs.Value.{value_fold}
use Rattle.field.specs.Mul.{mul, Narrow}
use Rattle.std.proofs.lemmas.Iterator.{YieldsList-from_range}
use Rattle.std.proofs.lemmas.Iterator.Consumers.{fold_from_yields_List}
use Rattle.decomposition.proofs.Whole.{sizes_of}
use Rattle.decomposition.proofs.polynomial.Powers.value.Goals as goal

pub fold-requires-clause-callable : goal.fold-requires-clause-callable
fold-requires-clause-callable c =
    let z = sizes_of c.args.self.now.sizes in
    let narrow : Narrow c.args.self.now.layout.width = z.width in
    let room : c.args.self.now.layout.exponents < 32 = z.few_exponents in
    grind (serving, narrow, room, c.requires)

pub returns : goal.returns
returns c =
    let p = c.args.self.now in
    let e = p.layout.exponents in
    let first = c.args.i * e in
    let size = first + e - first in
    fold_from_yields_List _ (λ s j. bit_xor s (mul c.args.self.now.layout.width (get_or (take size (drop first c.args.coefficients.now)) j 0) (get_or p.row j 0))) 0 _ c.fold.ensures.ran
    (YieldsList-from_range 0 e e refl (omega arith))
    (λ a x b q k. search (rules, tests))
    ∙ value_fold (sizes_of p.sizes) c.args.coefficients.now c.args.i p.x p.row size (omega arith) p.powers
