-- `Record::form` meets its contract: the products are summed, and the last polynomial is added.
use mathlib.Core.Path.{◌≡◌, refl, ◌∙◌, ap₂}
use Prim.Native.Nat.{ℕ, ◌+◌, ◌-◌, ◌<◌}
use native.Mathlib.Omega.{arith}
use borrow.Author.Tests.{tests}
use Rattle.std.proofs.Common.{rules}
use Rattle.std.proofs.iter.Serving.{serving}
use Rattle.std.proofs.lemmas.Iterator.{YieldsList-from_range}
use Rattle.std.proofs.lemmas.Iterator.Consumers.{fold_from_yields_List}
use Rattle.std.specs.Prelude.{bit_xor}
use Rattle.xor.specs.Sum.{sum_of}
use Rattle.xor.specs.Xor.{◌⊕◌}
use Rattle.xor.proofs.Xor.{⊕-is}
use Rattle.decomposition.specs.Check.{product_in}
use Rattle.decomposition.specs.Form.{form}
use Rattle.decomposition.proofs.Sizes.{block_room}
use Rattle.decomposition.proofs.Value.{fold_sum}
use Rattle.decomposition.proofs.Whole.{sizes_of}
use Rattle.decomposition.proofs.records.Record.form.Goals as goal

pub fold-products-requires-clause-callable : goal.fold-products-requires-clause-callable
fold-products-requires-clause-callable c =
    let within : (i : ℕ) → i < c.args.self.now.layout.terms - 1 → i + 1 < c.args.self.now.layout.terms = λ i h. omega arith in
    grind (serving, within)

pub value-requires : goal.value-requires
value-requires c =
    let z = sizes_of c.args.self.now.sizes in
    let l : c.args.self.now.layout.terms - 1 < c.args.self.now.layout.terms = omega (arith, z.some_terms) in
    rw (c.of-powers.ensures.0, c.solution.ensures.1) (block_room z l)

pub returns : goal.returns
unfolding form
returns c =
    let L = c.args.self.now.layout in
    let product = product_in L c.args.self.now.coefficients.now c.args.x in
    let sum : c.fold-products.result ≡ sum_of (L.terms - 1) product =
    fold_from_yields_List _ (λ s i. bit_xor s (product i)) 0 _ c.fold-products.ensures.ran (YieldsList-from_range 0 (L.terms - 1) (L.terms - 1) refl (omega arith))
    (λ a x b q k. search (rules, tests))
    ∙ fold_sum product (L.terms - 1) in
    ⊕-is c.fold-products.result c.value.result
    ∙ ap₂ ◌⊕◌ sum (rw (c.of-powers.ensures.0, c.of-powers.ensures.1, c.solution.ensures.0) at c.value.ensures)
