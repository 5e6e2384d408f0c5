-- `Record::first_difference` meets its contract: the search goes by the test of the definition.
use mathlib.Core.Path.{◌≡◌, refl}
use Prim.Native.Nat.{ℕ, ◌≤◌, ◌<◌, ◌%◌}
use Rattle.std.proofs.Common.{rules, tests}
use Rattle.std.proofs.iter.Serving.{serving}
use Rattle.std.proofs.lemmas.Iterator.{first_from_Range}
use lib.ListN.{get_or}
use Rattle.decomposition.specs.Check.{form_in}
use Rattle.decomposition.proofs.Differences.{difference_found}
use Rattle.decomposition.proofs.Sizes.{entries_few, some_entries}
use Rattle.decomposition.proofs.Whole.{sizes_of}
use Rattle.decomposition.proofs.records.Record.first_difference.Goals as goal

pub find-requires-clause-callable : goal.find-requires-clause-callable
find-requires-clause-callable c =
    let L = c.args.self.now.layout in
    let z = sizes_of c.args.self.now.sizes in
    let few : L.entries ≤ L.inputs = entries_few z in
    let some : 0 < L.entries = some_entries z in
    let byte : L.inputs < 256 = z.byte in
    grind (serving, few, some, byte)

pub returns : goal.returns
returns c =
    let L = c.args.self.now.layout in
    let output = λ (x : ℕ). form_in L c.args.self.now.coefficients.now x % L.entries in
    difference_found output c.args.table.now c.find.result refl
    (first_from_Range _ _ _ c.find.result (λ x. output x ≡ get_or c.args.table.now x 0 → ⊥) (λ x. output x ≡ get_or c.args.table.now x 0) c.find.ensures.ran
    (λ x q k. search (rules, tests)) (λ x q k. search (rules, tests)))
