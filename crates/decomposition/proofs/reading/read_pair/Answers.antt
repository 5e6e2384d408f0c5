-- `reading::read_pair` meets its contract: where the two are a pair, the tests go on by its layout.
use mathlib.Core.List.{List}
use mathlib.Core.Path.{◌≡◌, ◌∙◌, refl}
use Prim.Native.Nat.{ℕ}
use Rattle.decomposition.specs.Layout.{Pair, Sizes, layout}
use Rattle.decomposition.specs.Record.{coefficients_tests, pair_tests}
use Rattle.decomposition.specs.declared.layouts.Layout.{Layout}
use Rattle.decomposition.proofs.Sizes.{layout_4_4, layout_6_4, layout_6_6, pair_6_4, same_pair, sizes}
use Rattle.decomposition.proofs.reading.read_pair.Goals as goal

-- the tests go on by the layout of the pair
goes_on : {n m k j : ℕ} {L : Layout} (head : ℕ) (cs : List ℕ) → n ≡ k → m ≡ j → Pair k j → layout k j ≡ L
    → coefficients_tests L head cs ≡ pair_tests n m head cs
goes_on head cs en em p e = rw (en, em, p.outputs, e) refl

-- its numbers are those of a layout
sizes_at : {n m : ℕ} {L : Layout} → Pair n m → layout n m ≡ L → ∥ Sizes L ∥₁
sizes_at {n} {m} p e = ∣ rw e at (sizes n m p) ∣₁

pub read_at-requires-clause-sizes : goal.read_at-requires-clause-sizes
read_at-requires-clause-sizes c = sizes_at (same_pair 4 refl) layout_4_4

pub read_at-requires-in-6-eq6-clause-sizes : goal.read_at-requires-in-6-eq6-clause-sizes
read_at-requires-in-6-eq6-clause-sizes c = sizes_at (same_pair 6 refl) layout_6_6

pub read_at-requires-in-6-eq4-clause-sizes : goal.read_at-requires-in-6-eq4-clause-sizes
read_at-requires-in-6-eq4-clause-sizes c = sizes_at pair_6_4 layout_6_4

pub returns-in-4-eq4-clause-outcome : goal.returns-in-4-eq4-clause-outcome
returns-in-4-eq4-clause-outcome c = c.read_at.ensures.outcome ∙ goes_on _ _ c.in-4-eq4.is-0 c.in-4-eq4.is-1 (same_pair 4 refl) layout_4_4

pub returns-in-4-eq4-clause-record : goal.returns-in-4-eq4-clause-record
returns-in-4-eq4-clause-record c = rw (c.in-4-eq4.is-0, c.in-4-eq4.is-1, layout_4_4) c.read_at.ensures.record

pub returns-in-6-eq6-clause-outcome : goal.returns-in-6-eq6-clause-outcome
returns-in-6-eq6-clause-outcome c =
    c.read_at-in-6-eq6.ensures.outcome ∙ goes_on _ _ c.in-6-eq6.is-0 c.in-6-eq6.is-1 (same_pair 6 refl) layout_6_6

pub returns-in-6-eq6-clause-record : goal.returns-in-6-eq6-clause-record
returns-in-6-eq6-clause-record c = rw (c.in-6-eq6.is-0, c.in-6-eq6.is-1, layout_6_6) c.read_at-in-6-eq6.ensures.record

pub returns-in-6-eq4-clause-outcome : goal.returns-in-6-eq4-clause-outcome
returns-in-6-eq4-clause-outcome c = c.read_at-in-6-eq4.ensures.outcome ∙ goes_on _ _ c.in-6-eq4.is-0 c.in-6-eq4.is-1 pair_6_4 layout_6_4

pub returns-in-6-eq4-clause-record : goal.returns-in-6-eq4-clause-record
returns-in-6-eq4-clause-record c = rw (c.in-6-eq4.is-0, c.in-6-eq4.is-1, layout_6_4) c.read_at-in-6-eq4.ensures.record
