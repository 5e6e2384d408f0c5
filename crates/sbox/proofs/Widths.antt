-- The layouts: how many powers and products each has, and that the code's program at a layout is that of the definition.
use mathlib.Core.Path.{◌≡◌, refl, sym, ap, ◌∙◌}
use mathlib.Core.List.{List, []}
use Prim.Native.Nat.{ℕ, suc, ◌+◌, ◌-◌, ◌*◌, ◌<◌, ◌≤◌}
use native.Mathlib.Omega.{arith}
use lib.ListN.{length, take, drop}
use Rattle.field.specs.Polynomial.{exponents}
use Rattle.field.proofs.Polynomial.{length_exponents_4, length_exponents_6}
use Rattle.steps.specs.Fill.{tabulate}
use Rattle.steps.specs.Sharing.{share}
use Rattle.steps.proofs.Fill.{length_tabulate, get_d_tabulate}
use Rattle.decomposition.specs.Form.{polynomial_in}
use Rattle.decomposition.specs.Layout.{terms_of, sized, layout, Known, Pair}
use Rattle.decomposition.specs.Record.{basis_of, solution_of}
use Rattle.decomposition.specs.declared.layouts.Layout.{Layout}
use Rattle.decomposition.proofs.Sizes.{each_pair, known_both}
use Rattle.product.specs.ByShare.{nth}
use Rattle.sbox.specs.Sbox.{factors, sbox}
use Rattle.sbox.specs.Form.{basis_size, basis_in, solution_in}
use Rattle.sbox.specs.TableSteps.{Sized, coefficients_at, sbox_rows}
use Rattle.sbox.specs.Operations.{OfPair}
use Rattle.sbox.proofs.TableClasses.{class_of, width_range}
use Rattle.sbox.proofs.Lockstep.{rows_same}

-- the powers are n in each class
powers_made : (n : ℕ) → Known n → n * (1 + length (factors n)) + 1 ≡ length (exponents n)
unfolding factors
powers_made = known_both (λ n. n * (1 + length (factors n)) + 1 ≡ length (exponents n)) (sym length_exponents_4) (sym length_exponents_6)

-- the sizes of a layout, its width being n
module _ {L : Layout} (o : OfPair L) where
  exponents_are : L.exponents ≡ length (exponents L.width)
  unfolding layout sized
  exponents_are = ap (λ (M : Layout). M.exponents) o.layout_is

  pub terms_are : L.terms ≡ terms_of L.width L.outputs
  unfolding layout sized
  terms_are = ap (λ (M : Layout). M.terms) o.layout_is

-- the basis has up to three polynomials
pub basis_few : (n m : ℕ) → Pair n m → (0 < basis_size n m) × (basis_size n m ≤ 3)
unfolding basis_size terms_of
basis_few = each_pair (λ n m. (0 < basis_size n m) × (basis_size n m ≤ 3)) (omega arith) (omega arith) (omega arith)

few_terms : (n m : ℕ) → Pair n m → (n ≡ 4 → terms_of n m ≡ 2) × (0 < terms_of n m) × (terms_of n m ≤ 4)
unfolding terms_of
few_terms =
    each_pair (λ n m. (n ≡ 4 → terms_of n m ≡ 2) × (0 < terms_of n m) × (terms_of n m ≤ 4))
    ((λ e. refl), omega arith, omega arith) ((λ e. absurd (omega arith)), omega arith, omega arith) ((λ e. absurd (omega arith)), omega arith, omega arith)

-- polynomial i of a list of coefficients
listed_at : {e e' : ℕ} (m : ℕ) (l : List ℕ) → e ≡ e' → (i : ℕ) → i < m → coefficients_at e' l (0 + i) ≡ nth (tabulate m (λ i. take e (drop (i * e) l))) i
unfolding coefficients_at
listed_at {e} {e'} m l p i b =
    let same : 0 + i ≡ i = omega arith in
    rw (same, ← p) (sym (get_d_tabulate m (λ i. take e (drop (i * e) l)) i [] b))

module _ {L : Layout} (o : OfPair L) where
  pub some_terms : 0 < L.terms
  some_terms = omega (arith, terms_are o, few_terms L.width L.outputs o.pair)

  -- the number of polynomials in the basis, by width
  basis_4 : L.width ≡ 4 → basis_size L.width L.outputs ≡ 1
  unfolding basis_size
  basis_4 w = omega (arith, (few_terms L.width L.outputs o.pair).0 w)

  basis_6 : basis_size L.width L.outputs ≡ L.terms - 1
  unfolding basis_size
  basis_6 = omega (arith, terms_are o)

  -- the code's sizes of the layout
  sized_as : {n k h : ℕ} → L.width ≡ n → length (exponents n) ≡ k + 1 → basis_size L.width L.outputs ≡ h → Sized k h L
  unfolding basis_size
  sized_as w listed based = record {
    own = exponents_are o ∙ ap (λ (n : ℕ). length (exponents n)) w ∙ listed;
    terms = omega (arith, some_terms, terms_are o, based);
    few = omega (arith, few_terms L.width L.outputs o.pair, based);
  }

  pub sized_4 : L.width ≡ 4 → Sized 8 1 L
  sized_4 w = sized_as w length_exponents_4 (basis_4 w)

  pub sized_6 : L.width ≡ 6 → Sized 18 (L.terms - 1) L
  sized_6 w = sized_as w length_exponents_6 basis_6

  -- the program of the code is that of the definition, where x and y have the same s shares
  pub rows_are_sbox : {n h : ℕ} (k s : ℕ) → L.width ≡ n → length (exponents n) ≡ k + 1 → basis_size L.width L.outputs ≡ h
      → (cs x y : List ℕ) → ((i : ℕ) → i < s → share x i ≡ share y i)
      → sbox_rows n k h s L cs x ≡ sbox L.width s (basis_in L.width L.outputs cs) (solution_in L.width L.outputs cs) y
  unfolding basis_in solution_in basis_size
  rows_are_sbox {n} {h} k s w listed size cs x y same =
      let known : Known n = rw w at o.pair.width in
      let z : Sized k h L = sized_as w listed size in
      let qs = tabulate h (polynomial_in L (basis_of L cs)) in
      let ps = tabulate (suc h) (polynomial_in L (solution_of L cs)) in
      let lq : length qs ≡ h = length_tabulate h (polynomial_in L (basis_of L cs)) in
      let lp : length ps ≡ suc h = length_tabulate (suc h) (polynomial_in L (solution_of L cs)) in
      let range = width_range n known in
      rows_same n s k h L cs qs ps (omega (arith, listed)) lq (omega arith) z.few
      (λ i b. listed_at h (basis_of L cs) z.own i (omega arith)) (λ i b. listed_at (suc h) (solution_of L cs) z.own i (omega arith)) x y
      (omega arith) (omega arith) (class_of n known) (omega (arith, powers_made n known, listed)) same
      ∙ ap (λ (m : ℕ). sbox m s qs ps y) (sym w)
      ∙ rw (← o.layout_is, size) refl

  -- at either width
  pub rows_are_sbox_4 : (s : ℕ) → L.width ≡ 4 → (cs x : List ℕ)
      → sbox_rows 4 8 1 s L cs x ≡ sbox L.width s (basis_in L.width L.outputs cs) (solution_in L.width L.outputs cs) x
  rows_are_sbox_4 s w cs x = rows_are_sbox 8 s w length_exponents_4 (basis_4 w) cs x x (λ i b. refl)

  pub rows_are_sbox_6 : (s : ℕ) → L.width ≡ 6 → (cs x : List ℕ)
      → sbox_rows 6 18 (L.terms - 1) s L cs x ≡ sbox L.width s (basis_in L.width L.outputs cs) (solution_in L.width L.outputs cs) x
  rows_are_sbox_6 s w cs x = rows_are_sbox 18 s w length_exponents_6 basis_6 cs x x (λ i b. refl)
