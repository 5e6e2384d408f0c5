-- What the steps of the tables come to on the machine, and what they ask of it.
use mathlib.Core.Path.{◌≡◌, refl}
use mathlib.Core.List.{List, [], ◌∷◌}
use Prim.Native.Nat.{ℕ, ◌+◌, ◌-◌, ◌*◌, ◌^◌, ◌≤◌, ◌<◌}
use native.Mathlib.Nat.{le_refl, suc-mul, mul-le-mul_right}
use native.Mathlib.Omega.{arith}
use lib.Bits.{bit_xor}
use lib.ListN.{length, get_or, take, drop, length-drop}
use lib.Seq.{take_all}
use Rattle.xor.specs.Xor.{◌⊕◌}
use Rattle.field.specs.Mul.{mul}
use Rattle.field.specs.Polynomial.{exponents}
use Rattle.decomposition.specs.Layout.{Sizes}
use Rattle.decomposition.specs.declared.layouts.Layout.{Layout}
use Rattle.steps.specs.Program.{◌>>=◌, note, for}
use Rattle.steps.specs.Sharing.{share}
use Rattle.steps.specs.Machine.{State, recorded, recorded_all, exec, Ready, Went}
use Rattle.steps.proofs.StepsAlone.{StepsAlone, alone_return, alone_bind, alone_note, alone_for}
use Rattle.product.specs.ByShare.{by_share, nth, square}
use Rattle.sbox.specs.Sbox.{term, polynomial, total}
use Rattle.sbox.specs.TableSteps.{square_row, polynomial_row, add_next, Sized}

-- what so many steps ask of a state
pub record Room (steps : ℕ) (s : State) : Type 0 where
  pub fit : s.counts.steps + steps < 2 ^ 32
  pub places : length s.watch ≡ length s.values

-- the two steps of a term
pub term_runs : (n : ℕ) (cs : List ℕ) (ws : List (List ℕ)) (i r u : ℕ) (s : State) {s' : State} (v : ℕ)
    → v ≡ mul n (get_or cs (r + 1) 0) (share (nth ws r) i)
    → s' ≡ recorded_all (v ∷ bit_xor u v ∷ []) s
    → Went (term n cs ws i r u) s (bit_xor u v) s'
unfolding exec term ◌>>=◌ note recorded_all ◌⊕◌
term_runs n cs ws i r u s v ev e = record { runs = rw (e, ev) refl }

pub term_room : (n : ℕ) (cs : List ℕ) (ws : List (List ℕ)) (i r u : ℕ) {s : State} → Ready (term n cs ws i r u) s → Room 2 s
unfolding exec term ◌>>=◌ note
term_room n cs ws i r u y = record { fit = omega (arith, y.steps_fit); places = y.places }

-- one addition
pub add_runs : (ts : List (List ℕ)) (i j u : ℕ) (s : State) {s' : State} → s' ≡ recorded (bit_xor u (share (nth ts (j + 1)) i)) s
    → Went (add_next ts i j u) s (bit_xor u (share (nth ts (j + 1)) i)) s'
unfolding exec add_next note ◌⊕◌
add_runs ts i j u s e = record { runs = rw e refl }

pub add_room : (ts : List (List ℕ)) (i j u : ℕ) {s : State} → Ready (add_next ts i j u) s → Room 1 s
unfolding exec add_next note
add_room ts i j u y = record { fit = y.steps_fit; places = y.places }

-- ---- parts that take steps alone

square_alone : (n s : ℕ) (a : List ℕ) → StepsAlone (square n s a)
unfolding square by_share
square_alone n s a = alone_for 0 s (λ i c. alone_bind (alone_note _ _) (λ v. alone_return)) _

pub square_rows_alone : (n s a b : ℕ) (t : List (List ℕ)) → StepsAlone (for a b (square_row n s) t)
unfolding square_row
square_rows_alone n s a b t = alone_for a b (λ r t. alone_bind (square_alone n s _) (λ c. alone_return)) t

pub polynomials_alone : (n s e : ℕ) (cs : List ℕ) (ws : List (List ℕ)) (count : ℕ) (t : List (List ℕ)) → StepsAlone (for 0 count (polynomial_row n s e cs ws) t)
unfolding polynomial_row polynomial by_share term
polynomials_alone n s e cs ws count t =
    alone_for 0 count
    (λ j t. alone_bind
    (alone_for 0 s (λ i c. alone_bind (alone_for 0 _ (λ r u. alone_bind (alone_note _ _) (λ v. alone_note _ _)) _) (λ u. alone_return)) _)
    (λ c. alone_return)) t

pub totals_alone : (s : ℕ) (ts : List (List ℕ)) (k : ℕ) → StepsAlone (total s ts k)
unfolding total by_share
totals_alone s ts k = alone_for 0 s (λ i c. alone_bind (alone_for 0 k (λ j u. alone_note _ _) _) (λ v. alone_return)) _

-- ---- rows of a table that is one list of bytes, nine places each

-- row r: the table from there on, of which the first nine places count
abbrev pub table_row : List ℕ → ℕ → List ℕ
table_row t r = drop (9 * r) t

-- a row as a part of the table, lent up to its end
pub row_part : (t : List ℕ) (r : ℕ) → take (length t - 9 * r) (drop (9 * r) t) ≡ table_row t r
row_part t r = take_all (length t - 9 * r) (drop (9 * r) t) (omega (arith, length-drop (9 * r) t))

-- it has nine places
pub row_long : (t : List ℕ) (r : ℕ) → 9 * r + 9 ≤ length t → 9 ≤ length (take (length t - 9 * r) (drop (9 * r) t))
row_long t r h = rw (row_part t r, length-drop (9 * r) t) (omega arith)

-- ---- sizes

-- a polynomial has a term for each power
pub as_many_terms : (n : ℕ) {k : ℕ} → length (exponents n) ≡ k + 1 → length (exponents n) - 1 ≡ k
as_many_terms n e = omega (arith, e)

-- polynomial j of k + 1 coefficients ends within those of q, where j is below q
pub place_within : (k : ℕ) {j q l : ℕ} → j < q → q * (k + 1) ≤ l → j * (k + 1) + k < l
place_within k {j} {q} h e = omega (arith, mul-le-mul_right (k + 1) h, suc-mul j (k + 1))

-- the polynomials of the basis lie within it, and those of the p within theirs
module _ {k h : ℕ} {L : Layout} (z : Sizes L) (e : Sized k h L) where
  pub solution_room : (h + 1) * (k + 1) ≤ L.unknowns
  solution_room = rw (z.unknowns, e.own, e.terms) (le_refl ((h + 1) * (k + 1)))

  pub basis_room : h * (k + 1) ≤ L.basis
  basis_room = omega (arith, z.basis, z.unknowns, e.own, solution_room, suc-mul h (k + 1))
