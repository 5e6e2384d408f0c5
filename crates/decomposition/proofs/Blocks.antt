-- How the equations over bits come to lie in the work, block by block.
use mathlib.Core.List.{List}
use mathlib.Core.Path.{◌≡◌, refl, sym, ap, ap₂, subst, ◌∙◌}
use Prim.Native.Nat.{ℕ, ◌+◌, ◌-◌, ◌*◌, ◌/◌, ◌%◌, ◌^◌, ◌≤◌, ◌<◌}
use native.Mathlib.Decide.{ℕ_discrete, dec_lt}
use native.Mathlib.Nat.{le_refl, mul_assoc, add-zero, zero-add, div-lt_iff_lt-mul, mul-le-mul_right}
use native.Mathlib.Numerals.{add-one}
use native.Mathlib.Omega.{arith}
use Rattle.field.specs.Mul.{double, mul}
use Rattle.field.specs.Power.{Field}
use Rattle.field.proofs.Inverses.{field_of}
use Rattle.field.proofs.Turns.{narrow_width}
use Rattle.field.specs.Loop.{doubled}
use Rattle.field.proofs.Ring.{doubled_double, mul_doubled, mul_one}
use Rattle.linear.specs.Bits.{bit, row_of}
use Rattle.linear.specs.Packed.{bit_cell}
use Rattle.linear.specs.Buffer.{in_rows, Written}
use Rattle.linear.proofs.Bitwise.{place_bit, place_element, row_of_place}
use Rattle.linear.proofs.Buffer.{row_room}
use Rattle.linear.proofs.Packed.{written_elsewhere, written_here}
use Rattle.decomposition.specs.Equations.{BitRows, BlockWritten, bit_system, equation, system}
use Rattle.decomposition.specs.Form.{unknown_column}
use Rattle.decomposition.specs.Layout.{Sizes}
use Rattle.decomposition.specs.declared.layouts.Layout.{Layout}
use Rattle.decomposition.proofs.Columns.{equation_column, equation_right}

pub block_none : (w : ℕ) (M : ℕ → ℕ → ℕ) (row m c : ℕ) (G : ℕ → ℕ → ℕ) → BlockWritten w M M row m c 0 G
block_none w M row m c G = record { new = λ b j hb l g. absurd (omega arith); left = λ i j h. refl; above = λ i j h g. refl }

-- two blocks side by side
pub block_join : {w : ℕ} {M₀ M N : ℕ → ℕ → ℕ} {row m c k : ℕ} {G : ℕ → ℕ → ℕ} (d e : ℕ) → BlockWritten w M₀ M row m c k G → d ≡ c + k
    → BlockWritten w M N row m d e G → BlockWritten w M₀ N row m c (k + e) G
block_join {c = c} {k = k} d e x q y = record {
  new = λ b j hb l g. elim (dec_lt j (c + k)) [
    | yes h ↦ y.left _ j (omega arith) ∙ x.new b j hb l h
    | no h ↦ y.new b j hb (omega arith) (omega arith)
  ];
  left = λ i j h. y.left i j (omega arith) ∙ x.left i j h;
  above = λ i j h g. y.above i j h g ∙ x.above i j h g;
}

-- the same entries by another name
pub block_values : {w : ℕ} {M₀ M : ℕ → ℕ → ℕ} {row m c k : ℕ} {G : ℕ → ℕ → ℕ} (H : ℕ → ℕ → ℕ) → BlockWritten w M₀ M row m c k G
    → ((b j : ℕ) → b < m → c ≤ j → j < c + k → G b j ≡ H b j) → BlockWritten w M₀ M row m c k H
block_values H x h = record { new = λ b j hb l g. x.new b j hb l g ∙ h b j hb l g; left = x.left; above = x.above }

-- no row of a column
pub block_start : (w : ℕ) (M : ℕ → ℕ → ℕ) (row c k : ℕ) (G : ℕ → ℕ → ℕ) → BlockWritten w M M row 0 c k G
block_start w M row c k G = record { new = λ b j hb l g. absurd (omega arith); left = λ i j h. refl; above = λ i j h g. refl }

-- ---- one column

-- a bit that is put into row i at column c leaves the others as they were
module _ {f₀ f : ℕ → ℕ} {v : ℕ} (w i c : ℕ) (cw : c < w) (u : Written f₀ f (i * w + c) 1 (λ j. v)) where
  pub cell_other : (k j : ℕ) → j < w → (k ≡ i → j ≡ c → ⊥) → in_rows w f k j ≡ in_rows w f₀ k j
  cell_other k j jw n = written_elsewhere u refl (k * w + j) (λ e. n
      (sym (place_element w k j jw) ∙ ap (λ (x : ℕ). x / w) e ∙ place_element w i c cw)
      (sym (place_bit w k j jw) ∙ ap (λ (x : ℕ). x % w) e ∙ place_bit w i c cw))

-- one row more
pub column_more : (f₀ f : ℕ → ℕ) {f' : ℕ → ℕ} (w row b c v : ℕ) → c < w → BlockWritten w (in_rows w f₀) (in_rows w f) row b c 1 (λ k j. bit k v)
    → Written f f' ((row + b) * w + c) 1 (λ j. bit b v) → BlockWritten w (in_rows w f₀) (in_rows w f') row (b + 1) c 1 (λ k j. bit k v)
column_more f₀ f {f'} w row b c v cw x u = record {
  new = λ k j hk l g. elim (ℕ_discrete k b) [
    | yes e ↦ let q : j ≡ c = omega arith in rw (e, q) (written_here u refl)
    | no n ↦ let q : j ≡ c = omega arith in
        cell_other w (row + b) c cw u (row + k) j (omega arith) (λ e z. n (omega arith)) ∙ x.new k j (omega arith) l g
  ];
  left = λ i j h. cell_other w (row + b) c cw u i j (omega arith) (λ e z. omega arith) ∙ x.left i j h;
  above = λ i j h g. cell_other w (row + b) c cw u i j g (λ e z. omega arith) ∙ x.above i j h g;
}

-- a bit of row i, from the row's first byte on
pub row_put : {f₀ f : ℕ → ℕ} {v : ℕ → ℕ} (s i c : ℕ) → Written f₀ f (i * s * 8 + c) 1 v → Written f₀ f (i * (s * 8) + c) 1 v
row_put {f₀} {f} {v} s i c u = subst (λ (a : ℕ). Written f₀ f (a + c) 1 v) (mul_assoc i s 8) u

-- ---- one unknown

-- its column at bit i is that of v, doubled i times
pub unknown_bit : (n k i v b : ℕ) (r : ℕ → ℕ) → i < n → r k ≡ v → bit b (doubled n i v) ≡ row_of n b r (k * n + i)
unknown_bit n k i v b r h e =
    ap (bit b) (sym (mul_doubled n v i h) ∙ ap (λ (y : ℕ). mul n y (2 ^ i)) (sym e)) ∙ sym (row_of_place n b r k i h)

-- doubled once more
pub doubled_more : (n i v x y : ℕ) → x ≡ doubled n i v → y ≡ double n x → y ≡ doubled n (i + 1) v
unfolding doubled
doubled_more n i v x y e g = g ∙ ap (double n) e ∙ sym (doubled_double n i v) ∙ ap (λ (k : ℕ). doubled n k v) (sym (add-one i))

-- the right side
pub right_bit : {n : ℕ} → Field n → (u v b : ℕ) (r : ℕ → ℕ) → r u ≡ v → bit b v ≡ row_of n b r (u * n)
right_bit {n} f u v b r e =
    let h : 0 < n = let q = f.ring.wide in omega arith in
    ap (bit b) (sym (mul_one f.ring v) ∙ ap (λ (y : ℕ). mul n y (2 ^ 0)) (sym e)) ∙ sym (row_of_place n b r u 0 h)
    ∙ ap (row_of n b r) (add-zero (u * n))

-- the columns and the right side of the equations at an input
pub input_block : {L : Layout} → Sizes L → (basis : List ℕ) (x v w : ℕ) {M₀ M N : ℕ → ℕ → ℕ} {row m : ℕ}
    → BlockWritten w M₀ M row m 0 (L.unknowns * L.width) (λ b. row_of L.width b (unknown_column L basis x))
    → BlockWritten w M N row m (L.unknowns * L.width) 1 (λ b j. bit b v)
    → BlockWritten w M₀ N row m 0 (L.unknowns * L.width + 1) (λ b. row_of L.width b (equation L basis x v))
input_block {L} z basis x v w a c =
    let n = L.width in
    let u = L.unknowns in
    let np : 0 < n = omega (arith, z.some_outputs, z.few_outputs) in
    let E : ℕ → ℕ = equation L basis x v in
    block_join (u * n) 1
    (block_values (λ b. row_of n b E) a (λ b j hb l g. ap (λ (y : ℕ). bit b (mul n y (2 ^ (j % n))))
    (sym (equation_column L basis x v (j / n) ((div-lt_iff_lt-mul np).1 (omega arith))))))
    (sym (zero-add (u * n)))
    (block_values (λ b. row_of n b E) c (λ b j hb l g.
    let e : u * n ≡ j = omega arith in
    right_bit (field_of n (narrow_width n z.width)) u v b E (equation_right L basis x v) ∙ ap (row_of n b E) e))

-- ---- the rows

-- the rows of an input lie within the work
pub rows_room : (m s : ℕ) {x R l : ℕ} → x < R → R * m * s ≤ l → (x * m + m) * s ≤ l
rows_room m s {x} {R} h r = omega (arith, mul-le-mul_right s (row_room m h (le_refl (R * m))))

-- no row is there yet
pub bit_rows_none : (L : Layout) (table basis l : List ℕ) → BitRows L table basis 0 l
bit_rows_none L table basis l = record { row = λ i h. absurd (omega arith) }

-- one input more
pub bit_rows_more : (L : Layout) (x : ℕ) (table basis l l' : List ℕ) → L.unknowns * L.width < L.stride * 8
    → BitRows L table basis (x * L.outputs) l
    → BlockWritten (L.stride * 8) (bit_cell L.stride l) (bit_cell L.stride l') (x * L.outputs) L.outputs 0 (L.unknowns * L.width + 1)
    (λ b. row_of L.width b (system L table basis x)) → BitRows L table basis (x * L.outputs + L.outputs) l'
bit_rows_more L x table basis l l' room r y = record {
  row = λ i h. elim (dec_lt i (x * L.outputs)) [
    | yes g ↦ record { at = λ j k. y.above i j g (omega arith) ∙ (r.row i g).at j k }
    | no g ↦
        let b : ℕ = i - x * L.outputs in
        let e : x * L.outputs + b ≡ i = omega arith in
        let hb : b < L.outputs = omega arith in
        record {
          at = λ j k.
              ap (λ (t : ℕ). bit_cell L.stride l' t j) (sym e)
              ∙ y.new b j hb (omega arith) (omega arith)
              ∙ ap₂ (λ (s t : ℕ). row_of L.width s (system L table basis t) j) (sym (place_bit L.outputs x b hb)) (sym (place_element L.outputs x b hb))
              ∙ ap (λ (t : ℕ). bit_system L table basis t j) e;
        }
  ];
}
