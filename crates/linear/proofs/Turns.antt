-- The turns of the loops: what one turn does to the matrix in a memory.
use mathlib.Core.Path.{◌≡◌, refl, sym, ap, ap₂, ◌∙◌}
use Prim.Native.Nat.{ℕ, ◌+◌, ◌*◌, ◌<◌}
use native.Mathlib.Decide.{ℕ_discrete}
use native.Mathlib.Nat.{le_refl}
use native.Mathlib.Omega.{arith}
use Rattle.linear.specs.Buffer.{in_rows, Written}
use Rattle.linear.specs.Elimination.{RowAdded, Cleared}
use Rattle.linear.specs.Row.{Agree, plus, times}
use Rattle.linear.specs.Scalars.{Scalars}
use Rattle.linear.specs.System.{Elements}
use Rattle.linear.proofs.Buffer.{overwritten_other, overwritten_row, overwritten_values}
use Rattle.linear.proofs.RowOperations.{Scaled}

-- row r takes up a multiple of row p
pub added_row : {S : Scalars} {f₀ f : ℕ → ℕ} (m w x r p : ℕ) → (p ≡ r → ⊥)
    → Written f₀ f (r * w) w (plus S (in_rows w f₀ r) (times S x (in_rows w f₀ p))) → RowAdded S m w x r p (in_rows w f₀) (in_rows w f)
added_row m w x r p n u = record { row = λ _. overwritten_row w r u; itself = λ e. absurd (n e); others = λ i l g. overwritten_other w r i u g }

-- the same, by values that agree with the multiple
pub added_multiple : {S : Scalars} {f₀ f v : ℕ → ℕ} (m w x r p : ℕ) → (p ≡ r → ⊥) → Agree w v (times S x (in_rows w f₀ p))
    → Written f₀ f (r * w) w (plus S (in_rows w f₀ r) v) → RowAdded S m w x r p (in_rows w f₀) (in_rows w f)
added_multiple {S} {f₀} m w x r p n a u = added_row m w x r p n (overwritten_values u (λ k h. ap (S.add (in_rows w f₀ r k)) (a.at k h)))

-- row p itself is passed over
pub added_itself : {S : Scalars} {x r p : ℕ} (m w : ℕ) (M : ℕ → ℕ → ℕ) → p ≡ r → RowAdded S m w x r p M M
added_itself m w M e =
    record { row = λ n. absurd (n e); itself = λ _. record { at = λ j l. refl }; others = λ i l g. record { at = λ j b. refl } }

-- row r is scaled
pub scaled_row : {S : Scalars} {f₀ f : ℕ → ℕ} (m w r x : ℕ) → Written f₀ f (r * w) w (times S x (in_rows w f₀ r))
    → Scaled S m w r x (in_rows w f₀) (in_rows w f)
scaled_row m w r x u = record { row = overwritten_row w r u; others = λ i l g. overwritten_other w r i u g }

-- one more row is cleared, or it is row r itself
pub cleared_more : {S : Scalars} {m w c r i : ℕ} {M N O : ℕ → ℕ → ℕ} → c < w → i < m → r < m → Cleared S m w c r i M N → RowAdded S m w (N i c) i r N O
    → Cleared S m w c r (i + 1) M O
cleared_more {S} {m} {w} {c} {r} {i} {M} {N} {O} cw im rm x u = record {
  kept = elim (ℕ_discrete r i) [
    | yes e ↦ record { at = λ k b. rw e ((u.itself e).at k b) ∙ x.kept.at k b }
    | no n ↦ record { at = λ k b. (u.others r rm n).at k b ∙ x.kept.at k b }
  ];
  cleared = λ j b ne. elim (ℕ_discrete j i) [
    | yes e ↦ record {
      at = λ k kw. rw e
          ((u.row (λ z. ne (e ∙ sym z))).at k kw ∙ ap₂ S.add (same.at k kw) (ap₂ S.mul (same.at c cw) (x.kept.at k kw)));
    }
    | no g ↦ record { at = λ k kw. (u.others j (omega arith) g).at k kw ∙ (x.cleared j (omega arith) ne).at k kw }
  ];
  rest = λ j g b. record { at = λ k kw. (u.others j b (λ e. omega arith)).at k kw ∙ (x.rest j (omega arith) b).at k kw };
}
  where
    same : Agree w (N i) (M i)
    same = x.rest i (le_refl i) im

-- a row whose turn it is has the entries that it had at first
pub entry_before : {S : Scalars} {m w c r i : ℕ} {M N : ℕ → ℕ → ℕ} → Elements S m w M → i < m → c < w → Cleared S m w c r i M N → N i c < S.size
entry_before {i = i} el im cw x = rw ((x.rest i (le_refl i) im).at _ cw) ((el.at i im).at _ cw)
