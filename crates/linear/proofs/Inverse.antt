-- Equations whose columns have a right inverse have a solution for each right side.
use mathlib.Core.Path.{◌≡◌, refl, ap, ap₂, ◌∙◌}
use Prim.Native.Nat.{ℕ, zero, suc, ◌<◌}
use native.Mathlib.Nat.{le_refl}
use native.Mathlib.Omega.{arith}
use Rattle.linear.specs.Row.{RowElements, dot, times}
use Rattle.linear.specs.Scalars.{Scalars, ScalarLaws}
use Rattle.linear.specs.System.{Elements}
use Rattle.linear.proofs.Row.{dot_agree, dot_below, dot_none, dot_plus, dot_single, dot_times, one_mul, small_shorter, zero_mul}

-- R, with u rows and m columns, is a right inverse of M, with m rows and u columns
pub record RightInverse (S : Scalars) (m u : ℕ) (M R : ℕ → ℕ → ℕ) : Type 0 where
  pub elements : Elements S u m R
  pub one : (x : ℕ) → x < m → dot S u (M x) (λ k. R k x) ≡ 1
  pub zero : (x y : ℕ) → x < m → y < m → (y ≡ x → ⊥) → dot S u (M x) (λ k. R k y) ≡ 0

module _ {S : Scalars} (F : ScalarLaws S) where
  -- the product with the combinations of the rows of R is the combination of the products with its columns
  pub dot_dot : (u m : ℕ) (r : ℕ → ℕ) (R : ℕ → ℕ → ℕ) (b : ℕ → ℕ) → RowElements S u r → Elements S u m R → RowElements S m b
      → dot S u r (λ k. dot S m (R k) b) ≡ dot S m (λ y. dot S u r (λ k. R k y)) b
  unfolding dot
  dot_dot u zero r R b sr s_r sb = dot_none F u {r = r} {d = λ k. 0} (λ j l. F.mul_zero (sr.at j l))
  dot_dot u (suc m) r R b sr s_r sb =
      let before : RowElements S m b = small_shorter (omega arith) sb in
      let last : b m < S.size = sb.at m (le_refl (suc m)) in
      let rows : Elements S u m R = record { at = λ k h. small_shorter (omega arith) (s_r.at k h) } in
      let column : RowElements S u (λ k. R k m) = record { at = λ k h. (s_r.at k h).at m (le_refl (suc m)) } in
      dot_plus F u {r = r} {d = λ k. dot S m (R k) b} {e = λ k. S.mul (R k m) (b m)} sr
      (record { at = λ k h. dot_below F m (rows.at k h) before }) (record { at = λ k h. F.mul_below (column.at k h) last })
      ∙ ap₂ S.add (dot_dot u m r R b sr rows before)
      (dot_agree S u {r = r} {s = r} {d = λ k. S.mul (R k m) (b m)} {e = times S (b m) (λ k. R k m)} (record { at = λ j l. refl })
      (record { at = λ k h. F.mul_comm (column.at k h) last })
      ∙ dot_times F u last sr column
      ∙ F.mul_comm last (dot_below F u sr column))

  -- for each right side b, the combinations of the rows of a right inverse are a solution
  pub inverse_solves : (m u : ℕ) (M R : ℕ → ℕ → ℕ) (b : ℕ → ℕ) → Elements S m u M → RightInverse S m u M R → RowElements S m b
      → (x : ℕ) → x < m → dot S u (M x) (λ k. dot S m (R k) b) ≡ b x
  inverse_solves m u M R b s_m i sb x h =
      dot_dot u m (M x) R b (s_m.at x h) i.elements sb
      ∙ dot_single F m x {r = λ y. dot S u (M x) (λ k. R k y)} {d = b} h
      (λ y g n. ap (λ (a : ℕ). S.mul a (b y)) (i.zero x y h g n) ∙ zero_mul F (sb.at y g))
      ∙ ap (λ (a : ℕ). S.mul a (b x)) (i.one x h) ∙ one_mul F (sb.at x h)
