-- There is at most one canonical solution.
use mathlib.Core.Path.{◌≡◌, sym, ap, ap₂, ◌∙◌, refl}
use Prim.Native.Nat.{ℕ, zero, suc, ◌+◌, ◌≤◌, ◌<◌}
use native.Mathlib.Decide.{ℕ_discrete}
use native.Mathlib.Omega.{arith}
use Rattle.linear.specs.Row.{RowElements, Agree, dot, plus, times}
use Rattle.linear.specs.Scalars.{Scalars, ScalarLaws}
use Rattle.linear.specs.System.{Canonical, Elements, Free, Combination, Inconsistent}
use Rattle.linear.proofs.Row.{small_shorter, zero_add, mul_swap, plus_small, times_small, twice, dot_plus, dot_times, dot_end, agree_shorter, agree_sym, dot_agree}

module _ {S : Scalars} (F : ScalarLaws S) where
  -- a + b = 0 only where a = b
  pub sum_zero : (a b : ℕ) → S.add a b ≡ 0 → a ≡ b
  sum_zero a b h = sym (twice F a b) ∙ ap (λ (x : ℕ). S.add x b) h ∙ zero_add F b

  -- a combination to zero whose last factor that is not zero stands at k makes k free
  pub last_free : (m n : ℕ) (M : ℕ → ℕ → ℕ) (e : ℕ → ℕ) (k : ℕ) → Elements S m n M → RowElements S n e → k < n
      → ((i : ℕ) → i < m → dot S n (M i) e ≡ 0) → ((j : ℕ) → k < j → j < n → e j ≡ 0) → (e k ≡ 0 → ⊥) → Free S m M k
  unfolding dot
  last_free m n M e k el se l sum later nz =
      record { factors = times S (S.inv (e k)) e; combination = record { small = times_small F ib (small_shorter (omega arith) se); row = each } }
    where
      eb : e k < S.size
      eb = se.at k l

      ib : S.inv (e k) < S.size
      ib = F.inv_below eb

      before : (i : ℕ) → i < m → dot S k (M i) e ≡ S.mul (M i k) (e k)
      before i h =
          sum_zero (dot S k (M i) e) (S.mul (M i k) (e k))
          (sym (dot_end F (suc k) n {r = M i} {d = e} l (λ j g g'. ap (S.mul (M i j)) (later j g g') ∙ F.mul_zero ((el.at i h).at j g'))) ∙ sum i h)

      each : (i : ℕ) → i < m → dot S k (M i) (times S (S.inv (e k)) e) ≡ M i k
      each i h =
          dot_times F k ib (small_shorter (omega arith) (el.at i h)) (small_shorter (omega arith) se)
          ∙ ap (S.mul (S.inv (e k))) (before i h)
          ∙ mul_swap F ib eb ((el.at i h).at k l)
          ∙ ap (S.mul (M i k)) (F.mul_comm ib eb ∙ F.mul_inv eb nz)
          ∙ F.mul_one ((el.at i h).at k l)

  module _ (m n : ℕ) (M : ℕ → ℕ → ℕ) (el : Elements S m (suc n) M) (p q : ℕ → ℕ) (fp : Canonical S m M n p) (fq : Canonical S m M n q) where
    -- the difference of two canonical solutions is zero in the last t places
    tail : (t k : ℕ) → n ≤ k + t → k < n → S.add (p k) (q k) ≡ 0
    tail zero k h l = absurd (omega arith)
    tail (suc t) k h l = elim (ℕ_discrete (S.add (p k) (q k)) 0) [
      | yes e ↦ e
      | no nz ↦
          let f : Free S m M k =
          last_free m n M (plus S p q) k (record { at = λ i g. small_shorter (omega arith) (el.at i g) })
          (plus_small F fp.solves.small fq.solves.small) l
          (λ i g. dot_plus F n (small_shorter (omega arith) (el.at i g)) fp.solves.small fq.solves.small
          ∙ ap₂ S.add (fp.solves.row i g) (fq.solves.row i g) ∙ F.add_self (M i n))
          (λ j g g'. tail t j (omega arith) g') nz in
          ap₂ S.add (fp.free k l f) (fq.free k l f) ∙ F.add_zero 0
    ]

    -- there is one canonical solution at most
    pub canonical_unique : Agree n p q
    canonical_unique = record { at = λ j l. sum_zero (p j) (q j) (tail n j (omega arith) l) }

-- ---- the columns before k and column k are all that a combination depends on, and of its factors those before k

pub combination_rows : {S : Scalars} {m w k : ℕ} {M N : ℕ → ℕ → ℕ} {d : ℕ → ℕ} → k < w → ((i : ℕ) → i < m → Agree w (M i) (N i))
    → Combination S m M k d → Combination S m N k d
combination_rows {S} {k = k} l a c = record {
  small = c.small;
  row = λ i h.
      dot_agree S k (agree_shorter (omega arith) (agree_sym (a i h))) (record { at = λ j g. refl }) ∙ c.row i h ∙ (a i h).at k l;
}

pub free_rows : {S : Scalars} {m w k : ℕ} {M N : ℕ → ℕ → ℕ} → k < w → ((i : ℕ) → i < m → Agree w (M i) (N i)) → Free S m M k → Free S m N k
free_rows l a f = record { factors = f.factors; combination = combination_rows l a f.combination }

pub canonical_rows : {S : Scalars} {m w u : ℕ} {M N : ℕ → ℕ → ℕ} {p : ℕ → ℕ} → u < w → ((i : ℕ) → i < m → Agree w (M i) (N i))
    → Canonical S m M u p → Canonical S m N u p
canonical_rows l a f = record {
  solves = combination_rows l a f.solves;
  free = λ k h g. f.free k h (free_rows (omega arith) (λ i b. agree_sym (a i b)) g);
}

pub inconsistent_rows : {S : Scalars} {m w u : ℕ} {M N : ℕ → ℕ → ℕ} → u < w → ((i : ℕ) → i < m → Agree w (M i) (N i))
    → Inconsistent S m M u → Inconsistent S m N u
inconsistent_rows l a f = record { never = λ p c. f.never p (combination_rows l (λ i b. agree_sym (a i b)) c) }

pub combination_agree : {S : Scalars} {m u : ℕ} {M : ℕ → ℕ → ℕ} {p q : ℕ → ℕ} → Agree u p q → Combination S m M u p → Combination S m M u q
combination_agree {S} {u = u} {M = M} a c = record {
  small = record { at = λ j l. rw (← a.at j l) (c.small.at j l) };
  row = λ i h. dot_agree S u {r = M i} (record { at = λ j l. refl }) (agree_sym a) ∙ c.row i h;
}

pub canonical_agree : {S : Scalars} {m u : ℕ} {M : ℕ → ℕ → ℕ} {p q : ℕ → ℕ} → Agree u p q → Canonical S m M u p → Canonical S m M u q
canonical_agree a f = record { solves = combination_agree a f.solves; free = λ k l g. sym (a.at k l) ∙ f.free k l g }
