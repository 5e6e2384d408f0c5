-- Scalars: the numbers below a size, with a sum, a product and an inverse, and the laws of a field of characteristic 2.
use Rattle.std.specs.Prelude.{◌≡◌, ℕ, ◌^◌, ◌<◌}
use Rattle.xor.specs.Xor.{◌⊕◌}
use Rattle.field.specs.Mul.{mul}
use Rattle.field.specs.Power.{inverse}

-- the operations of a field whose elements are the numbers below size
pub record Scalars : Type 0 where
  pub size : ℕ
  pub add : ℕ → ℕ → ℕ
  pub mul : ℕ → ℕ → ℕ
  pub inv : ℕ → ℕ

-- the laws: each element is its own opposite, and each element but 0 has an inverse
pub record ScalarLaws (S : Scalars) : Type 0 where
  pub one_below : 1 < S.size
  pub add_below : {a b : ℕ} → a < S.size → b < S.size → S.add a b < S.size
  pub mul_below : {a b : ℕ} → a < S.size → b < S.size → S.mul a b < S.size
  pub inv_below : {a : ℕ} → a < S.size → S.inv a < S.size
  pub add_zero : (a : ℕ) → S.add a 0 ≡ a
  pub add_self : (a : ℕ) → S.add a a ≡ 0
  pub add_comm : (a b : ℕ) → S.add a b ≡ S.add b a
  pub add_assoc : (a b c : ℕ) → S.add (S.add a b) c ≡ S.add a (S.add b c)
  pub mul_comm : {a b : ℕ} → a < S.size → b < S.size → S.mul a b ≡ S.mul b a
  pub mul_assoc : {a b c : ℕ} → a < S.size → b < S.size → c < S.size → S.mul (S.mul a b) c ≡ S.mul a (S.mul b c)
  pub mul_add : {a b c : ℕ} → a < S.size → b < S.size → c < S.size → S.mul a (S.add b c) ≡ S.add (S.mul a b) (S.mul a c)
  pub mul_one : {a : ℕ} → a < S.size → S.mul a 1 ≡ a
  pub mul_zero : {a : ℕ} → a < S.size → S.mul a 0 ≡ 0
  pub mul_inv : {a : ℕ} → a < S.size → (a ≡ 0 → ⊥) → S.mul a (S.inv a) ≡ 1

-- the elements of width n as scalars
abbrev pub scalars : ℕ → Scalars
scalars n = record { size = 2 ^ n; add = ◌⊕◌; mul = mul n; inv = inverse n }
