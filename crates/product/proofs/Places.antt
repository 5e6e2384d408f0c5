-- The masked product depends on its s shares alone, and not on how many places hold them: what stands past the shares changes nothing.
use mathlib.Core.Path.{◌≡◌, ap₂, ◌∙◌}
use mathlib.Core.List.{List}
use Prim.Native.Nat.{ℕ, ◌+◌, ◌-◌, ◌<◌, ◌≤◌}
use native.Mathlib.Omega.{arith}
use lib.ListN.{length, replicate, take}
use lib.Seq.{get_or-take}
use Rattle.steps.specs.Fill.{padded}
use Rattle.steps.specs.Program.{Run, ◌>>=◌, mark, for}
use Rattle.steps.specs.Sharing.{share}
use Rattle.steps.proofs.Program.{for_same}
use Rattle.steps.proofs.Sharing.{share_padded}
use Rattle.product.specs.Product.{product, start, row, pair}

module _ (n s : ℕ) (a a' b b' : List ℕ)
    (ea : (i : ℕ) → i < s → share a i ≡ share a' i) (eb : (i : ℕ) → i < s → share b i ≡ share b' i) where
  start_same : (i : ℕ) (c : List ℕ) → i < s → start n a b i c ≡ start n a' b' i c
  unfolding start
  start_same i c h = rw (ea i h, eb i h)

  pair_same : (i j : ℕ) (c : List ℕ) → i < s → j < s → pair n a b i j c ≡ pair n a' b' i j c
  unfolding pair
  pair_same i j c h k = rw (ea i h, eb i h, ea j k, eb j k)

  row_same : (i : ℕ) (c : List ℕ) → i < s → row n s a b i c ≡ row n s a' b' i c
  unfolding row
  row_same i c k = for_same (i + 1) s (pair n a b i) (pair n a' b' i) (omega arith) (λ j c l h. pair_same i j c (omega arith) (omega arith)) c

  pub product_same : product n s a b ≡ product n s a' b'
  unfolding product
  product_same =
      ap₂ (λ (m : Run (List ℕ)) (f : List ℕ → Run (List ℕ)). mark (m >>= f))
      (for_same 0 s (start n a b) (start n a' b') (omega arith) (λ i c l k. start_same i c (omega arith)) (replicate 9 0))
      (λ x c. for_same 0 s (row n s a b) (row n s a' b') (omega arith) (λ i c l k. row_same i c k) c x)

-- a sharing of s shares, nine at most, at the start of a longer list is that of its first nine entries
pub first_nine : (s : ℕ) (l : List ℕ) → s ≤ 9 → (i : ℕ) → i < s → share (padded 9 (take 9 l)) i ≡ share l i
first_nine s l few i h = share_padded (take 9 l) (9 - length (take 9 l)) i ∙ get_or-take 9 l i 0 (omega arith)

-- so the product of what these hold is the product of the lists
pub product_first_nine : (n s : ℕ) (a b : List ℕ) → s ≤ 9 → product n s (padded 9 (take 9 a)) (padded 9 (take 9 b)) ≡ product n s a b
product_first_nine n s a b few = product_same n s (padded 9 (take 9 a)) a (padded 9 (take 9 b)) b (first_nine s a few) (first_nine s b few)
