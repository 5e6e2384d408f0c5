-- What the rows of a table hold: a list of sharings.
use mathlib.Core.Path.{◌≡◌, refl, sym, ap, ◌∙◌}
use mathlib.Core.Logic.{◌≢◌}
use mathlib.Core.List.{List, [], ◌∷◌, ◌++◌}
use Prim.Native.Nat.{ℕ, zero, suc, ◌<◌}
use native.Mathlib.Decide.{ℕ_discrete}
use native.Mathlib.Omega.{arith}
use lib.ListN.{length, set, length-append, length-set, get_or-append}
use lib.Seq.{get_or-set_same, get_or-set_other, get_or_at}
use Rattle.product.specs.ByShare.{nth}

-- row r of the table, which has n rows, is sharing r of the list
pub record Holds (n : ℕ) (t l : List (List ℕ)) : Type 0 where
  pub size : length t ≡ n
  pub rows : (r : ℕ) → r < length l → nth t r ≡ nth l r

-- two lists that differ in one place
nth_other : (l : List (List ℕ)) (b c : List ℕ) (m : List (List ℕ)) (r : ℕ) → r ≢ length l → nth (l ++ (b ∷ m)) r ≡ nth (l ++ (c ∷ m)) r
nth_other [] b c m zero h = absurd (h refl)
nth_other [] b c m (suc r) h = refl
nth_other (a ∷ l) b c m zero h = refl
nth_other (a ∷ l) b c m (suc r) h = nth_other l b c m r (λ e. h (ap suc e))

module _ {n : ℕ} (t l : List (List ℕ)) (c : List ℕ) (room : length l < n) where
  stored : (m : List (List ℕ)) (r : ℕ) → length t ≡ n → r ≡ length l → nth (set t (length l) c) r ≡ nth (l ++ (c ∷ m)) r
  stored m r size e = rw e (get_or-set_same t (length l) c [] (omega arith) ∙ sym (get_or_at l c m [] (length l) refl))

  -- the next row
  pub holds_next : Holds n t l → Holds n (set t (length l) c) (l ++ (c ∷ []))
  holds_next h = record { size = length-set t (length l) c ∙ h.size; rows = λ r b. go r b (ℕ_discrete r (length l)) }
    where
      go : (r : ℕ) → r < length (l ++ (c ∷ [])) → Dec (r ≡ length l) → nth (set t (length l) c) r ≡ nth (l ++ (c ∷ [])) r
      go r b (yes e) = stored [] r h.size e
      go r b (no e) =
          let d : r < length l = omega (arith, length-append l (c ∷ [])) in
          get_or-set_other t (length l) r c [] e ∙ h.rows r d ∙ sym (get_or-append l (c ∷ []) [] r d)

  -- a row that was made before
  pub holds_replace : (b : List ℕ) (m : List (List ℕ)) → Holds n t (l ++ (b ∷ m)) → Holds n (set t (length l) c) (l ++ (c ∷ m))
  holds_replace b m h = record { size = length-set t (length l) c ∙ h.size; rows = λ r k. go r k (ℕ_discrete r (length l)) }
    where
      go : (r : ℕ) → r < length (l ++ (c ∷ m)) → Dec (r ≡ length l) → nth (set t (length l) c) r ≡ nth (l ++ (c ∷ m)) r
      go r k (yes e) = stored m r h.size e
      go r k (no e) =
          get_or-set_other t (length l) r c [] e ∙ h.rows r (omega (arith, length-append l (c ∷ m), length-append l (b ∷ m))) ∙ nth_other l b c m r e
