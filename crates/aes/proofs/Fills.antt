-- Strings that are filled place by place, and parts that are copied into them.
use mathlib.Core.Path.{◌≡◌, sym, ap, ◌∙◌}
use mathlib.Core.List.{List, [], ◌++◌}
use Prim.Native.Nat.{ℕ, zero, suc, ◌+◌, ◌-◌, ◌≤◌, ◌<◌}
use native.Mathlib.Nat.{add-zero}
use native.Mathlib.Omega.{arith}
use lib.ListN.{length, get_or, set, take, drop, replicate, length-append, length-replicate, length-drop, take-append-drop}
use lib.Seq.{ext_get_or, paste, paste-suc, get_or-drop, get_or-take, length-take-le}
use Rattle.std.proofs.lemmas.List.{append-nil}
use Rattle.std.proofs.lemmas.Slice.{put_mid-paste}
use borrow.Rule.Slice.PartMut.{put_mid}
use Rattle.steps.specs.Fill.{tabulate, padded}
use Rattle.steps.proofs.Fill.{length_tabulate, tabulate_same, tabulate_get_or, get_d_tabulate}
use Rattle.steps.proofs.Sharing.{share_padded}
use Rattle.rijndael.specs.Strings.{byte_at, put_places, loaded}

-- ---- parts that are copied

-- n bytes that are put one by one are copied
placed : (a : List ℕ) (at : ℕ) (b : List ℕ) (v : ℕ → ℕ) (n : ℕ) → ((k : ℕ) → k < n → get_or b k 0 ≡ v k) → at + n ≤ length a → n ≤ length b
    → paste a at b n ≡ put_places at n v a
unfolding put_places
placed a at b v zero h la lb =
    ap (λ (q : ℕ). take at a ++ [] ++ drop q a) (add-zero at) ∙ ap (λ (x : List ℕ). x ++ drop at a) (append-nil (take at a)) ∙ take-append-drop at a
placed a at b v (suc n) h la lb =
    let one_less : paste a at b n ≡ put_places at n v a = placed a at b v n (λ k l. h k (omega arith)) (omega arith) (omega arith) in
    sym (paste-suc a at b n 0 (omega arith) (omega arith)) ∙ rw (h n (omega arith)) (ap (λ (x : List ℕ). set x (at + n) (v n)) one_less)

-- a copy of the n bytes of b from number `from` on, to the places of a from `at` on
pub put_copied : (a b : List ℕ) (at n from : ℕ) {ys : List ℕ} {j k : ℕ} → at + n ≤ length a → from + n ≤ length b → j ≡ n → k ≡ n
    → ys ≡ take j (drop from b) → put_mid at k a ys ≡ put_places at n (λ i. get_or b (from + i) 0) a
put_copied a b at n from {ys} {j} {k} la lb ej ek e =
    let part : List ℕ = take n (drop from b) in
    let l : length part ≡ n = length-take-le n (drop from b) (omega (arith, length-drop from b)) in
    put_mid-paste at k a ys part n (e ∙ ap (λ (q : ℕ). take q (drop from b)) ej) (sym ek) (sym l)
    ∙ placed a at part (λ i. get_or b (from + i) 0) n (λ i h. get_or-take n (drop from b) i 0 h ∙ get_or-drop from b i 0) la (omega (arith, l))

-- ---- a string that is loaded

-- bytes in an array that has room for more
pub loaded_padded : (a : List ℕ) → length a ≤ 144 → padded 144 a ≡ loaded 16 a
unfolding loaded
loaded_padded a h =
    let places : length (padded 144 a) ≡ 144 = omega (arith, length-append a (replicate (144 - length a) 0), length-replicate {A = ℕ} (144 - length a) 0) in
    ext_get_or 0 (padded 144 a) (tabulate 144 (byte_at a)) (places ∙ sym (length_tabulate 144 (byte_at a)))
    (λ p l. share_padded a (144 - length a) p ∙ sym (get_d_tabulate 144 (byte_at a) p 0 (omega (arith, places))))

-- ---- places that are copied out

-- the first n bytes of a string
pub first_bytes : (n : ℕ) (a : List ℕ) → n ≤ length a → take n a ≡ tabulate n (byte_at a)
first_bytes n a h =
    sym (tabulate_get_or (take n a) 0)
    ∙ ap (λ (m : ℕ). tabulate m (byte_at (take n a))) (length-take-le n a h)
    ∙ tabulate_same n (byte_at (take n a)) (byte_at a) (λ i l. get_or-take n a i 0 l)
