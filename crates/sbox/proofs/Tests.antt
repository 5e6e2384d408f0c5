-- The test of the entries of two lists, one list after the other.
use mathlib.Core.Path.{◌≡◌, sym, ap, ◌∙◌}
use mathlib.Core.List.{List, ◌++◌}
use Prim.Native.Nat.{ℕ, ◌+◌, ◌≤◌}
use native.Mathlib.Nat.{zero-add}
use native.Mathlib.Decide.{dec_lt}
use native.Mathlib.Omega.{arith}
use lib.ListN.{length}
use Rattle.refusal.specs.Outcome.{Outcome, refused}
use Rattle.refusal.specs.Large.{first_large, test_below}
use Rattle.refusal.proofs.Large.{large_within, below_fails, below_passes, first_fails, second_fails, both_pass}

pub test_two : (bound : ℕ) (l m : List ℕ) (next : Outcome) → test_below bound 0 (l ++ m) next ≡ test_below bound 0 l (test_below bound (length l) m next)
test_two bound l m next =
    let after = test_below bound (length l) m next in
    elim (dec_lt (first_large bound l) (length l)) [
      | yes g ↦ first_fails bound l m next g ∙ sym (below_fails bound 0 l after g ∙ ap (refused 3) (zero-add (first_large bound l)))
      | no g ↦
          let e : length l ≤ first_large bound l = omega arith in
          let whole : length l ≡ first_large bound l = omega (arith, large_within bound l) in
          elim (dec_lt (first_large bound m) (length m)) [
            | yes k ↦
                second_fails bound l m next e k
                ∙ sym (below_passes bound 0 l after e ∙ below_fails bound (length l) m next k ∙ ap (λ (a : ℕ). refused 3 (a + first_large bound m)) whole)
            | no k ↦ both_pass bound l m next e (omega arith) ∙ sym (below_passes bound 0 l after e ∙ below_passes bound (length l) m next (omega arith))
          ]
    ]
