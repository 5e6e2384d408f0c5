-- `fitting::write_head` meets its contract: the bytes of the head, and the basis behind them.
use mathlib.Core.List.{List, ◌∷◌, ◌++◌}
use mathlib.Core.Path.{◌≡◌, ◌∙◌, ap}
use Prim.Native.Nat.{ℕ, ◌+◌, ◌-◌}
use native.Mathlib.Omega.{arith}
use lib.ListN.{length, drop}
use lib.Seq.{drop-drop}
use Rattle.decomposition.specs.Record.{headed}
use Rattle.decomposition.proofs.fitting.write_head.Goals as goal

pub returns : goal.returns
unfolding headed
returns c =
    let n = length c.args.basis.now in
    let behind : 7 + n - 7 ≡ n = omega arith in
    rw (c.copy_from_slice.ensures.after, c.copy_row.ensures)
    (ap (λ (l : List ℕ). 68 ∷ 67 ∷ 80 ∷ 0 ∷ 2 ∷ c.args.width ∷ c.args.outputs ∷ (c.args.basis.now ++ l))
    (ap (λ (k : ℕ). drop k (drop 7 c.args.out.now)) behind ∙ drop-drop n 7 c.args.out.now))
