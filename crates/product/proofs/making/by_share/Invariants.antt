-- `by_share` meets its contract: a loop over the shares.
use Prim.Native.Nat.{ℕ}
use lib.ListN.{set}
use Rattle.steps.specs.Loop.{Going}
use Rattle.steps.specs.Machine.{Ready}
use Rattle.steps.specs.Program.{Run, return, ◌>>=◌}
use Rattle.product.specs.ByShare.{by_share}
use Rattle.product.specs.Makes.{Makes}
use Rattle.product.proofs.making.by_share.Given as goal

abbrev pub invariant-loop-i : goal.invariant-loop-i
invariant-loop-i g l =
    (f : ℕ → Run ℕ) → Makes (λ m. g.M.Machine.state m.now) (goal.F-pre g l.share) (goal.F-post g l.share) l.fn.s.count f
    → Ready (by_share l.fn.s.count f) (g.M.Machine.state l.initial.machine)
    → Going (λ i c. f i >>= (λ v. return (set c i v))) 0 l.fn.s.count l.initial.c (g.M.Machine.state l.initial.machine) l.i l.c (g.M.Machine.state l.machine)
