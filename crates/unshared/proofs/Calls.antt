-- The lengths that both operations take, and that these are all.
use mathlib.Core.Path.{◌≡◌, refl}
use mathlib.Core.Bool.{true, and-eq-true_iff}
use mathlib.Core.List.{[]}
use Prim.Native.Nat.{ℕ}
use borrow.Author.Tests.{eqb-true, eq-eqb}
use lib.Dec.{eqb}
use Rattle.refusal.specs.Outcome.{done}
use Rattle.present.specs.Present.{Size}
use Rattle.unshared.specs.Operations.{key_bytes, unshared_lengths, unshared_outcome}

pub lengths : (z : Size) (key block out : ℕ) → unshared_lengths z key block out ≡ true → (key ≡ key_bytes z) × (block ≡ 8) × (out ≡ 8)
unfolding unshared_lengths
lengths z key block out e =
    let first = (and-eq-true_iff (eqb key (key_bytes z)) _).0 e in
    let rest = (and-eq-true_iff (eqb block 8) _).0 first.1 in
    (eqb-true _ _ first.0, eqb-true _ _ rest.0, eqb-true _ _ rest.1)

pub unshared_accepts : (z : Size) (key block out : ℕ) → key ≡ key_bytes z → block ≡ 8 → out ≡ 8 → unshared_outcome z key block out ≡ done []
unfolding unshared_outcome unshared_lengths
unshared_accepts z key block out ek eb eo = rw (eq-eqb key (key_bytes z) ek, eq-eqb block 8 eb, eq-eqb out 8 eo) refl
