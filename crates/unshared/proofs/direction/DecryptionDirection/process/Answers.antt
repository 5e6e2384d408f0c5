-- `process` meets its contract: by the table and the keys of decryption a block is decrypted.
use mathlib.Core.Path.{ap, ap₂, ◌∙◌}
use mathlib.Core.List.{List}
use Prim.Native.Nat.{ℕ}
use borrow.Author.Rules.{rules}
use Rattle.present.specs.Present.{size80, permute}
use Rattle.present.proofs.Numbers.{sound80}
use Rattle.unshared.specs.RoundKeys.{by_table}
use Rattle.unshared.proofs.ByKeys.{decrypts}
use Rattle.unshared.proofs.direction.DecryptionDirection.process.Goals as goal

pub returns : goal.returns
returns c = λ k h e.
    let x = c.args.x in
    c.permute.ensures
    ∙ ap permute (c.by_table.ensures ∙ ap₂ (λ (t l : List ℕ). by_table t l c.unpermute.result) c.decryption_table.ensures e
    ∙ ap (by_table _ _) c.unpermute.ensures)
    ∙ decrypts size80 k sound80 h x (search rules)
