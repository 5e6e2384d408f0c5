-- `process` meets its contract: by the table and the keys of encryption a block is encrypted.
use mathlib.Core.Path.{ap₂, ◌∙◌}
use mathlib.Core.List.{List}
use Prim.Native.Nat.{ℕ}
use borrow.Author.Rules.{rules}
use Rattle.present.specs.Present.{size80}
use Rattle.present.proofs.Numbers.{sound80}
use Rattle.unshared.specs.RoundKeys.{by_table}
use Rattle.unshared.proofs.ByKeys.{encrypts}
use Rattle.unshared.proofs.direction.EncryptionDirection.process.Goals as goal

pub returns : goal.returns
returns c = λ k h e.
    let x = c.args.x in
    c.by_table.ensures ∙ ap₂ (λ (t l : List ℕ). by_table t l x) c.encryption_table.ensures e ∙ encrypts size80 k sound80 h x (search rules)
