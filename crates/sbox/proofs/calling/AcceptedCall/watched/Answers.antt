-- `AcceptedCall::watched` meets its contract: without numbers there is no value.
use mathlib.Core.Path.{refl, sym, ◌∙◌}
use borrow.Author.Tests.{eqb-true}
use Rattle.std.proofs.lemmas.List.{nil_from_length}
use Rattle.steps.specs.Watch.{watched}
use Rattle.sbox.proofs.calling.AcceptedCall.watched.Goals as goal

pub returns-then-is_empty-clause-values : goal.returns-then-is_empty-clause-values
unfolding watched
returns-then-is_empty-clause-values c =
    let none = eqb-true _ _ (sym c.is_empty.ensures ∙ c.if-is_empty.true) in
    rw (nil_from_length c.args.list.now none, nil_from_length c.args.values.now (sym c.requires.places.1 ∙ none)) refl
