-- `Layout::of` meets its contract: each test is that of the definition, and what passes both is a pair.
use mathlib.Core.Path.{refl}
use Rattle.refusal.specs.declared.refusals.Refusal.TheVariants.{OutputBits, Width}
use Rattle.refusal.proofs.Exits.{held, failed, exits}
use Rattle.decomposition.proofs.layouts.Layout.of.Goals as goal

pub returns-in_err-refuse_unless-clause-outcome : goal.returns-in_err-refuse_unless-clause-outcome
returns-in_err-refuse_unless-clause-outcome c =
    let f = failed Width c.known.ensures c.refuse_unless.ensures c.in_err-refuse_unless.was in
    exits _ _ _ Width c.from_residual.ensures.1 f.1 (rw f.0 refl)

pub returns-in_err-refuse_unless-2-clause-outcome : goal.returns-in_err-refuse_unless-2-clause-outcome
returns-in_err-refuse_unless-2-clause-outcome c =
    let known = held _ c.known.ensures c.refuse_unless.ensures c.in_ok-refuse_unless.was in
    let f = failed OutputBits c.paired.ensures c.refuse_unless-2.ensures c.in_err-refuse_unless-2.was in
    exits _ _ _ OutputBits c.from_residual-in_err-refuse_unless-2.ensures.1 f.1 (rw (known, f.0) refl)

pub layout_of-requires : goal.layout_of-requires
layout_of-requires c = record {
  width = held _ c.known.ensures c.refuse_unless.ensures c.in_ok-refuse_unless.was;
  outputs = held _ c.paired.ensures c.refuse_unless-2.ensures c.in_ok-refuse_unless-2.was;
}

pub returns-clause-outcome : goal.returns-clause-outcome
returns-clause-outcome c =
    let known = held _ c.known.ensures c.refuse_unless.ensures c.in_ok-refuse_unless.was in
    let paired = held _ c.paired.ensures c.refuse_unless-2.ensures c.in_ok-refuse_unless-2.was in
    rw (known, paired) refl
