-- `NibbleBox::substitute` meets its contract: the column, its S-box, and the column put back.
use mathlib.Core.Path.{refl}
use Rattle.decomposition.specs.Layout.{layout, sized}
use Rattle.decomposition.proofs.Sizes.{same_pair, layout_width, layout_outputs}
use Rattle.cipher.specs.Rounds.{sbox_of}
use Rattle.cipher.proofs.Nibbles.{nibble_prepared, nibble_substituted, nibble_given}
use Rattle.steps.specs.ShareBytes.{sharing}
use Rattle.cipher.proofs.nibble_box.NibbleBox.substitute.Goals as goal

pub run-y-requires-clause-of_pair : goal.run-y-requires-clause-of_pair
unfolding layout sized
run-y-requires-clause-of_pair g c =
    rw (c.args.self.now.four, layout_width 4 4, layout_outputs 4 4) (record { pair = same_pair 4 refl; layout_is = refl })

pub run-y-requires-clause-ready : goal.run-y-requires-clause-ready
run-y-requires-clause-ready g c =
    rw (c.args.self.now.four, layout_width 4 4, layout_outputs 4 4)
    (nibble_prepared (sbox_of c.args.self.now c.args.s.shares.count) c.args.k (sharing c.args.w c.args.s.shares.count c.args.l.now) _
    c.column-x.ensures c.requires.prepared).ready

pub replace_column-requires-clause-v_sharing : goal.replace_column-requires-clause-v_sharing
replace_column-requires-clause-v_sharing g c =
    nibble_given c.args.self.now.record.coefficients.now c.args.self.now.small c.args.w c.args.k c.args.s.shares.count c.args.l.now c.args.s.some c.args.s.shares.few
    c.column-x.ensures c.requires.prepared.nibbles (rw (c.args.self.now.four, layout_width 4 4, layout_outputs 4 4) at c.run-y.ensures)

pub returns-clause-went : goal.returns-clause-went
returns-clause-went g c =
    nibble_substituted (sbox_of c.args.self.now c.args.s.shares.count) c.args.k (sharing c.args.w c.args.s.shares.count c.args.l.now) _ c.column-x.ensures _ _
    (rw (c.args.self.now.four, layout_width 4 4, layout_outputs 4 4) at c.run-y.ensures) c.replace_column.ensures.l_after
