-- For inner contracts only. What the state between two rounds holds, a sharing of the key and one of the block, and what is asked where a round begins.
use Rattle.std.specs.Prelude.{List, ℕ}
use Rattle.xor.specs.Sum.{Small}
use Rattle.steps.specs.Program.{Run}
use Rattle.steps.specs.Machine as machine
use Rattle.steps.specs.Machine.{Ready}
use Rattle.present.specs.Present.{State}
use Rattle.steps.specs.ShareBytes.{sharing}
use Rattle.cipher.specs.Box.{record_sbox}
use Rattle.cipher.specs.declared.nibble_box.NibbleBox.{NibbleBox}
use Rattle.cipher.specs.declared.rounds.RoundState.{RoundState}

-- the program of an S-box, for s shares
abbrev pub sbox_of : NibbleBox → ℕ → List ℕ → Run (List ℕ)
sbox_of b s = record_sbox s b.record.coefficients.now

-- the sharings
abbrev pub sharings : RoundState → State (List ℕ)
sharings t = record { key = sharing 10 t.count.shares.count t.key; block = sharing 8 t.count.shares.count t.block }

-- Before a program that has S-boxes: it may run, and the random elements are nibbles.
pub record Prepared {A : Type 0} (m : Run A) (s : machine.State) : Type 0 where
  pub ready : Ready m s
  pub nibbles : Small 4 s.tape
