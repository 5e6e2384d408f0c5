-- For inner contracts only. A call that passed the tests, in the definition's terms.
use Rattle.std.specs.Prelude.{◌≡◌, List, ℕ}
use Rattle.steps.specs.Program.{Run}
use Rattle.steps.specs.Tape.{elements}
use Rattle.decomposition.specs.Record.{layout_of, coefficients_of}
use Rattle.sbox.specs.Figures.{sbox_steps}
use Rattle.sbox.specs.Operations.{layout_program}
use Rattle.sbox.specs.declared.calling.AcceptedCall.{AcceptedCall}

-- its program
abbrev pub program_of : AcceptedCall → Run (List ℕ)
program_of c = layout_program c.record.layout c.record.coefficients.now c.count.count c.shares.now

-- its random elements
abbrev pub tape_of : AcceptedCall → List ℕ
tape_of c = elements c.record.layout.width c.random.now

-- how many steps it takes
abbrev pub steps_of : AcceptedCall → ℕ
steps_of c = sbox_steps c.record.layout.width c.record.layout.outputs c.count.count

-- it is the call of these arguments
pub record IsCall (r : List ℕ) (s : ℕ) (shares random : List ℕ) (c : AcceptedCall) : Type 0 where
  pub layout : c.record.layout ≡ layout_of r
  pub coefficients : c.record.coefficients.now ≡ coefficients_of r
  pub count : c.count.count ≡ s
  pub shares_lent : c.shares.now ≡ shares
  pub random_lent : c.random.now ≡ random
