-- A WATCH WRITES WHAT THE EXPERIMENT SHOWS. For the shares that the secret x and the masks give, Watch S-box writes the watched values of the experiment
-- whose tape is the masks followed by the random elements.
use mathlib.Core.Path.{◌≡◌, sym, ap}
use mathlib.Core.List.{List, ◌++◌}
use Prim.Native.Nat.{ℕ, ◌-◌}
use lib.ListN.{length}
use Rattle.steps.specs.Program.{trace}
use Rattle.steps.specs.Watch.{watched}
use Rattle.steps.specs.Tape.{elements}
use Rattle.steps.specs.Split.{settled}
use Rattle.sbox.specs.Form.{basis_in, solution_in}
use Rattle.sbox.specs.Experiment.{experiment}
use Rattle.decomposition.specs.Record.{outputs_of, coefficients_of, width_of}
use Rattle.sbox.specs.Operations.{call_program, sbox_call, watch_output}
use Rattle.steps.specs.Call as call
use Rattle.sbox.proofs.Secrecy.{experiment_steps}

pub watch_shows : (r : List ℕ) (s x : ℕ) (masks random list : List ℕ) → length masks ≡ s - 1
    → let n = width_of r in
    watch_output r s (settled x masks) random list
    ≡ watched list (trace (experiment n s (basis_in n (outputs_of r) (coefficients_of r)) (solution_in n (outputs_of r) (coefficients_of r)) x) (masks ++ elements n random))
unfolding watch_output sbox_call call.watch_output call_program
watch_shows r s x masks random list e =
    let n = width_of r in
    ap (watched list) (sym (experiment_steps n s (basis_in n (outputs_of r) (coefficients_of r)) (solution_in n (outputs_of r) (coefficients_of r)) x masks (elements n random) e))
