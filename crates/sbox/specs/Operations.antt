-- The operations S-box and Watch S-box. A sharing lies share 0 first.
use Rattle.std.specs.Prelude.{◌≡◌, Bool, ◌&&◌, cond, List, [], ◌∷◌, ◌++◌, ℕ, ◌^◌, ◌≤◌, ◌<◌, eqb, length}
use Rattle.xor.specs.Sum.{Small}
use Rattle.refusal.specs.Outcome.{Outcome, done, test, and_then}
use Rattle.refusal.specs.Range.{one_to}
use Rattle.refusal.specs.Large.{test_below}
use Rattle.steps.specs.Program.{Run}
use Rattle.steps.specs.Call.{Call, call_outcome, call_result}
use Rattle.steps.specs.Call as call
use Rattle.steps.specs.Sharing.{share}
use Rattle.steps.specs.Fill.{tabulate}
use Rattle.steps.specs.Tape.{elements, bytes_for}
use Rattle.decomposition.specs.Layout.{layout, Pair}
use Rattle.decomposition.specs.Record.{coefficients_of, width_of, outputs_of, read_outcome, Accepted}
use Rattle.decomposition.specs.declared.layouts.Layout.{Layout}
use Rattle.sbox.specs.Sbox.{sbox}
use Rattle.sbox.specs.Figures.{sbox_draws, sbox_steps}
use Rattle.sbox.specs.Form.{basis_in, solution_in}

-- ---- the steps of a call

-- the masked S-box of the shares by the record's polynomials
unfoldable pub call_program : List ℕ → ℕ → List ℕ → Run (List ℕ)
call_program r s shares = sbox (width_of r) s (basis_in (width_of r) (outputs_of r) (coefficients_of r)) (solution_in (width_of r) (outputs_of r) (coefficients_of r)) shares

-- For inner contracts. L is the layout of a pair of width and output bits,
pub record OfPair (L : Layout) : Type 0 where
  pub pair : Pair L.width L.outputs
  pub layout_is : L ≡ layout L.width L.outputs

-- and this the program by L and the coefficients of a record.
abbrev pub layout_program : Layout → List ℕ → ℕ → List ℕ → Run (List ℕ)
layout_program L cs s shares = sbox L.width s (basis_in L.width L.outputs cs) (solution_in L.width L.outputs cs) shares

-- ---- the tests of both operations

-- the lengths at width n with m output bits: of the shares, of the random bytes, and, as `fits` says, of what is lent for output
unfoldable pub sbox_lengths : ℕ → ℕ → ℕ → ℕ → ℕ → Bool → Bool
sbox_lengths n m s shares random fits = eqb shares s && (eqb random (bytes_for n (sbox_draws n m s)) && fits)

-- the random elements that may be too large: none at width 4, where every string of bytes holds elements of 4 bits
unfoldable pub tested_random : ℕ → List ℕ → List ℕ
tested_random n random = cond (eqb n 4) [] (elements n random)

-- Those of the arguments at width n with m output bits, `fits` saying whether what is lent for output has its length: 7 a share count not 1 to 9; 2 a length;
-- 3 an element too large, its place counted through shares and random elements. They hand on the width.
unfoldable pub argument_tests : ℕ → ℕ → ℕ → List ℕ → List ℕ → Bool → Outcome
argument_tests n m s shares random fits =
    test (one_to 9 s) 7 0
    (test (sbox_lengths n m s (length shares) (length random) fits) 2 0
    (test_below (2 ^ n) 0 (shares ++ tested_random n random)
    (done (n ∷ []))))

-- Read's tests come first
unfoldable pub call_tests : List ℕ → ℕ → List ℕ → List ℕ → Bool → Outcome
call_tests r s shares random fits = and_then (read_outcome r) (argument_tests (width_of r) (outputs_of r) s shares random fits)

-- ---- the call

-- its tests, its steps, its random elements of as many bits as the record's width, and how many steps there are
unfoldable pub sbox_call : List ℕ → ℕ → List ℕ → List ℕ → Call
sbox_call r s shares random = record {
  tests = call_tests r s shares random;
  program = call_program r s shares;
  width = width_of r;
  random = random;
  total = sbox_steps (width_of r) (outputs_of r) s;
}

-- ---- S-box (record, s, shares, random, out)

-- the outcome, by the length of out
unfoldable pub sbox_outcome : List ℕ → ℕ → List ℕ → List ℕ → ℕ → Outcome
sbox_outcome r s shares random out = call_outcome (sbox_call r s shares random) (eqb out s)

-- what it writes: shares 0 to s - 1 of the result
unfoldable pub sbox_output : List ℕ → ℕ → List ℕ → List ℕ → List ℕ
sbox_output r s shares random = tabulate s (share (call_result (sbox_call r s shares random)))

-- ---- Watch S-box (record, s, shares, random, list, values)

-- the outcome, by the length of values
unfoldable pub watch_outcome : List ℕ → ℕ → List ℕ → List ℕ → List ℕ → ℕ → Outcome
watch_outcome r s shares random list values = call.watch_outcome (sbox_call r s shares random) list values

-- what it writes
unfoldable pub watch_output : List ℕ → ℕ → List ℕ → List ℕ → List ℕ → List ℕ
watch_output r s shares random list = call.watch_output (sbox_call r s shares random) list

-- ---- where the tests are passed

-- two lists hold the same shares, 0 past either's end
abbrev pub SameShares : List ℕ → List ℕ → Type 0
SameShares a b = (i : ℕ) → share a i ≡ share b i

-- a call with a record of width n that Read accepts, and arguments that pass the tests
pub record Callable (n : ℕ) (r : List ℕ) (s : ℕ) (shares random : List ℕ) : Type 0 where
  pub accepted : Accepted n r
  pub some : 0 < s
  pub nine : s ≤ 9
  pub shares_length : length shares ≡ s
  pub random_length : length random ≡ bytes_for n (sbox_draws n (outputs_of r) s)
  pub shares_small : Small n shares
  pub random_small : Small n (elements n random)
