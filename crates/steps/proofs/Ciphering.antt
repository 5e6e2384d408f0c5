-- The laws of masked operations of a key and a block: the arguments that pass the tests, and what a run hands back and writes.
use mathlib.Core.Path.{◌≡◌, refl, ap}
use mathlib.Core.Bool.{Bool, true, and-eq-true_iff}
use mathlib.Core.List.{List, [], ◌∷◌}
use Prim.Native.Nat.{ℕ, ◌*◌, ◌≤◌, ◌<◌}
use borrow.Author.Tests.{eqb-true, eq-eqb}
use lib.Dec.{eqb}
use lib.ListN.{length}
use Rattle.xor.specs.Sum.{Small}
use Rattle.refusal.specs.Outcome.{done}
use Rattle.refusal.specs.Range.{one_to}
use Rattle.refusal.specs.Large.{first_large}
use Rattle.refusal.proofs.Outcome.{passed, then_passed}
use Rattle.refusal.proofs.Range.{one_to_range}
use Rattle.steps.specs.declared.counts.Counts.{Counts}
use Rattle.steps.specs.Tape.{elements, bytes_for}
use Rattle.steps.specs.Machine.{State, start_of, Ready, Went, Whole}
use Rattle.steps.specs.Alike.{SameLengths}
use Rattle.steps.specs.Operations.{join_shares}
use Rattle.steps.specs.Call.{call_counts, call_outcome, call_result, watch_outcome, watch_output, figures_of}
use Rattle.steps.specs.Ciphering.{Ciphering, call_lengths, argument_tests, call_tests, call_program, call_of, output_of, figures_for, Callable, InBytes, Right}
use Rattle.steps.proofs.Call.{HandsBack}
use Rattle.steps.proofs.Call as call

-- ---- a call that passes the tests

-- the lengths that a call takes, and that these are all
call_lengths_lem : (c : Ciphering) (key block random : ℕ) (fits : Bool) → call_lengths c key block random fits ≡ true
    → (key ≡ c.key_bytes * c.shares) × (block ≡ c.block_bytes * c.shares) × (random ≡ bytes_for c.width (c.cipher.draws c.shares)) × (fits ≡ true)
unfolding call_lengths
call_lengths_lem c key block random fits e =
    let x = (and-eq-true_iff (eqb key (c.key_bytes * c.shares)) _).0 e in
    let y = (and-eq-true_iff (eqb block (c.block_bytes * c.shares)) _).0 x.1 in
    let z = (and-eq-true_iff (eqb random (bytes_for c.width (c.cipher.draws c.shares))) fits).0 y.1 in
    (eqb-true _ _ x.0, eqb-true _ _ y.0, eqb-true _ _ z.0, z.1)

pub call_lengths_right : (c : Ciphering) (key block random : ℕ) (fits : Bool)
    → key ≡ c.key_bytes * c.shares → block ≡ c.block_bytes * c.shares → random ≡ bytes_for c.width (c.cipher.draws c.shares) → fits ≡ true
    → call_lengths c key block random fits ≡ true
unfolding call_lengths
call_lengths_right c key block random fits ek eb er ef =
    rw (
      eq-eqb key (c.key_bytes * c.shares) ek,
      eq-eqb block (c.block_bytes * c.shares) eb,
      eq-eqb random (bytes_for c.width (c.cipher.draws c.shares)) er,
      ef,
    )
    refl

-- where the tests are passed, so is each of them: of the records,
pub records_passed : (c : Ciphering) (key block random : List ℕ) (fits : Bool) {numbers : List ℕ} → call_tests c key block random fits ≡ done numbers
    → (v : List ℕ) × (c.records ≡ done v)
unfolding call_tests
records_passed c key block random fits e = let a = then_passed c.records _ e in (a.0, a.1)

-- and of the arguments
pub tests_passed : (c : Ciphering) (key block random : List ℕ) (fits : Bool) {numbers : List ℕ} → call_tests c key block random fits ≡ done numbers
    → Callable c key block random × (fits ≡ true)
unfolding call_tests argument_tests
tests_passed c key block random fits e =
    let a = then_passed c.records _ e in
    let f = passed (one_to 9 c.shares) 7 0 _ a.2 in
    let g = passed (call_lengths c (length key) (length block) (length random) fits) 2 0 _ f.1 in
    let lengths = call_lengths_lem c (length key) (length block) (length random) fits g.0 in
    let range = one_to_range 9 c.shares f.0 in (
      record {
        some = range.0;
        nine = range.1;
        key_length = lengths.0;
        block_length = lengths.1;
        random_length = lengths.2;
      },
      lengths.3,
    )

-- ---- what is asked of an operation

-- so much where its records pass their tests, with 1 to 9 shares
pub record Good (c : Ciphering) : Type 0 where
  pub elements_small : (random : List ℕ) → Small 8 random → Small c.width (elements c.width random)
  pub right : {v : List ℕ} → c.records ≡ done v → 0 < c.shares → c.shares ≤ 9 → Right c

-- and so of a call that passes the tests
pub good_call : (c : Ciphering) (key block random : List ℕ) (fits : Bool) {numbers : List ℕ} → Good c → call_tests c key block random fits ≡ done numbers
    → Right c
good_call c key block random fits good e =
    let a = (tests_passed c key block random fits e).0 in
    good.right (records_passed c key block random fits e).1 a.some a.nine

-- bytes of a call
pub in_bytes : {c : Ciphering} {key block random : List ℕ} → Right c → Small 8 key → Small 8 block → Small 8 random → InBytes c key block random
in_bytes right hk hb hr = record { key_small = hk; block_small = hb; random_small = right.elements_small _ hr }

-- ---- its run

module _ {c : Ciphering} (right : Right c) {key block random : List ℕ} (a : Callable c key block random) (h : InBytes c key block random) where
  -- it may run
  pub call_ready : {watch vs : List ℕ} → length watch ≡ length vs → Ready (call_program c key block) (start_of (elements c.width random) watch vs)
  unfolding call_of
  call_ready e =
      let few = right.few in
      call.call_ready (call_of c key block random) (right.takes a h) few.0 few.1 few.2 a.random_length e

  -- what a watch leaves, where each number of the list is that of a step
  pub call_watched : {list vs x : List ℕ} {m : State} → length list ≡ length vs → length list ≤ first_large (c.cipher.steps c.shares) list
      → Went (call_program c key block) (start_of (elements c.width random) list vs) x m → m.values ≡ watch_output (call_of c key block random) list
  unfolding call_of
  call_watched e below w = call.call_watched (call_of c key block random) (right.takes a h) right.some_steps e below w

module _ (c : Ciphering) (key block random : List ℕ) {x : List ℕ} {n : Counts} (w : Whole (elements c.width random) (call_program c key block) x n) where
  -- what it hands back and writes
  pub call_counts_lem : call_counts (call_of c key block random) ≡ n.products ∷ bytes_for c.width n.random ∷ n.steps ∷ []
  unfolding call_of
  call_counts_lem = call.call_counts_lem (call_of c key block random) w

  pub call_output : c.cipher.written c.shares x ≡ output_of c key block random
  unfolding output_of call_of
  call_output = ap (c.cipher.written c.shares) (call.call_result_lem (call_of c key block random) w)

-- ---- answers alike, and what is handed back

-- the tests go by the records and lengths
tests_alike : (c : Ciphering) {key key' block block' random random' : List ℕ} → SameLengths key key' block block' random random'
    → (fits : Bool) → call_tests c key block random fits ≡ call_tests c key' block' random' fits
unfolding call_tests argument_tests
tests_alike c h fits = rw (h.same_key, h.same_block, h.same_random)

module _ (c : Ciphering) (good : Good c) where
  -- bytes that are lent
  pub lies : (key block random : List ℕ) → Small 8 key → Small 8 block → Small 8 random → InBytes c key block random
  lies key block random hk hb hr = record { key_small = hk; block_small = hb; random_small = good.elements_small random hr }

  -- where the tests are passed the figures are the paper's
  pub counts_figures : (key block random : List ℕ) → InBytes c key block random → HandsBack (call_of c key block random) (figures_for c)
  unfolding figures_for call_of figures_of
  counts_figures key block random h fits v e =
      call.counts_taken (call_of c key block random)
      ((good_call c key block random fits good e).takes (tests_passed c key block random fits e).0 h)

  module _ (key block random : List ℕ) (hk : Small 8 key) (hb : Small 8 block) (hr : Small 8 random) {v : List ℕ} where
    -- a call that is done hands back the figures,
    pub call_figures : (fits : Bool) → call_outcome (call_of c key block random) fits ≡ done v → v ≡ figures_for c
    call_figures = call.call_figures (call_of c key block random) (counts_figures key block random (lies key block random hk hb hr))

    -- and so does its watch
    pub watch_figures : (list : List ℕ) (values : ℕ) → watch_outcome (call_of c key block random) list values ≡ done v → v ≡ figures_for c
    watch_figures = call.watch_figures (call_of c key block random) (counts_figures key block random (lies key block random hk hb hr))

  module _ {key key' block block' random random' : List ℕ} (h : SameLengths key key' block block' random random') where
    first : HandsBack (call_of c key block random) (figures_for c)
    first = counts_figures key block random (lies key block random h.key_bytes h.block_bytes h.random_bytes)

    second : HandsBack (call_of c key' block' random') (figures_for c)
    second = counts_figures key' block' random' (lies key' block' random' h.key_bytes' h.block_bytes' h.random_bytes')

    pub calls_alike : (fits : Bool) → call_outcome (call_of c key block random) fits ≡ call_outcome (call_of c key' block' random') fits
    unfolding call_of
    calls_alike = call.call_answers (call_of c key block random) (call_of c key' block' random') (tests_alike c h) first second

    pub watches_alike : (list : List ℕ) (values : ℕ)
        → watch_outcome (call_of c key block random) list values ≡ watch_outcome (call_of c key' block' random') list values
    unfolding call_of
    watches_alike = call.watch_answers (call_of c key block random) (call_of c key' block' random') (tests_alike c h) first second refl

-- ---- THE BYTES

-- If it answers done, what Join writes from what it writes is what it computes of what Join writes from the shares of the key and of the block.
pub join_written : (c : Ciphering) → Good c → (key block random : List ℕ) (fits : Bool) → InBytes c key block random
    → {v : List ℕ} → call_outcome (call_of c key block random) fits ≡ done v
    → join_shares c.block_bytes c.shares (output_of c key block random)
    ≡ c.cipher.computes (join_shares c.key_bytes c.shares key) (join_shares c.block_bytes c.shares block)
unfolding output_of call_of call_result
join_written c good key block random fits h e =
    let t = (call.call_passed (call_of c key block random) fits e).1 in
    (good_call c key block random fits good t).joins (tests_passed c key block random fits t).0 h
