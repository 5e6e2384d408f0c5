-- DONE OR REFUSED. No operation refuses with the number 0; so the first of the four words is 0 if and only if the operation is done.
use mathlib.Core.Path.{◌≡◌, refl}
use mathlib.Core.Bool.{Bool, true, false}
use mathlib.Core.List.{List, [], ◌∷◌, ◌++◌}
use Prim.Native.Nat.{ℕ, ◌<◌, ◌+◌, ◌*◌, ◌^◌}
use native.Mathlib.Omega.{arith}
use lib.Dec.{leb, eqb}
use lib.ListN.{length, get_or}
use Rattle.refusal.specs.Outcome.{Outcome, done, refused, test, and_then}
use Rattle.refusal.specs.Range.{one_to}
use Rattle.refusal.specs.Large.{first_large, test_below}
use Rattle.refusal.specs.Watch.{list_fits, test_steps}
use Rattle.steps.specs.Call.{Call, call_counts}
use Rattle.steps.specs.Call as call
use Rattle.steps.specs.Operations.{split_lengths, split_outcome, join_lengths, join_outcome}
use Rattle.decomposition.specs.Record.{coefficients_of, layout_of, marked, outputs_of, read_outcome, version_of, width_of}
use Rattle.decomposition.specs.Check.{check_outcome, check_at, first_difference, record_output}
use Rattle.decomposition.specs.Fit.{FitCall, fit_lengths, fit_outcome, all_tests, house_basis, house_outcome}
use Rattle.decomposition.specs.Layout.{head, known, layout, paired, record_size}
use Rattle.decomposition.specs.Solution.{solvable}
use Rattle.sbox.specs.Operations as sbox
use Rattle.steps.specs.Ciphering as ciphering
use Rattle.cipher.specs.Ciphering as present
use Rattle.cipher.specs.Operations as cipher
use Rattle.cipher.specs.OpenOperations as opening
use Rattle.present.specs.Present.{table, Size}
use Rattle.present.specs.Decrypt.{inverse_table}
use Rattle.unshared.specs.Operations.{unshared_lengths, unshared_outcome}
use Rattle.aes.specs.Operations as aes
use Rattle.refusal.specs.Words.{words}
use Rattle.capi.specs.Words.{Told}

-- a test whose number is not 0, before tests of which the same is said
told_test : (b : Bool) (number place : ℕ) (next : Outcome) → 0 < number → Told next → Told (test b number place next)
told_test true number place next h t = t
told_test false number place next h t = h

told_then : (o next : Outcome) → Told o → Told next → Told (and_then o next)
told_then (done numbers) next t u = u
told_then (refused number place) next t u = t

told_below : (bound a : ℕ) (l : List ℕ) (next : Outcome) → Told next → Told (test_below bound a l next)
told_below bound a l next t = told_test (leb (length l) (first_large bound l)) 3 (a + first_large bound l) next (omega arith) t

told_steps : (total : ℕ) (list : List ℕ) (next : Outcome) → Told next → Told (test_steps total list next)
told_steps total list next t = told_test (leb (length list) (first_large total list)) 8 (first_large total list) next (omega arith) t

-- ---- the operations

pub read_told : (r : List ℕ) → Told (read_outcome r)
unfolding read_outcome
read_told r =
    let L = layout_of r in
    let v = version_of r in
    told_test (leb 6 (length r)) 2 0 _ (omega arith)
    (told_test (marked r) 5 0 _ (omega arith)
    (told_test (known (width_of r)) 1 0 _ (omega arith)
    (told_test (leb (head v) (length r)) 2 0 _ (omega arith)
    (told_test (paired (width_of r) (outputs_of r)) 9 0 _ (omega arith)
    (told_test (eqb (length r) (record_size v L)) 2 0 _ (omega arith)
    (told_below L.inputs (head v) (coefficients_of r) (done (L.width ∷ [])) tt))))))

pub check_told : (r table : List ℕ) → Told (check_outcome r table)
unfolding check_outcome
check_told r table =
    let L = layout_of r in
    let first = first_difference (record_output L r) table in
    told_then (read_outcome r) (check_at L r table) (read_told r)
    (told_test (eqb (length table) L.inputs) 2 0 _ (omega arith)
    (told_below L.entries 0 table _
    (told_test (leb (length table) first) 6 first (done []) (omega arith) tt)))

pub fit_told : (n m : ℕ) (c : FitCall) → Told (fit_outcome n m c)
unfolding fit_outcome
fit_told n m c =
    let L = layout n m in
    told_then (all_tests n m c) (test (solvable L c.table c.basis) 4 0 (done []))
    (told_test (known n) 1 0 _ (omega arith)
    (told_test (paired n m) 9 0 _ (omega arith)
    (told_test (fit_lengths L (length c.table) (length c.basis) (length c.work) (length c.out)) 2 0 _ (omega arith)
    (told_below L.entries 0 c.table _
    (told_below L.inputs (length c.table) c.basis (done []) tt)))))
    (told_test (solvable L c.table c.basis) 4 0 (done []) (omega arith) tt)

pub house_told : (table work out : List ℕ) → Told (house_outcome table work out)
unfolding house_outcome
house_told table work out =
    told_test (fit_lengths (layout 4 4) (length table) (length house_basis) (length work) (length out)) 2 0 _ (omega arith)
    (told_below 16 0 table (done []) tt)

-- a masked call whose tests are such, and its watch
call_told : (c : Call) (fits : Bool) → Told (c.tests fits) → Told (call.call_outcome c fits)
unfolding call.call_outcome
call_told c fits t = told_then (c.tests fits) (done (call_counts c)) t tt

watch_told : (c : Call) (list : List ℕ) (values : ℕ) → Told (c.tests (list_fits (length list) values)) → Told (call.watch_outcome c list values)
unfolding call.watch_outcome
watch_told c list values t =
    let end = done (call_counts c) in
    told_then (c.tests (list_fits (length list) values)) (test_steps c.total list end) t (told_steps c.total list end tt)

sbox_tests_told : (r : List ℕ) (s : ℕ) (shares random : List ℕ) (fits : Bool) → Told (sbox.call_tests r s shares random fits)
unfolding sbox.call_tests sbox.argument_tests
sbox_tests_told r s shares random fits =
    let n = width_of r in
    let m = outputs_of r in
    told_then (read_outcome r) (sbox.argument_tests n m s shares random fits) (read_told r)
    (told_test (one_to 9 s) 7 0 _ (omega arith)
    (told_test (sbox.sbox_lengths n m s (length shares) (length random) fits) 2 0 _ (omega arith)
    (told_below (2 ^ n) 0 (shares ++ sbox.tested_random n random) (done (n ∷ [])) tt)))

pub sbox_told : (r : List ℕ) (s : ℕ) (shares random : List ℕ) (out : ℕ) → Told (sbox.sbox_outcome r s shares random out)
unfolding sbox.sbox_outcome sbox.sbox_call
sbox_told r s shares random out = call_told (sbox.sbox_call r s shares random) (eqb out s) (sbox_tests_told r s shares random (eqb out s))

pub sbox_watch_told : (r : List ℕ) (s : ℕ) (shares random list : List ℕ) (values : ℕ) → Told (sbox.watch_outcome r s shares random list values)
unfolding sbox.watch_outcome sbox.sbox_call
sbox_watch_told r s shares random list values =
    watch_told (sbox.sbox_call r s shares random) list values (sbox_tests_told r s shares random (list_fits (length list) values))

record_told : (t r : List ℕ) → Told (present.record_tests t r)
unfolding present.record_tests
record_told t r =
    told_then (read_outcome r) (test (eqb (width_of r) 4) 1 0 (test (present.computes_table t r) 6 0 (done []))) (read_told r)
    (told_test (eqb (width_of r) 4) 1 0 _ (omega arith)
    (told_test (present.computes_table t r) 6 0 (done []) (omega arith) tt))

tests_told : (c : ciphering.Ciphering) → Told c.records → (key block random : List ℕ) (fits : Bool) → Told (ciphering.call_tests c key block random fits)
unfolding ciphering.call_tests ciphering.argument_tests
tests_told c t key block random fits =
    told_then c.records (ciphering.argument_tests c key block random fits) t
    (told_test (one_to 9 c.shares) 7 0 _ (omega arith)
    (told_test (ciphering.call_lengths c (length key) (length block) (length random) fits) 2 0 (done []) (omega arith) tt))

pub block_told : (r : List ℕ) (s : ℕ) (key block random : List ℕ) (out : ℕ) → Told (cipher.block_outcome r s key block random out)
unfolding cipher.block_outcome ciphering.call_of
block_told r s key block random out =
    call_told (cipher.block_call r s key block random) (eqb out (8 * s)) (tests_told (cipher.sealing r s) (record_told table r) key block random (eqb out (8 * s)))

pub block_watch_told : (r : List ℕ) (s : ℕ) (key block random list : List ℕ) (values : ℕ) → Told (cipher.watch_outcome r s key block random list values)
unfolding cipher.watch_outcome ciphering.call_of
block_watch_told r s key block random list values =
    watch_told (cipher.block_call r s key block random) list values
    (tests_told (cipher.sealing r s) (record_told table r) key block random (list_fits (length list) values))

both_told : (r q : List ℕ) → Told (opening.both_tests r q)
unfolding opening.both_tests
both_told r q = told_then (present.record_tests table r) (present.record_tests inverse_table q) (record_told table r) (record_told inverse_table q)

pub open_told : (r q : List ℕ) (s : ℕ) (key block random : List ℕ) (out : ℕ) → Told (opening.open_outcome r q s key block random out)
unfolding opening.open_outcome ciphering.call_of
open_told r q s key block random out =
    call_told (opening.open_call r q s key block random) (eqb out (8 * s)) (tests_told (opening.opening r q s) (both_told r q) key block random (eqb out (8 * s)))

pub open_watch_told : (r q : List ℕ) (s : ℕ) (key block random list : List ℕ) (values : ℕ)
    → Told (opening.watch_open_outcome r q s key block random list values)
unfolding opening.watch_open_outcome ciphering.call_of
open_watch_told r q s key block random list values =
    watch_told (opening.open_call r q s key block random) list values
    (tests_told (opening.opening r q s) (both_told r q) key block random (list_fits (length list) values))

pub unshared_told : (z : Size) (key block out : ℕ) → Told (unshared_outcome z key block out)
unfolding unshared_outcome
unshared_told z key block out = told_test (unshared_lengths z key block out) 2 0 (done []) (omega arith) tt

pub aes_block_told : (s : ℕ) (key block random : List ℕ) (out : ℕ) → Told (aes.block_outcome s key block random out)
unfolding aes.block_outcome ciphering.call_of
aes_block_told s key block random out =
    call_told (aes.block_call s key block random) (eqb out (16 * s)) (tests_told (aes.enciphering s) tt key block random (eqb out (16 * s)))

pub aes_block_watch_told : (s : ℕ) (key block random list : List ℕ) (values : ℕ) → Told (aes.watch_outcome s key block random list values)
unfolding aes.watch_outcome ciphering.call_of
aes_block_watch_told s key block random list values =
    watch_told (aes.block_call s key block random) list values (tests_told (aes.enciphering s) tt key block random (list_fits (length list) values))

pub split_told : (value s masks out : ℕ) → Told (split_outcome value s masks out)
unfolding split_outcome
split_told value s masks out =
    told_test (one_to 9 s) 7 0 _ (omega arith)
    (told_test (split_lengths value s masks out) 2 0 (done []) (omega arith) tt)

pub join_told : (shares s out : ℕ) → Told (join_outcome shares s out)
unfolding join_outcome
join_told shares s out =
    told_test (one_to 9 s) 7 0 _ (omega arith)
    (told_test (join_lengths shares s out) 2 0 (done []) (omega arith) tt)

-- ---- the first word

-- it is 0 only where the operation is done
pub zero_done : (o : Outcome) → Told o → get_or (words o) 0 0 ≡ 0 → (numbers : List ℕ) × (o ≡ done numbers)
unfolding words
zero_done (done numbers) t e = (numbers, refl)
zero_done (refused number place) t e = absurd (omega arith)

-- and the number of the refusal else
pub number_refused : (number place : ℕ) → get_or (words (refused number place)) 0 0 ≡ number
unfolding words
number_refused number place = refl
