-- Choices of masked operations of a key and a block: a choice settles a call, and a call a choice; the calls that are settled are accepted, with the paper's
-- figures; and a watch writes what the experiment shows. So to count tapes is to count calls.
use mathlib.Core.Path.{◌≡◌, refl, sym, ap, ◌∙◌}
use mathlib.Core.Bool.{Bool, true}
use mathlib.Core.List.{List, [], ◌∷◌}
use Prim.Native.Nat.{ℕ, ◌-◌, ◌*◌, ◌^◌, ◌≤◌, ◌<◌}
use borrow.Author.Tests.{eq-eqb}
use lib.Dec.{eqb}
use lib.ListN.{length, get_or}
use Rattle.xor.specs.Sum.{Small}
use Rattle.refusal.specs.Outcome.{done}
use Rattle.steps.specs.Program.{Run, trace}
use Rattle.steps.specs.Watch.{watched}
use Rattle.steps.specs.Tape.{elements}
use Rattle.steps.specs.Split.{settled}
use Rattle.steps.specs.TwoSecrets.{split_two}
use Rattle.steps.specs.ShareBytes.{bytes_of}
use Rattle.steps.specs.Call.{call_outcome, watch_outcome, watch_output}
use Rattle.steps.specs.Settled.{MasksFor, masks_nil, masks_cons, masks_then, Settles, settles_nil, settles_cons, Chosen, Settled}
use Rattle.steps.specs.Ciphering.{Ciphering, argument_tests, call_tests, call_program, call_of, figures_for, inputs_of, Callable, InBytes}
use Rattle.steps.proofs.Call.{HandsBack}
use Rattle.steps.proofs.Call as call
use Rattle.steps.proofs.Operations.{in_range}
use Rattle.steps.proofs.Settled.{lent_nil, lent_cons, lent_first, lent_rest, settled_lents, lent_settled}
use Rattle.steps.proofs.TwoSecrets.{two_trace}
use Rattle.steps.proofs.Ciphering.{tests_passed, call_lengths_right, Good, counts_figures}

-- ---- calls of the right lengths are accepted

module _ (c : Ciphering) (good : Good c) (records : c.records ≡ done []) {key block random : List ℕ} (a : Callable c key block random)
    (h : InBytes c key block random) where
  tests_pass : call_tests c key block random true ≡ done []
  unfolding call_tests argument_tests
  tests_pass =
      rw (
        call_lengths_right c (length key) (length block) (length random) true a.key_length a.block_length a.random_length refl,
        in_range 9 c.shares a.some a.nine,
        records,
      )
      refl

  -- An operation accepts every call of the right lengths, whatever the shares and the random elements, and hands back the figures;
  pub accepts : call_outcome (call_of c key block random) (eqb (c.block_bytes * c.shares) (c.block_bytes * c.shares)) ≡ done (figures_for c)
  unfolding call_of
  accepts =
      rw (eq-eqb (c.block_bytes * c.shares) (c.block_bytes * c.shares) refl)
      (call.call_accepted (call_of c key block random) tests_pass (counts_figures c good key block random h))

  -- and so does its watch, with any list of up to 64 step numbers.
  pub watch_accepts : (list : List ℕ) → length list ≤ 64 → ((k : ℕ) → get_or list k 0 < c.cipher.steps c.shares)
      → watch_outcome (call_of c key block random) list (length list) ≡ done (figures_for c)
  unfolding call_of
  watch_accepts = call.watch_accepted (call_of c key block random) tests_pass (counts_figures c good key block random h)

-- ---- from a choice to a call

-- what a secret and a choice settle has the right lengths, and lies in bytes
module _ (c : Ciphering) (some : 0 < c.shares) (nine : c.shares ≤ 9) {key block random : List ℕ}
    (a : Settled (inputs_of c) (key ∷ block ∷ []) random) where
  pub settled_callable : Callable c key block random
  settled_callable =
      let lents = settled_lents (inputs_of c) some a in
      record {
        some = some;
        nine = nine;
        key_length = (lent_first lents).0;
        block_length = (lent_first (lent_rest lents)).0;
        random_length = a.choice.random_length;
      }

  pub settled_bytes : InBytes c key block random
  settled_bytes =
      let lents = settled_lents (inputs_of c) some a in
      record { key_small = (lent_first lents).1; block_small = (lent_first (lent_rest lents)).1; random_small = a.choice.random_small }

module _ (c : Ciphering) (good : Good c) (records : c.records ≡ done []) (some : 0 < c.shares) (nine : c.shares ≤ 9) {key block random : List ℕ}
    (a : Settled (inputs_of c) (key ∷ block ∷ []) random) where
  -- an operation accepts it,
  pub settled_accepts : call_outcome (call_of c key block random) (eqb (c.block_bytes * c.shares) (c.block_bytes * c.shares)) ≡ done (figures_for c)
  settled_accepts = accepts c good records (settled_callable c some nine a) (settled_bytes c some nine a)

  -- and so does its watch
  pub settled_watch_accepts : (list : List ℕ) → length list ≤ 64 → ((k : ℕ) → get_or list k 0 < c.cipher.steps c.shares)
      → watch_outcome (call_of c key block random) list (length list) ≡ done (figures_for c)
  settled_watch_accepts = watch_accepts c good records (settled_callable c some nine a) (settled_bytes c some nine a)

-- ---- from a call to a choice

-- a call that passes the tests is settled by a secret and a choice
pub tests_settled : (c : Ciphering) (key block random : List ℕ) (fits : Bool) → InBytes c key block random
    → {v : List ℕ} → call_tests c key block random fits ≡ done v → Settled (inputs_of c) (key ∷ block ∷ []) random
tests_settled c key block random fits h e =
    let a = (tests_passed c key block random fits e).0 in
    lent_settled (inputs_of c) (key ∷ block ∷ []) random a.some
    (lent_cons (a.key_length, h.key_small) (lent_cons (a.block_length, h.block_small) lent_nil)) a.random_length h.random_small

-- ---- a watch writes what the experiment shows

-- Where the steps on bytes are those of a program on the numbers of the shares: for the shares that a key and a block and masks settle, the watch writes the
-- watched values of the experiment whose tape is the masks of the key, those of the block, and the random elements.
module _ (c : Ciphering) (numbers : List ℕ → List ℕ → Run (List ℕ))
    (same : (k x : ℕ) (l m : List ℕ) → length l ≡ c.shares - 1 → Small (8 * c.key_bytes) l → k < 2 ^ (8 * c.key_bytes)
    → length m ≡ c.shares - 1 → Small (8 * c.block_bytes) m → x < 2 ^ (8 * c.block_bytes)
    → call_program c (bytes_of c.key_bytes (settled k l)) (bytes_of c.block_bytes (settled x m)) ≡ numbers (settled k l) (settled x m)) where
  -- the experiment
  abbrev drawn : ℕ × ℕ → Run (List ℕ)
  drawn = split_two (8 * c.key_bytes) (8 * c.block_bytes) c.shares numbers

  pub shows : (k x : ℕ) {masks : List (List ℕ)} {key block : List ℕ} (random list : List ℕ) → MasksFor c.shares (inputs_of c).secrets masks
      → Settles (inputs_of c).secrets (k ∷ x ∷ []) masks (key ∷ block ∷ [])
      → watch_output (call_of c key block random) list ≡ watched list (trace (drawn (k, x)) (masks_then masks (elements c.width random)))
  unfolding call_of watch_output masks_then
  shows k x random list
      (masks_cons {l = l} el hl (masks_cons {l = m} em hm masks_nil)) (settles_cons hk key_is (settles_cons hx block_is settles_nil)) =
      rw (key_is, block_is)
      (ap (λ (p : Run (List ℕ)). watched list (trace p (elements c.width random))) (same k x l m el hl hk em hm hx)
      ∙ ap (watched list) (sym (two_trace (8 * c.key_bytes) (8 * c.block_bytes) c.shares numbers (k, x) l m (elements c.width random) el em)))

  -- the watch of the call that a tape settles is accepted, and writes what the experiment shows on it
  pub tape_watched : Good c → c.records ≡ done [] → 0 < c.shares → c.shares ≤ 9 → (k x : ℕ) {tape key block : List ℕ}
      → (o : Chosen (inputs_of c) tape) → Settles (inputs_of c).secrets (k ∷ x ∷ []) o.masks (key ∷ block ∷ [])
      → (list : List ℕ) → length list ≤ 64 → ((i : ℕ) → get_or list i 0 < c.cipher.steps c.shares)
      → (watch_outcome (call_of c key block o.random) list (length list) ≡ done (figures_for c))
      × (watch_output (call_of c key block o.random) list ≡ watched list (trace (drawn (k, x)) tape))
  tape_watched good records some nine k x {tape} {key} {block} o h list few below =
      let settled : Settled (inputs_of c) (key ∷ block ∷ []) o.random =
      record { values = k ∷ x ∷ []; masks = o.masks; choice = o.choice; settles = h } in (
        settled_watch_accepts c good records some nine settled list few below,
        shows k x o.random list o.choice.masks_are h ∙ ap (λ (t : List ℕ). watched list (trace (drawn (k, x)) t)) (sym o.tape_is),
      )
