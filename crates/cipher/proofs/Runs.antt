-- What the parts of a round come to on the machine.
use mathlib.Core.Path.{◌≡◌}
use mathlib.Core.List.{List}
use Prim.Native.Nat.{ℕ, ◌+◌, ◌-◌, ◌^◌, ◌<◌}
use lib.ListN.{length}
use Rattle.xor.specs.Xor.{◌⊕◌}
use Rattle.steps.specs.Program.{Touch, Run, one, return, ◌>>◌, note}
use Rattle.steps.specs.Machine as machine
use Rattle.steps.specs.Machine.{State, exec, Ready, Went}
use Rattle.steps.specs.Sharing.{share, share_wise, alone}
use Rattle.steps.proofs.Program.{for_once}
use Rattle.steps.proofs.Parts.{ready_first, went_map}
use Rattle.steps.proofs.StepsAlone.{StepsAlone, alone_return, alone_then, alone_note, alone_for}
use Rattle.present.specs.Present.{nibble, Size, size80, round_number, number_nibble, top_nibble}
use Rattle.present.specs.Masked.{note_nibbles, note_shares, recorded, masked_add_round_key, masked_permute, masked_rotate, add_round_number, masked_nibble, masked_top_nibbles}
use Rattle.present.specs.Opening.{masked_unpermute, masked_unrotate, masked_back_top_nibbles}

-- ---- recording

-- the element x is recorded, which code has as v
module _ (t : Touch) (x : ℕ) {m : State} where
  pub note_went : (v : ℕ) {m' : State} → v ≡ x → m' ≡ machine.recorded v m → Went (note t x) m x m'
  unfolding note exec
  note_went v ev e = record { runs = rw (e, ev) }

  pub note_room : Ready (note t x) m → (m.counts.steps + 1 < 2 ^ 32) × (length m.watch ≡ length m.values)
  unfolding note exec
  note_room y = (y.steps_fit, y.places)

-- the turn of the loop that records the nibbles of share i, which is x
abbrev pub nibble_turn : ℕ → ℕ → ℕ → Unit {0} → Run Unit
nibble_turn i x j u = note (one i) (nibble j x) >> return u

-- the turn of the loop that records n nibbles of each share of a
abbrev pub share_turn : ℕ → List ℕ → ℕ → Unit {0} → Run Unit
share_turn n a i u = note_nibbles i 0 n (share a i)

module _ {m : State} where
  -- the sharing a is recorded, which code has as b
  pub recorded_ready : (n s : ℕ) (a b : List ℕ) → Ready (recorded n s a) m → b ≡ a → Ready (note_shares n s b) m
  unfolding recorded ◌>>◌
  recorded_ready n s a b y e = rw e (ready_first (note_shares n s a) (λ u. return a) y)

  pub recorded_went : (n s : ℕ) (a b : List ℕ) {m' : State} → Went (note_shares n s b) m tt m' → b ≡ a → Went (recorded n s a) m b m'
  unfolding recorded ◌>>◌
  recorded_went n s a b w e = rw (← e) (went_map (λ u. b) w)

  -- the round number is added
  pub number_ready : (z : Size) (r x : ℕ) (a b : List ℕ) → Ready (add_round_number z r a) m
      → b ≡ share_wise ◌⊕◌ a (alone (round_number z r)) → share b 0 ≡ x
      → Ready (note_nibbles 0 (number_nibble z) (number_nibble z + 2) x) m
  unfolding add_round_number ◌>>◌
  number_ready z r x a b y e f = rw (← f, e) (ready_first _ _ y)

  pub number_went : (z : Size) (r x : ℕ) (a b : List ℕ) {m' : State}
      → Went (note_nibbles 0 (number_nibble z) (number_nibble z + 2) x) m tt m'
      → b ≡ share_wise ◌⊕◌ a (alone (round_number z r)) → share b 0 ≡ x → Went (add_round_number z r a) m b m'
  unfolding add_round_number ◌>>◌
  number_went z r x a b w e f = rw (← e, f) (went_map (λ u. b) w)

-- ---- the linear parts take steps alone

nibbles_alone : (i k n x : ℕ) → StepsAlone (note_nibbles i k n x)
unfolding note_nibbles
nibbles_alone i k n x = alone_for k n (λ j u. alone_then (alone_note _ _) alone_return) tt

recorded_alone : (m s : ℕ) (a : List ℕ) → StepsAlone (recorded m s a)
unfolding recorded note_shares
recorded_alone m s a = alone_then (alone_for 0 s (λ i u. nibbles_alone i 0 m _) tt) alone_return

pub addition_alone : (z : Size) (s : ℕ) (k a : List ℕ) → StepsAlone (masked_add_round_key z s k a)
unfolding masked_add_round_key
addition_alone z s k a = recorded_alone _ s _

pub permutation_alone : (s : ℕ) (a : List ℕ) → StepsAlone (masked_permute s a)
unfolding masked_permute
permutation_alone s a = recorded_alone _ s _

pub rotation_alone : (z : Size) (s : ℕ) (k : List ℕ) → StepsAlone (masked_rotate z s k)
unfolding masked_rotate
rotation_alone z s k = recorded_alone _ s _

pub unpermutation_alone : (s : ℕ) (a : List ℕ) → StepsAlone (masked_unpermute s a)
unfolding masked_unpermute
unpermutation_alone s a = recorded_alone _ s _

pub unrotation_alone : (z : Size) (s : ℕ) (k : List ℕ) → StepsAlone (masked_unrotate z s k)
unfolding masked_unrotate
unrotation_alone z s k = recorded_alone _ s _

pub number_alone : (z : Size) (r : ℕ) (k : List ℕ) → StepsAlone (add_round_number z r k)
unfolding add_round_number
number_alone z r k = alone_then (nibbles_alone _ _ _ _) alone_return

-- ---- the S-box of the key update is that of its top nibble

pub top_nibble_lem : (box : List ℕ → Run (List ℕ)) (a : List ℕ) → masked_top_nibbles box size80 a ≡ masked_nibble box 19 a
unfolding masked_top_nibbles
top_nibble_lem box a = for_once 0 (λ j. masked_nibble box (top_nibble size80 j)) a

pub back_top_nibble : (box : List ℕ → Run (List ℕ)) (a : List ℕ) → masked_back_top_nibbles box size80 a ≡ masked_nibble box 19 a
unfolding masked_back_top_nibbles
back_top_nibble box a = for_once 0 (λ j. masked_nibble box (top_nibble size80 (0 + 1 - 1 - j))) a
