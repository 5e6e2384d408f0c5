-- What the parts of a block come to on the machine.
use mathlib.Core.Path.{◌≡◌, refl, ap, ◌∙◌}
use mathlib.Core.List.{List, [], ◌∷◌}
use Prim.Native.Nat.{ℕ, zero, suc, ◌+◌, ◌*◌, ◌/◌, ◌^◌, ◌≤◌, ◌<◌}
use native.Mathlib.Nat.{sub-zero}
use native.Mathlib.Numerals.{add-one}
use native.Mathlib.Omega.{arith}
use lib.ListN.{length, get_or, take, drop, set}
use lib.Seq.{drop-cons}
use Rattle.xor.specs.Xor.{◌⊕◌}
use Rattle.steps.specs.Program.{Run, return, one, ◌>>=◌, ◌>>◌, note, loop, for}
use Rattle.steps.specs.Sharing.{share}
use Rattle.steps.specs.Machine.{State, Ended, recorded, recorded_all, exec, Ready, Went}
use Rattle.steps.proofs.Parts.{ready_first, went_map}
use Rattle.steps.proofs.StepsAlone.{StepsAlone, alone_return, alone_bind, alone_then, alone_note, alone_for}
use Rattle.product.specs.ByShare.{by_share, constant, square}
use Rattle.rijndael.specs.Strings.{byte_at, note_bytes, record_string, make_shares, take_at, put_shares}
use Rattle.rijndael.specs.Rijndael.{linear_part, affine_constant, rcon, Expanding}
use Rattle.rijndael.specs.Masked.{masked_shift_rows, masked_mix_columns, masked_add_round_key, masked_rot_word, masked_rcon, masked_new_word, masked_sub_byte}
use Rattle.aes.specs.Sbox.{sixteenth, powers, affine_share, affine}

-- ---- recording

module _ (m : ℕ) (a : List ℕ) where
  -- the step of place p
  abbrev note_at : ℕ → Unit {0} → Run Unit
  note_at p u = note (one (p / m)) (get_or a p 0) >> return u

  -- the steps of k places from i on
  notes_run : (k i : ℕ) (s : State) → i + k ≤ length a → exec (loop note_at i k tt) s ≡ record { result = tt; state = recorded_all (take k (drop i a)) s }
  unfolding exec loop note ◌>>=◌ ◌>>◌ recorded_all
  notes_run zero i s l = refl
  notes_run (suc k) i s l = rw (drop-cons a i 0 (omega arith), ← add-one i) (notes_run k (i + 1) _ (omega arith))

  string_runs : (n : ℕ) (s : State) → n * m ≤ length a → exec (record_string m n a) s ≡ record { result = a; state = recorded_all (take (n * m) a) s }
  unfolding record_string note_bytes for ◌>>◌
  string_runs n s l =
      let e : exec (loop note_at 0 (n * m) tt) s ≡ record { result = tt; state = recorded_all (take (n * m) a) s } = notes_run (n * m) 0 s (omega arith) in
      let w : Went (loop note_at 0 (n * m) tt) s tt (recorded_all (take (n * m) a) s) = record { runs = e } in
      rw (sub-zero (n * m)) (went_map (λ u. a) w).runs

recorded_steps : (xs : List ℕ) (s : State) → (recorded_all xs s).counts.steps ≡ s.counts.steps + length xs
unfolding recorded_all
recorded_steps [] s = omega arith
recorded_steps (x ∷ xs) s = recorded_steps xs (recorded x s) ∙ omega arith

module _ (m n : ℕ) (a : List ℕ) (room : n * m ≤ length a) {s : State} where
  -- what the recorder asks, and what it leaves
  pub string_room : Ready (record_string m n a) s → (s.counts.steps + length (take (n * m) a) < 2 ^ 32) × (length s.watch ≡ length s.values)
  string_room y =
      let e = ap (λ (x : Ended (List ℕ)). x.state.counts.steps) (string_runs m a n s room) ∙ recorded_steps (take (n * m) a) s in
      (omega (arith, e, y.steps_fit), y.places)

  pub string_went : {s' : State} → s' ≡ recorded_all (take (n * m) a) s → Went (record_string m n a) s a s'
  string_went e = record { runs = string_runs m a n s room ∙ rw e }

-- ---- the S-box on a byte: code takes it as x, and puts v back

module _ {s : State} where
  pub byte_ready : (box : List ℕ → Run (List ℕ)) (m n j : ℕ) (a x : List ℕ) → Ready (masked_sub_byte box m n j a) s
      → x ≡ make_shares n m 0 1 (take_at j) a [] → Ready (box x) s
  unfolding masked_sub_byte
  byte_ready box m n j a x y e = rw e (ready_first (box (make_shares n m 0 1 (take_at j) a [])) (λ v. return (put_shares n m j 1 a v)) y)

  pub byte_went : (box : List ℕ → Run (List ℕ)) (m n j : ℕ) (a x v b : List ℕ) {s' : State}
      → Went (box x) s v s' → x ≡ make_shares n m 0 1 (take_at j) a [] → b ≡ put_shares n m j 1 a v
      → Went (masked_sub_byte box m n j a) s b s'
  unfolding masked_sub_byte
  byte_went box m n j a x v b w e f = rw (f, ← e) (went_map (put_shares n m j 1 a) w)

-- ---- the affine map of a share

module _ (a : List ℕ) (i : ℕ) {s : State} where
  pub affine_room : Ready (affine_share a i) s → (s.counts.steps + 1 < 2 ^ 32) × (length s.watch ≡ length s.values)
  unfolding affine_share note exec
  affine_room y = (y.steps_fit, y.places)

  pub affine_went : (v : ℕ) {s' : State} → v ≡ linear_part (share a i) ⊕ constant i affine_constant → s' ≡ recorded v s
      → Went (affine_share a i) s v s'
  unfolding affine_share note exec
  affine_went v ev e = record { runs = rw (e, ev) refl }

-- ---- Rcon

module _ (r : ℕ) (t : List ℕ) {s : State} where
  pub rcon_room : Ready (masked_rcon r t) s → (s.counts.steps + 1 < 2 ^ 32) × (length s.watch ≡ length s.values)
  unfolding masked_rcon note ◌>>=◌ exec
  rcon_room y = (y.steps_fit, y.places)

  pub rcon_went : (v : ℕ) {s' : State} → v ≡ byte_at t 0 ⊕ byte_at (rcon r) 0 → s' ≡ recorded v s → Went (masked_rcon r t) s (set t 0 v) s'
  unfolding masked_rcon note ◌>>=◌ exec
  rcon_went v ev e = record { runs = rw (e, ev) refl }

-- ---- which parts take steps alone

recorded_alone : (m s : ℕ) (a : List ℕ) → StepsAlone (record_string m s a)
unfolding record_string note_bytes
recorded_alone m s a = alone_then (alone_for 0 (s * m) (λ p u. alone_then (alone_note _ _) alone_return) tt) alone_return

pub shift_alone : (s : ℕ) (a : List ℕ) → StepsAlone (masked_shift_rows s a)
unfolding masked_shift_rows
shift_alone s a = recorded_alone 16 s _

pub mix_alone : (s : ℕ) (a : List ℕ) → StepsAlone (masked_mix_columns s a)
unfolding masked_mix_columns
mix_alone s a = recorded_alone 16 s _

pub key_alone : (s r : ℕ) (w a : List ℕ) → StepsAlone (masked_add_round_key s r w a)
unfolding masked_add_round_key
key_alone s r w a = recorded_alone 16 s _

pub rot_alone : (s r : ℕ) (w : List ℕ) → StepsAlone (masked_rot_word s r w)
unfolding masked_rot_word
rot_alone s r w = recorded_alone 4 s _

pub rcon_alone : (r : ℕ) (t : List ℕ) → StepsAlone (masked_rcon r t)
unfolding masked_rcon
rcon_alone r t = alone_bind (alone_note _ _) (λ v. alone_return)

pub words_alone : (s r : ℕ) (a : Expanding) → StepsAlone (for 0 4 (λ t. masked_new_word s (4 * r + t)) a)
unfolding masked_new_word
words_alone s r a = alone_for 0 4 (λ t b. alone_bind (recorded_alone 4 s _) (λ v. alone_return)) a

square_alone : (s : ℕ) (a : List ℕ) → StepsAlone (square 8 s a)
unfolding square by_share
square_alone s a = alone_for 0 s (λ i c. alone_bind (alone_note _ _) (λ v. alone_return)) _

pub powers_alone : (s : ℕ) (a : List ℕ) → StepsAlone (powers s a)
unfolding powers
powers_alone s a =
    alone_bind (square_alone s a) (λ y₂. alone_bind (square_alone s y₂) (λ y₄. alone_bind (square_alone s y₄) (λ y₈. alone_return)))

pub sixteenth_alone : (s : ℕ) (a : List ℕ) → StepsAlone (sixteenth s a)
unfolding sixteenth
sixteenth_alone s a = alone_bind (powers_alone s a) (λ p. square_alone s p.eighth)

pub affine_alone : (s : ℕ) (a : List ℕ) → StepsAlone (affine s a)
unfolding affine by_share affine_share
affine_alone s a = alone_for 0 s (λ i c. alone_bind (alone_note _ _) (λ v. alone_return)) _
