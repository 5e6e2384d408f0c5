-- The S-box on a nibble of each share: what it takes, what it gives, and what that comes to on the machine.
use mathlib.Core.Path.{◌≡◌, refl, ap, ◌∙◌}
use mathlib.Core.List.{List, map}
use Prim.Native.Nat.{ℕ, ◌≤◌, ◌<◌}
use lib.ListN.{length, drop}
use Rattle.xor.specs.Sum.{join, Small}
use Rattle.xor.proofs.Sum.{additive_below_zero, small_drop}
use Rattle.steps.specs.Program.{Run, return}
use Rattle.steps.specs.Sharing.{share, Sharing, share_wise}
use Rattle.steps.specs.ShareBytes.{share_at, shares_of, sharing}
use Rattle.steps.specs.Machine.{State, Went}
use Rattle.steps.proofs.Exec.{went_result}
use Rattle.steps.proofs.Parts.{went_map}
use Rattle.steps.proofs.ShareWise.{share_map}
use Rattle.steps.proofs.View.{share_past}
use Rattle.decomposition.proofs.Sizes.{same_pair}
use Rattle.sbox.proofs.Record.{accepted_form}
use Rattle.sbox.proofs.Runs.{result_sharing, result_places}
use Rattle.present.specs.Present.{nibble, replace}
use Rattle.present.specs.Masked.{masked_nibble}
use Rattle.present.proofs.Numbers.{nibble_lt, nibble_linear}
use Rattle.cipher.specs.Box.{record_sbox}
use Rattle.cipher.specs.Rounds.{Prepared}
use Rattle.cipher.proofs.Prepared.{prepared_first}

-- nibble k of each share is a sharing of a nibble
pub column_sharing : (w s k : ℕ) (l : List ℕ) → s ≤ 9 → let a = map (nibble k) (sharing w s l) in Sharing 4 s (join a) a
unfolding sharing shares_of
column_sharing w s k l nine =
    let b = sharing w s l in
    record {
      small = λ i. rw (share_map (nibble_linear 0 k) b i) (nibble_lt k (share b i));
      past = λ i h. share_map (nibble_linear 0 k) b i ∙ ap (nibble k) (share_past s nine (share_at w l) i h)
          ∙ additive_below_zero 0 (nibble k) (nibble_linear 0 k).additive;
      joins = refl;
    }

module _ {m : State} (box : List ℕ → Run (List ℕ)) (k : ℕ) (a x : List ℕ) (e : x ≡ map (nibble k) a) where
  -- the S-box may run on nibble k of each share,
  pub nibble_prepared : Prepared (masked_nibble box k a) m → Prepared (box x) m
  unfolding masked_nibble
  nibble_prepared y = rw e (prepared_first (box (map (nibble k) a)) (λ v. return (share_wise (replace k) a v)) y)

  -- and when it has, what it gives is put back
  pub nibble_substituted : (v b : List ℕ) {m' : State} → Went (box x) m v m' → b ≡ share_wise (replace k) a v → Went (masked_nibble box k a) m b m'
  unfolding masked_nibble
  nibble_substituted v b w f = rw (f, ← e) (went_map (share_wise (replace k) a) w)

-- it gives a sharing of a nibble, in nine places
pub nibble_given : (coefficients : List ℕ) → Small 4 coefficients → (w k s : ℕ) (l : List ℕ) {m m' : State} {x v : List ℕ}
    → 0 < s → s ≤ 9 → x ≡ map (nibble k) (sharing w s l) → Small 4 m.tape → Went (record_sbox s coefficients x) m v m'
    → (length v ≡ 9) × Sharing 4 s (join v) v
nibble_given coefficients small w k s l {m} {m'} {x} {v} some nine e nibbles g =
    let form = accepted_form 4 4 (same_pair 4 refl) coefficients small in
    let tape = drop m.counts.random m.tape in
    let elements = small_drop 4 m.counts.random m.tape nibbles in
    let h : Sharing 4 s (join x) x = rw e (column_sharing w s k l nine) in
    let ends = went_result (record_sbox s coefficients x) g in
    let given = result_sharing form s (join x) x tape some nine h elements in
    rw ends (result_places form s (join x) x tape some nine h elements, record { small = given.small; past = given.past; joins = refl })
