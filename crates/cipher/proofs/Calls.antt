-- The laws of masked ciphers of PRESENT-80: one that is right on numbers is right on bytes, as every masked operation of a key and a block is asked to be
-- (crates/steps/proofs/Ciphering.antt), and the bytes of the shares of its result.
use mathlib.Core.Path.{◌≡◌, sym, ap, ap₂, ◌∙◌}
use mathlib.Core.List.{List}
use Prim.Native.Nat.{ℕ, ◌*◌, ◌≤◌, ◌<◌}
use lib.ListN.{length, take}
use Rattle.xor.specs.Sum.{join, Small}
use Rattle.refusal.specs.Outcome.{Outcome, done}
use Rattle.steps.specs.Program.{result}
use Rattle.steps.specs.Sharing.{share}
use Rattle.steps.specs.Fill.{tabulate}
use Rattle.steps.specs.Tape.{elements}
use Rattle.steps.specs.Bytes.{to_bytes}
use Rattle.steps.specs.ShareBytes.{share_at, shares_of, sharing, bytes_of}
use Rattle.steps.specs.Ciphering as ciphering
use Rattle.steps.proofs.Tape.{elements_nibbles}
use Rattle.steps.proofs.Fill.{tabulate_same}
use Rattle.steps.proofs.Sharing.{without_past}
use Rattle.steps.proofs.View.{share_sharing}
use Rattle.steps.proofs.Stored.{bytes_of_shares, shares_of_bytes}
use Rattle.steps.proofs.ShareBytes.{shares_sharing, bytes_of_small, join_number, join_writes}
use Rattle.steps.proofs.Ciphering as ciphering_laws
use Rattle.cipher.specs.Ciphering.{Cipher, operation, Right}

-- where a sharing lies in bytes, these are the bytes of its shares
pub bytes_written : (s : ℕ) (l : List ℕ) → s ≤ 9 → Small 8 l → 8 * s ≤ length l → take (8 * s) l ≡ bytes_of 8 (tabulate s (share (sharing 8 s l)))
unfolding shares_of
bytes_written s l nine h few =
    sym (bytes_of_shares 8 l h s few)
    ∙ ap (bytes_of 8) (tabulate_same s (share_at 8 l) (share (sharing 8 s l)) (λ i k. sym (share_sharing 8 s l i nine k)))

-- ---- on shares of a key and of a block in bytes

module _ {c : Cipher} {s : ℕ} (right : Right c s) (key block random : List ℕ) (hk : Small 8 key) (hb : Small 8 block)
    (hr : Small 4 (elements 4 random)) where
  -- its result
  abbrev ended : List ℕ
  ended = result (c.program s (shares_of 10 s key) (shares_of 8 s block)) (elements 4 random)

  -- is a sharing of what it computes, and so are its bytes
  pub bytes_join : join (shares_of 8 s (bytes_of 8 (tabulate s (share ended))))
      ≡ c.computes (join (shares_of 10 s key)) (join (shares_of 8 s block))
  bytes_join =
      let h = right.ends _ _ _ _ (elements 4 random) (shares_sharing 10 s key hk) (shares_sharing 8 s block hb) hr in
      ap join (shares_of_bytes 8 s (share ended) (λ i. h.small i)) ∙ without_past s ended h.past ∙ h.joins

-- ---- right on bytes

pub right_on_bytes : (o : Outcome) (c : Cipher) (s : ℕ) → Right c s → ciphering.Right (operation o c s)
right_on_bytes o c s right = record {
  elements_small = elements_nibbles;
  joins = λ {key} {block} {random} a h.
      join_writes 8 s _ (bytes_of_small 8 _)
      ∙ ap (to_bytes 8)
      (bytes_join right key block random h.key_small h.block_small h.random_small
      ∙ ap₂ c.computes (sym (join_number 10 s key h.key_small)) (sym (join_number 8 s block h.block_small)));
  takes = λ {key} {block} {random} a h.
      right.takes _ _ _ _ (elements 4 random) (shares_sharing 10 s key h.key_small) (shares_sharing 8 s block h.block_small) h.random_small;
  few = right.few;
  some_steps = right.some_steps;
}

-- so much where the records pass their tests, with 1 to 9 shares
abbrev pub Good : Outcome → Cipher → ℕ → Type 0
Good o c s = (v : List ℕ) → o ≡ done v → 0 < s → s ≤ 9 → Right c s

pub good_on_bytes : (o : Outcome) (c : Cipher) (s : ℕ) → Good o c s → ciphering_laws.Good (operation o c s)
good_on_bytes o c s good =
    record { elements_small = elements_nibbles; right = λ {v} e some nine. right_on_bytes o c s (good v e some nine) }
