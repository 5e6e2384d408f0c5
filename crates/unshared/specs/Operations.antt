-- The operations Encrypt and Decrypt (key, block, out): one block without shares. Key, block and output are numbers in bytes, high byte first.
use Rattle.std.specs.Prelude.{◌≡◌, Bool, ◌&&◌, List, [], ℕ, ◌/◌, ◌%◌, eqb, length}
use Rattle.refusal.specs.Outcome.{Outcome, done, test}
use Rattle.steps.specs.Fill.{tabulate}
use Rattle.steps.specs.Bytes.{from_bytes, to_bytes}
use Rattle.steps.specs.ShareBytes.{share_at, bytes_of}
use Rattle.present.specs.Present.{Size, encrypt}
use Rattle.present.specs.Decrypt.{decrypt}

-- the bytes of a key
abbrev pub key_bytes : Size → ℕ
key_bytes z = z.nibbles / 2

-- the lengths: those of a key, a block and a block
unfoldable pub unshared_lengths : Size → ℕ → ℕ → ℕ → Bool
unshared_lengths z key block out = eqb key (key_bytes z) && (eqb block 8 && eqb out 8)

-- The outcome of both, by the lengths of key, block and out. The one test: 2 a length.
unfoldable pub unshared_outcome : Size → ℕ → ℕ → ℕ → Outcome
unshared_outcome z key block out = test (unshared_lengths z key block out) 2 0 (done [])

-- what Encrypt writes: the ciphertext of the block
unfoldable pub encrypt_output : Size → List ℕ → List ℕ → List ℕ
encrypt_output z key block = to_bytes 8 (encrypt z (from_bytes key) (from_bytes block))

-- what Decrypt writes: the block of which this is the ciphertext
unfoldable pub decrypt_output : Size → List ℕ → List ℕ → List ℕ
decrypt_output z key block = to_bytes 8 (decrypt z (from_bytes key) (from_bytes block))

-- ---- many blocks

-- whole blocks, and an output as long as these
abbrev pub BlocksFit : List ℕ → List ℕ → Type 0
BlocksFit blocks out = (length blocks % 8 ≡ 0) × (length out ≡ length blocks)

-- f on each of n blocks of 8 bytes that lie one after the other in l
unfoldable pub on_blocks : (ℕ → ℕ) → ℕ → List ℕ → List ℕ
on_blocks f n l = bytes_of 8 (tabulate n (λ i. f (share_at 8 l i)))
