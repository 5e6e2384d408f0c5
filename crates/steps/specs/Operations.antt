-- The operations Split and Join, on values of 1 to 16 bytes. A sharing is s strings of the value's length, one after the other, share 0 first.
use Rattle.std.specs.Prelude.{Bool, ◌&&◌, List, [], ◌∷◌, ◌++◌, ℕ, zero, suc, ◌+◌, ◌-◌, ◌*◌, eqb, length, get_or}
use Rattle.xor.specs.Xor.{◌⊕◌}
use Rattle.xor.specs.Sum.{join}
use Rattle.refusal.specs.Outcome.{Outcome, done, test}
use Rattle.refusal.specs.Range.{one_to}
use Rattle.steps.specs.Fill.{tabulate}

-- the elements of l at j, at j + n and so on, k of them: byte j of each of k strings of n bytes
unfoldable pub column : List ℕ → ℕ → ℕ → ℕ → List ℕ
column l n j zero = []
column l n j (suc k) = get_or l j 0 ∷ column l n (j + n) k

-- ---- Split (value, s, masks, out): share 0 is the value plus all masks, the rest are the masks

-- byte j of share 0: that of the value plus that of each of k masks
unfoldable pub masked_byte : List ℕ → ℕ → List ℕ → ℕ → ℕ
masked_byte value k masks j = get_or value j 0 ⊕ join (column masks (length value) j k)

-- the s shares
unfoldable pub split_shares : ℕ → List ℕ → List ℕ → List ℕ
split_shares s value masks = tabulate (length value) (masked_byte value (s - 1) masks) ++ masks

-- the lengths: the value has 1 to 16 bytes, there is a mask for each share but share 0, and out has room for the shares
unfoldable pub split_lengths : ℕ → ℕ → ℕ → ℕ → Bool
split_lengths value s masks out = one_to 16 value && (eqb masks ((s - 1) * value) && eqb out (s * value))

-- The outcome, by s and the lengths of value, masks and out. The tests in their order: 7 a share count not 1 to 9; 2 a length.
unfoldable pub split_outcome : ℕ → ℕ → ℕ → ℕ → Outcome
split_outcome value s masks out =
    test (one_to 9 s) 7 0
    (test (split_lengths value s masks out) 2 0
    (done []))

-- ---- Join (shares, s, out): it adds the shares; out has the value's length

-- byte j of the value: the sum of that of each of s shares of n bytes
unfoldable pub joined_byte : ℕ → ℕ → List ℕ → ℕ → ℕ
joined_byte n s shares j = join (column shares n j s)

-- the value, of n bytes
unfoldable pub join_shares : ℕ → ℕ → List ℕ → List ℕ
join_shares n s shares = tabulate n (joined_byte n s shares)

-- the lengths: out is for 1 to 16 bytes, and each share has as many
unfoldable pub join_lengths : ℕ → ℕ → ℕ → Bool
join_lengths shares s out = one_to 16 out && eqb shares (s * out)

-- The outcome, by s and the lengths of shares and out. The tests in their order: 7 a share count not 1 to 9; 2 a length.
unfoldable pub join_outcome : ℕ → ℕ → ℕ → Outcome
join_outcome shares s out =
    test (one_to 9 s) 7 0
    (test (join_lengths shares s out) 2 0
    (done []))
