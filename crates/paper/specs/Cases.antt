-- The checks on paper, as one table of what the definitions give and what the paper says.
use Rattle.std.specs.Prelude.{List, [], ◌∷◌, ◌++◌, ℕ, replicate, take}
use Rattle.xor.specs.Sum.{join}
use Rattle.field.specs.Mul.{mul}
use Rattle.field.specs.Polynomial.{value}
use Rattle.decomposition.specs.Layout.{layout}
use Rattle.decomposition.specs.Record.{record_of}
use Rattle.decomposition.specs.Fit.{house_basis, house_end}
use Rattle.steps.specs.Program.{result, trace}
use Rattle.steps.specs.Watch.{watched}
use Rattle.steps.specs.Tape.{elements}
use Rattle.steps.specs.Call.{call_counts}
use Rattle.steps.specs.Operations.{split_shares}
use Rattle.product.specs.Product.{product}
use Rattle.sbox.specs.Figures.{sbox_steps}
use Rattle.sbox.specs.Operations.{sbox_call}
use Rattle.present.specs.Present.{place, size80, update_key}

-- a check: what the definitions give, and what the paper says of it
pub record Case : Type 0 where
  pub given : List ℕ
  pub said : List ℕ

-- one such check: the definitions give g, and the paper says s
abbrev pub gives : List ℕ → List ℕ → Case
gives g s = record { given = g; said = s }

-- (e) the shares of the one factor
abbrev pub left : List ℕ
left = 1 ∷ 2 ∷ 0 ∷ []

-- the shares of the other
abbrev pub right : List ℕ
right = 4 ∷ 0 ∷ 1 ∷ []

-- the random elements 1, 2 and 3, as they lie in two bytes; the last nibble is not drawn
abbrev pub drawn : List ℕ
drawn = elements 4 (0x12 ∷ 0x30 ∷ [])

-- their masked product with these random elements, in nine places
abbrev pub masked_product : List ℕ
masked_product = result (product 4 3 left right) drawn

-- the steps of its pair 0, 1: numbers 3 to 9
abbrev pub pair_steps : List ℕ
pair_steps = watched (3 ∷ 4 ∷ 5 ∷ 6 ∷ 7 ∷ 8 ∷ 9 ∷ []) (trace (product 4 3 left right) drawn)

-- (j) a record of width n with n output bits, with every coefficient 0
abbrev pub zero_record : ℕ → List ℕ
zero_record n = record_of (layout n n) (replicate (layout n n).basis 0) (replicate (layout n n).unknowns 0)

-- (k) the zero table
abbrev pub zero_table : List ℕ
zero_table = replicate 16 0

-- (a), (b), (c): products at width 4; (d): at width 6; (e): a masked product of three shares, what its factors join to, what it joins to, and what a pair
-- of its shares records; (f), (g): where bits 4 and 62 go; (h): the zero key after one update; (i): q1 of the house basis at 2; (j): the counts of a call
-- with three shares (masked products, random bytes and steps of its program), at width 4 and at width 6, and the figure for its steps
unfoldable pub computed : List Case
computed =
    gives (mul 4 2 8 ∷ []) (3 ∷ [])
    ∷ gives (mul 4 9 9 ∷ []) (13 ∷ [])
    ∷ gives (mul 4 15 15 ∷ []) (10 ∷ [])
    ∷ gives (mul 6 32 32 ∷ []) (48 ∷ [])
    ∷ gives (take 3 masked_product) (7 ∷ 10 ∷ 2 ∷ [])
    ∷ gives (join left ∷ join right ∷ []) (3 ∷ 5 ∷ [])
    ∷ gives (join masked_product ∷ mul 4 3 5 ∷ []) (15 ∷ 15 ∷ [])
    ∷ gives pair_steps (1 ∷ 0 ∷ 1 ∷ 8 ∷ 9 ∷ 5 ∷ 9 ∷ [])
    ∷ gives (place 4 ∷ []) (1 ∷ [])
    ∷ gives (place 62 ∷ []) (47 ∷ [])
    ∷ gives (update_key size80 1 0 ∷ []) (0xC0000000000000008000 ∷ [])
    ∷ gives (value 4 house_basis 2 ∷ []) (9 ∷ [])
    ∷ gives (call_counts (sbox_call (zero_record 4) 3 (replicate 3 0) (replicate 3 0))) (2 ∷ 3 ∷ 213 ∷ [])
    ∷ gives (call_counts (sbox_call (zero_record 6) 3 (replicate 3 0) (replicate 15 0))) (5 ∷ 15 ∷ 930 ∷ [])
    ∷ gives (sbox_steps 4 4 3 ∷ sbox_steps 6 6 3 ∷ []) (213 ∷ 930 ∷ [])
    ∷ []

-- (k): the record that House fit of the zero table writes, with zero p
abbrev pub zero_fit : Case
zero_fit = gives (house_end zero_table (replicate 304 0) (replicate 34 255)).out (record_of (layout 4 4) house_basis (replicate 18 0))

-- (l): a value split by masks
abbrev pub split_value : Case
split_value = gives (split_shares 3 (7 ∷ []) (1 ∷ 2 ∷ [])) (4 ∷ 1 ∷ 2 ∷ [])

-- all of them, one table
unfoldable pub checks : List Case
checks = computed ++ (zero_fit ∷ split_value ∷ [])
