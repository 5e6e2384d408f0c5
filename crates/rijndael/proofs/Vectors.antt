-- The standard's table and examples hold of the definition: by computation, with the S-box as a table.
use mathlib.Core.Path.{◌≡◌, refl, sym, ap, ◌∙◌, fun_ext}
use mathlib.Core.Bool.{cond}
use mathlib.Core.List.{map}
use Prim.Native.Nat.{ℕ, ◌<◌}
use native.Mathlib.Decide.{dec_lt}
use native.Mathlib.Omega.{arith}
use borrow.Author.Tests.{lt-ltb, le-ltb}
use lib.Dec.{ltb}
use lib.ListN.{get_or}
use Rattle.xor.specs.Xor.{◌⊕◌}
use Rattle.field.specs.Power.{square}
use Rattle.field.proofs.Ring.{ring_8}
use Rattle.field.proofs.Tests.{same_below}
use Rattle.field.proofs.Inverses.{products, chain, inverse_chain}
use Rattle.steps.specs.Iterate.{turns, iterate}
use Rattle.steps.specs.Fill.{tabulate}
use Rattle.rijndael.specs.Strings.{make, put_at}
use Rattle.rijndael.specs.Rijndael.{bit_of, linear_bit, sum_bits, linear_part, affine_constant, substitute, shift_byte, mix_byte, key_byte, rot_byte}
use Rattle.rijndael.specs.Rijndael.{word_byte, sub_bytes, shift_rows, mix_columns, add_round_key, rcon, new_word, next_key, key_expansion}
use Rattle.rijndael.specs.Rijndael.{round, last_round, cipher, encrypt}
use Rattle.rijndael.specs.Vectors.{table, Vector, vectors}

-- the S-box by the table, for bytes
look_up : ℕ → ℕ
look_up v = cond (ltb v 256) (get_or table v 0) (substitute v)

by_chain : (v : ℕ) → v < 256 → get_or table v 0 ≡ linear_part (chain 8 6 (square 8 v) (square 8 v)) ⊕ affine_constant
unfolding products chain linear_part sum_bits linear_bit bit_of table
by_chain = same_below 256 (λ v. get_or table v 0) (λ v. linear_part (chain 8 6 (square 8 v) (square 8 v)) ⊕ affine_constant) tt

-- THE TABLE. The inverse and the affine map give the standard's table.
pub table_holds : (v : ℕ) → v < 256 → get_or table v 0 ≡ substitute v
unfolding substitute
table_holds v l = by_chain v l ∙ ap (λ (x : ℕ). linear_part x ⊕ affine_constant) (sym (inverse_chain ring_8 v l))

look_up_is : (v : ℕ) → look_up v ≡ substitute v
unfolding look_up
look_up_is v = elim (dec_lt v 256) [
  | yes l ↦ rw (lt-ltb v 256 l) (table_holds v l)
  | no l ↦ rw (le-ltb v 256 (omega arith)) refl
]

vectors_by_table : map (λ (v : Vector). encrypt look_up v.key v.block) vectors ≡ map (λ (v : Vector). v.cipher) vectors
unfolding products vectors encrypt cipher last_round round key_expansion next_key new_word rcon add_round_key mix_columns shift_rows sub_bytes
    word_byte rot_byte key_byte mix_byte shift_byte look_up table make put_at tabulate turns iterate ◌⊕◌
vectors_by_table = refl

-- THE EXAMPLES. The ciphertexts are the standard's.
pub vectors_hold : map (λ (v : Vector). encrypt substitute v.key v.block) vectors ≡ map (λ (v : Vector). v.cipher) vectors
vectors_hold =
    let e : look_up ≡ substitute = fun_ext look_up_is in
    rw e at vectors_by_table
