-- The authors' vectors hold of the definition: by computation.
use mathlib.Core.Path.{◌≡◌, refl}
use mathlib.Core.List.{map}
use Rattle.xor.specs.Xor.{◌⊕◌}
use Rattle.steps.specs.Iterate.{turns, iterate}
use Rattle.present.specs.Present.{bit, nibble, replace, on_nibble, table, substitute, sbox_layer, place, send, permute, size80}
use Rattle.present.specs.Present.{round_key, rotate, on_top_nibbles, round_number, update_key, add_round_key, round, encrypt}
use Rattle.present.specs.Vectors.{Vector, vectors}

pub vectors_hold : map (λ (v : Vector). encrypt size80 v.key v.block) vectors ≡ map (λ (v : Vector). v.cipher) vectors
unfolding vectors encrypt iterate turns round add_round_key round_key update_key rotate on_top_nibbles round_number sbox_layer on_nibble replace nibble substitute table permute send place bit ◌⊕◌
vectors_hold = refl
