-- For inner contracts only. What the code holds in several arrays, as the definitions have it.
use Rattle.std.specs.Prelude.{List, ℕ}
use Rattle.rijndael.specs.Rijndael.{Expanding}
use Rattle.aes.specs.Sbox.{Powers}
use Rattle.aes.specs.declared.inversion.Powers as held

-- the powers of a sharing
abbrev pub powers_in : held.Powers → Powers
powers_in p = record { second = p.second; fourth = p.fourth; eighth = p.eighth }

-- the words so far, and temp
abbrev pub expanding_in : List ℕ → List ℕ → Expanding
expanding_in w t = record { words = w; temp = t }
