-- The test vectors of the authors of PRESENT (CHES 2007, appendix).
use Rattle.std.specs.Prelude.{List, [], ◌∷◌, ℕ}

-- a key, a block, and the ciphertext of the block under the key
pub record Vector : Type 0 where
  pub key : ℕ
  pub block : ℕ
  pub cipher : ℕ

-- the four of the appendix
unfoldable pub vectors : List Vector
vectors =
    record { key = 0x00000000000000000000; block = 0x0000000000000000; cipher = 0x5579C1387B228445 }
    ∷ record { key = 0xFFFFFFFFFFFFFFFFFFFF; block = 0x0000000000000000; cipher = 0xE72C46C0F5945049 }
    ∷ record { key = 0x00000000000000000000; block = 0xFFFFFFFFFFFFFFFF; cipher = 0xA112FFC72F68417B }
    ∷ record { key = 0xFFFFFFFFFFFFFFFFFFFF; block = 0xFFFFFFFFFFFFFFFF; cipher = 0x3333DCD3213210D2 }
    ∷ []
