-- Strings of bytes, plain and in shares, and the layers that make one string of others.
-- A string of m bytes in shares is held in 9 m places: share 0 first, each share its m bytes, 0 past the shares in use.
use Rattle.std.specs.Prelude.{◌≡◌, cond, ◌&&◌, List, [], ◌∷◌, ℕ, zero, suc, ◌+◌, ◌-◌, ◌*◌, ◌/◌, ◌%◌, ◌≤◌, ◌<◌, leb, ltb, length, get_or, set, replicate}
use Rattle.xor.specs.Xor.{◌⊕◌}
use Rattle.xor.specs.Sum.{join, Small}
use Rattle.steps.specs.Fill.{tabulate, fill}
use Rattle.steps.specs.Program.{Run, return, one, ◌>>◌, note, for}
use Rattle.steps.specs.Shape.{Shape, step_of, for_shape}

-- byte k of a string, 0 past its end
abbrev pub byte_at : List ℕ → ℕ → ℕ
byte_at x k = get_or x k 0

-- byte k of share i of a string of m bytes in shares
abbrev pub share_byte : ℕ → List ℕ → ℕ → ℕ → ℕ
share_byte m a i k = get_or a (i * m + k) 0

-- a is a sharing of the string x of m bytes, in s shares: byte by byte the shares join to x
pub record Shared (m s : ℕ) (x a : List ℕ) : Type 0 where
  pub places : length a ≡ 9 * m
  pub small : Small 8 a
  pub past : (i k : ℕ) → s ≤ i → k < m → share_byte m a i k ≡ 0
  pub joins : (k : ℕ) → k < m → join (tabulate 9 (λ i. share_byte m a i k)) ≡ byte_at x k

-- shares of m bytes that lie one after the other, in nine places; a string that is all in share 0 is one such share
unfoldable pub loaded : ℕ → List ℕ → List ℕ
loaded m a = tabulate (9 * m) (byte_at a)

-- ---- layers

-- a layer says what byte j of a string is, by the bytes of two others
abbrev pub Layer : Type 0
Layer = (ℕ → ℕ) → (ℕ → ℕ) → ℕ → ℕ

-- two strings added, byte by byte
abbrev pub add_byte : Layer
add_byte x y j = x j ⊕ y j

-- the string of n bytes that a layer makes of x and y
unfoldable pub make : ℕ → Layer → List ℕ → List ℕ → List ℕ
make n f x y = tabulate n (f (byte_at x) (byte_at y))

-- the same on each share, of strings of l and of m bytes in shares: place p of a string of n bytes in shares is byte p % n of share p / n
abbrev pub place_of : ℕ → ℕ → ℕ → Layer → List ℕ → List ℕ → ℕ → ℕ
place_of l m n f a b p = f (share_byte l a (p / n)) (share_byte m b (p / n)) (p % n)

-- the string of n bytes in s shares that is made so
unfoldable pub make_shares : ℕ → ℕ → ℕ → ℕ → Layer → List ℕ → List ℕ → List ℕ
make_shares s l m n f a b = fill (s * n) (place_of l m n f a b) (replicate (9 * n) 0)

-- ---- parts of strings

-- bytes from number `at` on
unfoldable pub take_at : ℕ → Layer
take_at at x y k = x (at + k)

-- x with its bytes from number `at` on replaced by the n bytes of y
unfoldable pub put_at : ℕ → ℕ → Layer
put_at at n x y k = cond (leb at k && ltb k (at + n)) (y (k - at)) (x k)

-- the list l with v 0 to v (n - 1) in its places from `at` on
unfoldable pub put_places : ℕ → ℕ → (ℕ → ℕ) → List ℕ → List ℕ
put_places at zero v l = l
put_places at (suc n) v l = set (put_places at n v l) (at + n) (v n)

-- The string of m bytes in shares whose bytes from number `at` on are those of b, a string of n bytes in shares, in each of s shares.
unfoldable pub put_shares : ℕ → ℕ → ℕ → ℕ → List ℕ → List ℕ → List ℕ
put_shares zero m at n a b = a
put_shares (suc s) m at n a b = put_places (s * m + at) n (share_byte n b s) (put_shares s m at n a b)

-- ---- recording

-- the bytes of a string of m bytes in s shares are recorded, share by share, byte 0 first: place p is a byte of share p / m
unfoldable pub note_bytes : ℕ → ℕ → List ℕ → Run Unit
note_bytes m s a = for 0 (s * m) (λ p u. note (one (p / m)) (get_or a p 0) >> return u) tt

-- a string, recorded
unfoldable pub record_string : ℕ → ℕ → List ℕ → Run (List ℕ)
record_string m s a = note_bytes m s a >> return a

-- the shape of this
unfoldable pub bytes_shape : ℕ → ℕ → Shape
bytes_shape m s = for_shape 0 (s * m) (λ p. step_of (one (p / m)) ∷ [])
