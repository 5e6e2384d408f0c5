-- Numbers in bytes: a byte more, parts, a byte that is read, and bytes that are changed.
use mathlib.Core.Path.{◌≡◌, refl, sym, ap, ap₂, ◌∙◌}
use mathlib.Core.List.{List, ◌++◌}
use Prim.Native.Nat.{ℕ, zero, suc, ◌+◌, ◌-◌, ◌*◌, ◌/◌, ◌%◌, ◌^◌, ◌≤◌, ◌<◌}
use native.Mathlib.Nat.{mul_assoc, add-mul, add_assoc, add-suc, add-zero, zero-add, lt_of_lt_of_le}
use native.Mathlib.Numerals.{add-one}
use native.Mathlib.Omega.{arith}
use lib.Arith.{digits_lt, digits_mod}
use lib.ListN.{length, get_or, take, drop, set, get_or-append}
use lib.Pow.{pow_pos, pow_mono, pow-add, high}
use lib.Seq.{paste, length_paste_head, length-take-le, get_or-append-add, get_or-take, get_or-drop, get_or-set_same, get_or-set_other}
use Rattle.xor.specs.Xor.{◌⊕◌}
use Rattle.xor.specs.Sum.{Small}
use Rattle.xor.proofs.Xor.{⊕-zero, ⊕-lt, ⊕-cancel}
use Rattle.steps.specs.Fill.{tabulate}
use Rattle.steps.proofs.Fill.{length_tabulate, tabulate_same, tabulate_get_or}
use Rattle.steps.specs.Bytes.{from_bytes, to_bytes}
use Rattle.steps.proofs.Bytes.{length_to_bytes, from_to_bytes, ⊕-block}
use Rattle.steps.specs.ShareBytes.{bytes_at}

-- eight bits more
eight_more : (w : ℕ) → 2 ^ (8 * suc w) ≡ 2 ^ (8 * w) * 256
eight_more w = let e : 8 * suc w ≡ 8 * w + 8 = omega arith in ap (λ (n : ℕ). 2 ^ n) e ∙ pow-add 2 (8 * w) 8

-- ---- a byte more

pub byte_more_lt : {x b : ℕ} (j : ℕ) → x < 2 ^ (8 * j) → b < 256 → x * 256 + b < 2 ^ (8 * (j + 1))
byte_more_lt j hx hb = rw (add-one j, eight_more j) (digits_lt hx hb)

-- up to eight bytes fit 64 bits
pub bytes_fit : {x : ℕ} (j : ℕ) → x < 2 ^ (8 * j) → j ≤ 8 → x < 2 ^ 64
bytes_fit j hx hj = lt_of_lt_of_le hx (pow_mono {j = 64} (omega arith))

tabulated_more : (w : ℕ) (f : ℕ → ℕ) → from_bytes (tabulate (suc w) f) ≡ from_bytes (tabulate w f) * 256 + f w
unfolding tabulate from_bytes
tabulated_more zero f = omega arith
tabulated_more (suc w) f =
    let g : ℕ → ℕ = λ i. f (suc i) in
    let n = from_bytes (tabulate w g) in
    rw (tabulated_more w g, length_tabulate w (λ i. f (suc (suc i))), length_tabulate w g, eight_more w)
    (ap (λ (x : ℕ). x + (n * 256 + f (suc w))) (sym (mul_assoc (f 0) (2 ^ (8 * w)) 256)) ∙ omega (arith, add-mul (f 0 * 2 ^ (8 * w)) n 256))

module _ (at : ℕ) (l : List ℕ) where
  pub number_none : from_bytes (bytes_at at 0 l) ≡ 0
  unfolding bytes_at tabulate from_bytes
  number_none = refl

  pub number_more : (w : ℕ) → from_bytes (bytes_at at (suc w) l) ≡ from_bytes (bytes_at at w l) * 256 + get_or l (at + w) 0
  unfolding bytes_at
  number_more w = tabulated_more w (λ j. get_or l (at + j) 0)

  pub number_lt : Small 8 l → (w : ℕ) → from_bytes (bytes_at at w l) < 2 ^ (8 * w)
  number_lt h zero = rw number_none (pow_pos 0)
  number_lt h (suc w) = rw (number_more w, eight_more w) (digits_lt (number_lt h w) (h (at + w)))

  -- the first v bytes and the w bytes after them
  pub number_parts : (v w : ℕ) → from_bytes (bytes_at at (v + w) l) ≡ from_bytes (bytes_at at v l) * 2 ^ (8 * w) + from_bytes (bytes_at (at + v) w l)
  unfolding bytes_at tabulate from_bytes
  number_parts v zero = ap (λ (n : ℕ). from_bytes (bytes_at at n l)) (add-zero v) ∙ omega arith
  number_parts v (suc w) =
      let a = from_bytes (bytes_at at v l) in
      let b = from_bytes (bytes_at (at + v) w l) in
      rw (add-suc v w, number_more (v + w), number_parts v w, tabulated_more w (λ j. get_or l (at + v + j) 0), eight_more w, ← add_assoc at v w)
      (omega (arith, add-mul (a * 2 ^ (8 * w)) b 256, mul_assoc a (2 ^ (8 * w)) 256))

-- a byte that stands after v bytes and before j bytes
number_around : (at : ℕ) (l : List ℕ) (v j : ℕ)
    → from_bytes (bytes_at at (suc v + j) l)
    ≡ (from_bytes (bytes_at at v l) * 256 + get_or l (at + v) 0) * 2 ^ (8 * j) + from_bytes (bytes_at (at + suc v) j l)
number_around at l v j = number_parts at l (suc v) j ∙ ap (λ (x : ℕ). x * 2 ^ (8 * j) + from_bytes (bytes_at (at + suc v) j l)) (number_more at l v)

pub number_byte : (at : ℕ) (l : List ℕ) → Small 8 l → (v j : ℕ) → from_bytes (bytes_at at (suc v + j) l) / 2 ^ (8 * j) % 256 ≡ get_or l (at + v) 0
number_byte at l h v j =
    rw (number_around at l v j, high (from_bytes (bytes_at at v l) * 256 + get_or l (at + v) 0) (8 * j) (number_lt (at + suc v) l h j))
    (digits_mod (from_bytes (bytes_at at v l)) (h (at + v)))

-- ---- the same bytes

pub number_same : (at w : ℕ) (l m : List ℕ) → ((j : ℕ) → j < w → get_or m (at + j) 0 ≡ get_or l (at + j) 0) → bytes_at at w m ≡ bytes_at at w l
unfolding bytes_at
number_same at w l m h = tabulate_same w (λ j. get_or m (at + j) 0) (λ j. get_or l (at + j) 0) h

-- ---- one byte is changed

pub number_set : (at : ℕ) (l : List ℕ) → Small 8 l → (v j c : ℕ) → c < 256 → at + v < length l
    → from_bytes (bytes_at at (suc v + j) (set l (at + v) c)) ≡ from_bytes (bytes_at at (suc v + j) l) ⊕ (get_or l (at + v) 0 ⊕ c) * 2 ^ (8 * j)
number_set at l h v j c hc k =
    let m = set l (at + v) c in
    let a = from_bytes (bytes_at at v l) in
    let b = get_or l (at + v) 0 in
    let r = from_bytes (bytes_at (at + suc v) j l) in
    let before : bytes_at at v m ≡ bytes_at at v l = number_same at v l m (λ t g. get_or-set_other l (at + v) (at + t) c 0 (λ e. omega arith)) in
    let after : bytes_at (at + suc v) j m ≡ bytes_at (at + suc v) j l =
    number_same (at + suc v) j l m (λ t g. get_or-set_other l (at + v) (at + suc v + t) c 0 (λ e. omega arith)) in
    let there : get_or m (at + v) 0 ≡ c = get_or-set_same l (at + v) c 0 k in
    let byte : (a * 256 + b) ⊕ (b ⊕ c) ≡ a * 256 + c =
    ap (λ (x : ℕ). (a * 256 + b) ⊕ x) (sym (zero-add (b ⊕ c)))
    ∙ ⊕-block 8 a 0 b (b ⊕ c) (h (at + v)) (⊕-lt 8 (h (at + v)) hc)
    ∙ ap₂ (λ (x y : ℕ). x * 256 + y) (⊕-zero a) (⊕-cancel b c) in
    number_around at m v j
    ∙ ap₂ (λ (x y : ℕ). x * 2 ^ (8 * j) + y) (ap₂ (λ (x y : ℕ). x * 256 + y) (ap from_bytes before) there) (ap from_bytes after)
    ∙ ap₂ (λ (x y : ℕ). x * 2 ^ (8 * j) + y) (sym byte) (sym (⊕-zero r))
    ∙ sym (⊕-block (8 * j) (a * 256 + b) (b ⊕ c) r 0 (number_lt (at + suc v) l h j) (pow_pos (8 * j)))
    ∙ ap₂ ◌⊕◌ (sym (number_around at l v j)) (add-zero ((b ⊕ c) * 2 ^ (8 * j)))

-- ---- several bytes are written

module _ (d : List ℕ) (at : ℕ) (s : List ℕ) (w : ℕ) (hd : at + w ≤ length d) (hs : w ≤ length s) where
  before_fits : at ≤ length d
  before_fits = omega arith

  length_head : length (take at d ++ take w s) ≡ at + w
  length_head = length_paste_head d at s w before_fits hs

  pub paste_there : (j : ℕ) → j < w → get_or (paste d at s w) (at + j) 0 ≡ get_or s j 0
  paste_there j h =
      let n = length-take-le at d before_fits in
      get_or-append (take at d ++ take w s) (drop (at + w) d) 0 (at + j) (omega (arith, length_head))
      ∙ ap (λ (k : ℕ). get_or (take at d ++ take w s) (k + j) 0) (sym n)
      ∙ get_or-append-add (take at d) (take w s) j 0
      ∙ get_or-take w s j 0 h

  pub paste_before : (p : ℕ) → p < at → get_or (paste d at s w) p 0 ≡ get_or d p 0
  paste_before p h =
      let n = length-take-le at d before_fits in
      get_or-append (take at d ++ take w s) (drop (at + w) d) 0 p (omega (arith, length_head))
      ∙ get_or-append (take at d) (take w s) 0 p (omega arith)
      ∙ get_or-take at d p 0 h

  pub paste_after : (p : ℕ) → at + w ≤ p → get_or (paste d at s w) p 0 ≡ get_or d p 0
  paste_after p h =
      let q = p - (at + w) in
      let e : p ≡ length (take at d ++ take w s) + q = omega (arith, length_head) in
      let f : at + w + q ≡ p = omega arith in
      ap (λ (k : ℕ). get_or (paste d at s w) k 0) e ∙ get_or-append-add (take at d ++ take w s) (drop (at + w) d) q 0 ∙ get_or-drop (at + w) d q 0
      ∙ ap (λ (k : ℕ). get_or d k 0) f

-- the lowest w bytes of x are written, and x is there
pub number_put : (d : List ℕ) (at w x : ℕ) → at + w ≤ length d → x < 2 ^ (8 * w) → from_bytes (bytes_at at w (paste d at (to_bytes w x) w)) ≡ x
unfolding bytes_at
number_put d at w x hd hx =
    let n = length_to_bytes w x in
    ap from_bytes
    (tabulate_same w (λ j. get_or (paste d at (to_bytes w x) w) (at + j) 0) (λ j. get_or (to_bytes w x) j 0)
    (λ j h. paste_there d at (to_bytes w x) w hd (omega arith) j h)
    ∙ ap (λ (k : ℕ). tabulate k (λ j. get_or (to_bytes w x) j 0)) (sym n)
    ∙ tabulate_get_or (to_bytes w x) 0)
    ∙ from_to_bytes w x hx

-- byte j of the lowest w
pub get_or_to_bytes : (w x j : ℕ) → j < w → get_or (to_bytes w x) j 0 ≡ x / 2 ^ (8 * (w - 1 - j)) % 256
unfolding to_bytes
get_or_to_bytes zero x j h = absurd (omega arith)
get_or_to_bytes (suc w) x zero h = let e : w ≡ suc w - 1 - 0 = omega arith in ap (λ (k : ℕ). x / 2 ^ (8 * k) % 256) e
get_or_to_bytes (suc w) x (suc j) h =
    let e : w - 1 - j ≡ suc w - 1 - suc j = omega arith in
    get_or_to_bytes w x j (omega arith) ∙ ap (λ (k : ℕ). x / 2 ^ (8 * k) % 256) e
