-- The masked S-box substitutes and hides, and what it takes.
use mathlib.Core.Path.{◌≡◌, refl, sym, ap, ap₂, ◌∙◌, subst}
use mathlib.Core.List.{List, [], ◌∷◌}
use Prim.Native.Nat.{ℕ, ◌+◌, ◌-◌, ◌*◌, ◌/◌, ◌^◌, ◌≤◌, ◌<◌}
use native.Mathlib.Nat.{sub-zero}
use native.Mathlib.Omega.{arith}
use lib.Dec.{lit<}
use lib.ListN.{length}
use Rattle.xor.specs.Xor.{◌⊕◌}
use Rattle.xor.proofs.Sum.{additive_below, join_small}
use Rattle.field.specs.Power.{pow, inverse}
use Rattle.field.proofs.Ring.{ring_8}
use Rattle.field.proofs.Power.{pow_one, pow_add, pow_twice}
use Rattle.steps.specs.Program.{one}
use Rattle.steps.specs.Shape.{Shape, Shaped, step_of, steps_of, draws_of, products_of, touches_of, bits_of, Counting, Uniform}
use Rattle.steps.specs.Coupling.{Coupled, coupled_return}
use Rattle.steps.specs.Sharing.{share, Sharing, CloseAt, Close}
use Rattle.steps.proofs.Shape.{shaped_bind, shaped_map, shaped_weaken, shaped_note, counts_steps, counts_draws, counts_products, counts_for, uniform_append, uniform_for}
use Rattle.steps.proofs.Coupling.{coupled_bind}
use Rattle.steps.proofs.Sharing.{coupled_note}
use Rattle.product.specs.Product.{product, product_shape}
use Rattle.product.specs.ByShare.{constant, square, square_shape}
use Rattle.product.proofs.Shape.{shaped_product}
use Rattle.product.proofs.Counts.{pairs_twice, product_steps, product_draws, product_products, uniform_product}
use Rattle.product.proofs.Coupling.{coupled_product}
use Rattle.product.proofs.ByShare.{adds_share, adds_map, adds_add, adds_constant, constant_small, shaped_by_share, coupled_by_share, close_same, close_add, shaped_square, coupled_square}
use Rattle.rijndael.specs.Rijndael.{linear_part, affine_constant, substitute}
use Rattle.rijndael.specs.Masked.{Substitutes, Hides}
use Rattle.aes.specs.Sbox.{sixteenth, Powers, powers, multiplied, inverted, affine_share, affine, sbox}
use Rattle.aes.specs.Sbox.{sixteenth_shape, powers_shape, multiplied_shape, inverted_shape, sbox_shape}
use Rattle.aes.proofs.Affine.{linear_part_add, linear_part_lt}

-- ---- it substitutes

module _ (s : ℕ) (some : 0 < s) (nine : s ≤ 9) where
  shaped_affine : {y : ℕ} {a : List ℕ} → Sharing 8 s y a
      → Shaped (λ c. (length c ≡ 9) × Sharing 8 s (linear_part y ⊕ affine_constant) c) (square_shape s) (affine s a)
  unfolding affine affine_share square_shape
  shaped_affine {y} {a} h =
      shaped_by_share nine
      (adds_add (adds_map linear_part (additive_below 8 linear_part linear_part_add) (λ v l. linear_part_lt v) (adds_share h))
      (adds_constant 8 s affine_constant some (lit< tt)))
      (λ i. shaped_note (one i) (linear_part (share a i) ⊕ constant i affine_constant) refl)

  module _ (x : ℕ) (small : x < 2 ^ 8) where
    -- a is a sharing of x to the power e
    abbrev IsPower : ℕ → List ℕ → Type 0
    IsPower e a = Sharing 8 s (pow 8 x e) a

    shaped_squared : (e d : ℕ) → 2 * e ≡ d → {a : List ℕ} → IsPower e a → Shaped (IsPower d) (square_shape s) (square 8 s a)
    shaped_squared e d p h =
        shaped_weaken (shaped_square ring_8 s nine h)
        (λ c q. subst (λ (y : ℕ). Sharing 8 s y c) (sym (pow_twice ring_8 x e small) ∙ ap (pow 8 x) p) q)

    shaped_times : (d e c : ℕ) → d + e ≡ c → {a b : List ℕ} → IsPower d a → IsPower e b → Shaped (IsPower c) (product_shape 8 s) (product 8 s a b)
    shaped_times d e c p {a} {b} ha hb =
        shaped_weaken (shaped_product ring_8 s (pow 8 x d) (pow 8 x e) a b nine ha hb)
        (λ v h. subst (λ (y : ℕ). Sharing 8 s y v) (sym (pow_add ring_8 x d e small) ∙ ap (pow 8 x) p) h.1)

    -- p are the powers of x to the power e
    record ArePowers (e : ℕ) (p : Powers) : Type 0 where
      is_second : IsPower (2 * e) p.second
      is_fourth : IsPower (4 * e) p.fourth
      is_eighth : IsPower (8 * e) p.eighth

    shaped_powers : (e : ℕ) {a : List ℕ} → IsPower e a → Shaped (ArePowers e) (powers_shape s) (powers s a)
    unfolding powers powers_shape
    shaped_powers e h =
        shaped_bind (shaped_squared e (2 * e) refl h) λ y₂ h₂.
        shaped_bind (shaped_squared (2 * e) (4 * e) (omega arith) h₂) λ y₄ h₄.
        shaped_map (λ y₈. record { second = y₂; fourth = y₄; eighth = y₈ }) (shaped_squared (4 * e) (8 * e) (omega arith) h₄)
        (λ y₈ h₈. record { is_second = h₂; is_fourth = h₄; is_eighth = h₈ })

    shaped_sixteenth : {a : List ℕ} → IsPower 1 a → Shaped (IsPower 16) (sixteenth_shape s) (sixteenth s a)
    unfolding sixteenth sixteenth_shape
    shaped_sixteenth h = shaped_bind (shaped_powers 1 h) λ p hp. shaped_squared 8 16 refl hp.is_eighth

    shaped_multiplied : {b : List ℕ} {p : Powers} → IsPower 16 b → ArePowers 17 p → Shaped (IsPower 254) (multiplied_shape s) (multiplied s b p)
    unfolding multiplied multiplied_shape
    shaped_multiplied h₁₆ h =
        shaped_bind (shaped_times 16 34 50 refl h₁₆ h.is_second) λ x₅₀ h₅₀.
        shaped_bind (shaped_times 50 68 118 refl h₅₀ h.is_fourth) λ x₁₁₈ h₁₁₈.
        shaped_times 118 136 254 refl h₁₁₈ h.is_eighth

    shaped_inverted : {a : List ℕ} → Sharing 8 s x a → Shaped (IsPower 254) (inverted_shape s) (inverted s a)
    unfolding inverted inverted_shape
    shaped_inverted {a} h =
        let h₁ : IsPower 1 a = rw (pow_one ring_8 x) h in
        shaped_bind (shaped_sixteenth h₁) λ x₁₆ h₁₆.
        shaped_bind (shaped_times 1 16 17 refl h₁ h₁₆) λ x₁₇ h₁₇.
        shaped_bind (shaped_powers 17 h₁₇) λ p hp.
        shaped_multiplied h₁₆ hp

  -- THE S-BOX SUBSTITUTES: given a sharing of a byte it ends in a sharing of the standard's S-box of it.
  pub substitutes : Substitutes substitute s (sbox_shape s) (sbox s)
  unfolding sbox sbox_shape substitute inverse
  substitutes x a h =
      shaped_bind (shaped_inverted x (subst (λ (v : ℕ). v < 2 ^ 8) h.joins (join_small 8 a h.small)) h) λ y hy. shaped_affine hy

-- ---- it hides

module _ (s u : ℕ) where
  coupled_affine : {a b : List ℕ} → Close 8 u a b → Coupled u (Close 8 u) (affine s a) (affine s b)
  unfolding affine affine_share
  coupled_affine {a} {b} h =
      coupled_by_share s (λ i. coupled_note i (close_add (linear i) (close_same (constant_small 8 i affine_constant (lit< tt)))))
    where
      linear : (i : ℕ) → CloseAt 8 u i (linear_part (share a i)) (linear_part (share b i))
      linear i = record {
        agree = λ f. ap linear_part (h.agree i f);
        small = linear_part_lt (share a i);
        small' = linear_part_lt (share b i);
      }

  -- powers on both sides
  record ClosePowers (p q : Powers) : Type 0 where
    close_second : Close 8 u p.second q.second
    close_fourth : Close 8 u p.fourth q.fourth
    close_eighth : Close 8 u p.eighth q.eighth

  coupled_powers : {a b : List ℕ} → Close 8 u a b → Coupled u ClosePowers (powers s a) (powers s b)
  unfolding powers
  coupled_powers c =
      coupled_bind (coupled_square ring_8 s u c) λ x₂ y₂ c₂.
      coupled_bind (coupled_square ring_8 s u c₂) λ x₄ y₄ c₄.
      coupled_bind (coupled_square ring_8 s u c₄) λ x₈ y₈ c₈.
      coupled_return (record { close_second = c₂; close_fourth = c₄; close_eighth = c₈ })

  coupled_sixteenth : {a b : List ℕ} → Close 8 u a b → Coupled u (Close 8 u) (sixteenth s a) (sixteenth s b)
  unfolding sixteenth
  coupled_sixteenth c = coupled_bind (coupled_powers c) λ p q h. coupled_square ring_8 s u h.close_eighth

  -- THE S-BOX HIDES each share: of sharings that agree but for share u, its two runs are coupled but for share u.
  pub hides : Hides u (sbox s)
  unfolding sbox inverted multiplied
  hides a b c₁ =
      coupled_bind
      (coupled_bind (coupled_sixteenth c₁) λ x₁₆ y₁₆ c₁₆.
      coupled_bind (coupled_product ring_8 u c₁ c₁₆ s) λ x₁₇ y₁₇ c₁₇.
      coupled_bind (coupled_powers c₁₇) λ p q c.
      coupled_bind (coupled_product ring_8 u c₁₆ c.close_second s) λ x₅₀ y₅₀ c₅₀.
      coupled_bind (coupled_product ring_8 u c₅₀ c.close_fourth s) λ x₁₁₈ y₁₁₈ c₁₁₈.
      coupled_product ring_8 u c₁₁₈ c.close_eighth s) λ x₂₅₄ y₂₅₄ c₂₅₄.
      coupled_affine c₂₅₄

-- ---- what it takes

-- a count that is q for each step of one share and p for each product
module _ {f : Shape → ℕ} (c : Counting f) (q : ℕ) (h : (i : ℕ) → f (step_of (one i) ∷ []) ≡ q) (s p : ℕ) (e : f (product_shape 8 s) ≡ p) where
  counts_square : f (square_shape s) ≡ s * q
  unfolding square_shape
  counts_square = counts_for c q 0 s (λ i. step_of (one i) ∷ []) h ∙ rw sub-zero

  counts_sbox : f (sbox_shape s)
      ≡ s * q + (s * q + s * q) + s * q + (p + (s * q + (s * q + s * q) + (p + (p + p)))) + s * q
  unfolding sbox_shape inverted_shape sixteenth_shape powers_shape multiplied_shape
  counts_sbox =
      let b = counts_square in
      let three = c.both _ _ ∙ ap₂ ◌+◌ b (c.both _ _ ∙ ap₂ ◌+◌ b b) in
      c.both _ _ ∙ ap₂ ◌+◌
      (c.both _ _ ∙ ap₂ ◌+◌ (c.both _ _ ∙ ap₂ ◌+◌ three b)
      (c.both _ _ ∙ ap₂ ◌+◌ e
      (c.both _ _ ∙ ap₂ ◌+◌ three
      (c.both _ _ ∙ ap₂ ◌+◌ e (c.both _ _ ∙ ap₂ ◌+◌ e e))))) b

pub sbox_steps_lem : (s : ℕ) → steps_of (sbox_shape s) ≡ 12 * s + 14 * (s * (s - 1))
unfolding touches_of
sbox_steps_lem s =
    let h = pairs_twice s in
    counts_sbox counts_steps 1 (λ i. refl) s (s + 7 * (s * (s - 1) / 2)) (product_steps 8 s) ∙ omega arith

pub sbox_draws_lem : (s : ℕ) → draws_of (sbox_shape s) ≡ 2 * (s * (s - 1))
unfolding bits_of
sbox_draws_lem s =
    let h = pairs_twice s in
    counts_sbox counts_draws 0 (λ i. refl) s (s * (s - 1) / 2) (product_draws 8 s) ∙ omega arith

pub sbox_products_lem : (s : ℕ) → products_of (sbox_shape s) ≡ 4
unfolding products_of
sbox_products_lem s = counts_sbox counts_products 0 (λ i. refl) s 1 (product_products 8 s) ∙ omega arith

uniform_square : (s : ℕ) → Uniform 8 (square_shape s)
unfolding square_shape bits_of
uniform_square s = uniform_for 8 0 s (λ i. step_of (one i) ∷ []) (λ i. refl)

pub uniform_sbox : (s : ℕ) → Uniform 8 (sbox_shape s)
unfolding sbox_shape inverted_shape sixteenth_shape powers_shape multiplied_shape
uniform_sbox s =
    let b = uniform_square s in
    let p = uniform_product 8 s in
    let three = uniform_append 8 _ _ b (uniform_append 8 _ _ b b) in
    uniform_append 8 _ _
    (uniform_append 8 _ _ (uniform_append 8 _ _ three b)
    (uniform_append 8 _ _ p (uniform_append 8 _ _ three (uniform_append 8 _ _ p (uniform_append 8 _ _ p p))))) b
